use Prim.Native.Nat.{ℕ, ◌≤◌}
use mathlib.Core.Path.{◌≡◌, sym, ap, ◌∙◌}
use mathlib.Core.Bool.{false, not}
use mathlib.Core.List.{List}
use native.Mathlib.Omega.{arith}
use lib.ListN.{length, take}
use lib.Seq.{length-take-le}
use Rattle.eif.specs.Numbers.{piece_missing}
use Rattle.octets.specs.Logic.{choose}
use Rattle.assembler.specs.Records.{pieces_of}
use Rattle.assembler.specs.Rules.{all_held, short_for}
use Rattle.assembler.specs.ByKind.{close_fault}
use Rattle.assembler.specs.declared.State.{State}
use Rattle.assembler.proofs.Faults.{long_enough, pick_yes, pick_no}
use Rattle.assembler_judge.proofs.close_fault.Goals as goal
use Rattle.assembler_judge.proofs.close_fault.Goals.{After-all_held, Else-is_short}

-- `assembler_judge::close_fault` meets its contract: each return is the first rule on a close that applies. Assumes nothing.
pub returns-then-is_short : goal.returns-then-is_short
unfolding close_fault
returns-then-is_short c = pick_yes _ _ _ (sym c.is_short.ensures ∙ c.if-is_short.true)

-- both buffers are long enough
module _ (c : Else-is_short) where
  abbrev st : State
  st = c.args.state

  abbrev image : ℕ
  image = c.args.image

  abbrev y : List ℕ
  y = c.args.marks.now

  not_short : short_for st image (length y) ≡ false
  not_short = sym c.is_short.ensures ∙ c.if-is_short.false

  room : pieces_of st.length ≤ length y
  room = (long_enough st image (length y) not_short).mark_room

  rest : choose (not (all_held (take (pieces_of st.length) y))) piece_missing 0 ≡ close_fault st image y
  unfolding close_fault
  rest = pick_no _ _ _ not_short

pub slice_bounds-all_held-end : goal.slice_bounds-all_held-end
slice_bounds-all_held-end c = let e = c.pieces-count.ensures in
    let h = room (goal.at.slice_bounds-all_held-end c).Else-is_short in
    sym (length-take-le c.pieces-count.result _ (omega arith))

module _ (c : After-all_held) where
  abbrev q : Else-is_short
  q = (goal.at.After-all_held c).Else-is_short

  held-is : all_held (take (pieces_of (st q).length) (y q)) ≡ c.all_held.result
  held-is = sym (c.all_held.ensures ∙ ap (λ (n : ℕ). all_held (take n (y q))) c.pieces-count.ensures)

pub returns-then-all_held : goal.returns-then-all_held
returns-then-all_held c = pick_no _ _ _ (ap not (held-is (goal.at.returns-then-all_held c).After-all_held ∙ c.if-all_held.true)) ∙ rest (q (goal.at.returns-then-all_held c).After-all_held)

pub returns : goal.returns
returns c = pick_yes _ _ _ (ap not (held-is (goal.at.returns c).After-all_held ∙ c.if-all_held.false)) ∙ rest (q (goal.at.returns c).After-all_held)
