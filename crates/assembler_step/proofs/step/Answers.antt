use Prim.Native.Nat.{ℕ}
use mathlib.Core.Path.{◌≡◌, sym, ap, ◌∙◌}
use mathlib.Core.List.{List}
use native.Mathlib.Nat.{lt_of_lt_of_le}
use lib.ListN.{length, replicate}
use Rattle.octets.specs.Over.{over}
use Rattle.eif.specs.declared.Verdict.{Verdict}
use Rattle.eif.specs.declared.Verdict.TheVariants.{Accepted}
use Rattle.assembler.specs.Records.{open_kind, piece_kind, kind_in, pieces_of}
use Rattle.assembler.specs.Rules.{fault_of}
use Rattle.assembler.specs.Step.{open_state, stepped}
use Rattle.assembler.specs.declared.State.{State}
use Rattle.assembler.proofs.Form.{formed_kinds}
use Rattle.assembler.proofs.Faults.{accepted_form, accepted_open, accepted_piece}
use Rattle.assembler.proofs.Piece.{place_in_holds}
use Rattle.assembler.proofs.Steps.{step_refused, step_opened, step_taken, step_closed}
use Rattle.assembler_step.proofs.step.Goals as goal
use Rattle.assembler_step.proofs.step.Goals.{After-le16-kind, After-le64-length, After-open_state-next, After-pieces, After-take_piece, Else-kind-eq-PIECE, Then-kind-eq-PIECE}

-- `assembler_step::step` meets its contract: a refusal changes nothing, and what is accepted goes by the record's kind.
-- Assumes nothing.
module _ (c : After-le16-kind) where
  abbrev st : State
  st = c.args.state

  abbrev r : List ℕ
  r = c.args.sent.now

  abbrev x : List ℕ
  x = c.args.image.now

  abbrev y : List ℕ
  y = c.args.marks.now

  fine : fault_of st r x y ≡ 0
  fine = sym c.judge-number.ensures ∙ c.if-number-ne0.false

  kind-is : (k : ℕ) → c.le16-kind.result ≡ k → kind_in r ≡ k
  kind-is k e = sym c.le16-kind.ensures ∙ e

  kind-not : (k : ℕ) → (c.le16-kind.result ≡ k → ⊥) → kind_in r ≡ k → ⊥
  kind-not k h e = h (c.le16-kind.ensures ∙ e)

pub returns-then-number-ne0 : goal.returns-then-number-ne0
returns-then-number-ne0 c = let a = c.args in
    let j = c.judge-number in
    let s = step_refused a.state a.sent.now a.image.now a.marks.now j.result j.ensures c.if-number-ne0.true in
    record { value = ap (λ (v : Verdict). stepped v a.state 0) c.refuse.ensures ∙ s.0; image_after = s.1; marks_after = s.2 }

-- an accepted answer with another state
with : (n : ℕ) (s t : State) → s ≡ t → stepped Accepted s n ≡ stepped Accepted t n
with n s t e = ap (λ (z : State). stepped Accepted z n) e

pub clear-requires : goal.clear-requires
clear-requires c = let l = (goal.at.clear-requires c).After-le64-length in
    let q = (goal.at.After-le64-length l).After-le16-kind in
    let t = accepted_open (st q) (r q) (x q) (y q) (fine q) (kind-is q open_kind l.if-kind-eq-OPEN.true) in
    rw (c.pieces.ensures ∙ ap pieces_of l.le64-length.ensures) t.mark_room

pub returns-then-kind-eq-OPEN : goal.returns-then-kind-eq-OPEN
returns-then-kind-eq-OPEN c = let p = (goal.at.returns-then-kind-eq-OPEN c).After-pieces in
    let o = (goal.at.After-pieces p).After-open_state-next in
    let l = (goal.at.After-open_state-next o).After-le64-length in
    let q = (goal.at.After-le64-length l).After-le16-kind in
    let s = step_opened (st q) (r q) (x q) (y q) (fine q) (kind-is q open_kind l.if-kind-eq-OPEN.true) in
    let n = p.pieces.ensures ∙ ap pieces_of l.le64-length.ensures in
    let e = o.open_state-next.ensures ∙ ap (λ (m : ℕ). open_state m (length (x q)) (length (y q))) l.le64-length.ensures in
    record { value = c.accepted.ensures ∙ with 0 _ _ e ∙ s.0; image_after = s.1; marks_after = c.clear.ensures ∙ ap (λ (m : ℕ). over (y q) 0 (replicate m 0)) n ∙ s.2 }

pub take_piece-requires : goal.take_piece-requires
take_piece-requires c = let q = (goal.at.take_piece-requires c).After-le16-kind in
    let t = accepted_piece (st q) (r q) (x q) (y q) (fine q) (kind-is q piece_kind c.if-kind-eq-PIECE.true) in
    record { data_at_in_bounds = t.whole; sent_in_bounds = lt_of_lt_of_le (place_in_holds _ _ t.grid.inside) t.enough.mark_room }

pub returns-then-kind-eq-PIECE : goal.returns-then-kind-eq-PIECE
returns-then-kind-eq-PIECE c = let p = (goal.at.returns-then-kind-eq-PIECE c).After-take_piece in
    let t = (goal.at.After-take_piece p).Then-kind-eq-PIECE in
    let q = (goal.at.Then-kind-eq-PIECE t).After-le16-kind in
    let s = step_taken (st q) (r q) (x q) (y q) (fine q) (kind-is q piece_kind t.if-kind-eq-PIECE.true) in
    record { value = c.accepted-then-kind-eq-PIECE.ensures ∙ s.0; image_after = p.take_piece.ensures.image_after ∙ s.1; marks_after = p.take_piece.ensures.marks_after ∙ s.2 }

pub returns : goal.returns
returns c = let e = (goal.at.returns c).Else-kind-eq-PIECE in
    let q = (goal.at.Else-kind-eq-PIECE e).After-le16-kind in
    let k =
    formed_kinds (r q) (accepted_form (st q) (r q) (x q) (y q) (fine q)) (kind-not q open_kind e.if-kind-eq-OPEN.false) (kind-not q piece_kind e.if-kind-eq-PIECE.false)
    in
    let s = step_closed (st q) (r q) (x q) (y q) (fine q) k in
    record { value = c.accepted-2.ensures ∙ with (st q).length _ _ c.new.ensures ∙ s.0; image_after = s.1; marks_after = s.2 }
