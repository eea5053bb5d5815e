-- Whatever records come between an accepted open and an accepted close, if each that is a piece agrees with m, the
-- close reports m's length and leaves m. So an accepted close never hands out a wrong or incomplete image. Assumes nothing.
use Prim.Native.Nat.{ℕ, ◌<◌, ◌≤◌}
use mathlib.Core.Path.{◌≡◌, sym, ap, subst, ◌∙◌}
use mathlib.Core.Bool.{true}
use mathlib.Core.List.{List, [], ◌∷◌}
use mathlib.Core.Logic.{⊎_elim}
use native.Mathlib.Omega.{arith}
use lib.ListN.{length, take, get_or}
use Rattle.octets.specs.Lists.{All}
use Rattle.eif.specs.Numbers.{size_limit}
use Rattle.assembler.specs.Records.{piece_kind, kind_in, pieces_of}
use Rattle.assembler.specs.Rules.{all_held, is_opened}
use Rattle.assembler.specs.declared.Stepped.{Stepped}
use Rattle.assembler.proofs.Faults.{accepted_open, accepted_close}
use Rattle.assembler_laws.specs.Run.{fault_at, Memory, answer_to, memory_after, run, Agrees, StaysOpen, AnyBetween, EachCall, holding, PieceFor}
use Rattle.assembler_laws.proofs.Lists.{no_gap}
use Rattle.assembler_laws.proofs.Calls.{no_fault, while_open, taken_fits}
use Rattle.assembler_laws.proofs.Transfer.{InProgress, size_is, open_now, one_piece, close_answer_holds, close_leaves, starts}

module _ (m x y : List ℕ) (image_room : length m ≤ length x) (mark_room : pieces_of (length m) ≤ length y) where
  -- any record that agrees and after which the transfer is open
  module _ (w : Memory) (g : InProgress m x y w) (r : List ℕ) (a : Agrees m r) (stays : is_opened (memory_after w r).state ≡ true) where
    after_piece : fault_at w r ≡ 0 → kind_in r ≡ piece_kind → InProgress m x y (memory_after w r)
    after_piece z k =
        let fits = subst (λ (n : ℕ). PieceFor n r) (size_is m x y image_room mark_room w g) (taken_fits w r z k) in
        (one_piece m x y image_room mark_room w g r (a fits)).1.open_still

    one_more : InProgress m x y (memory_after w r)
    one_more = while_open (InProgress m x y) w r (open_now m x y image_room mark_room w g) stays g after_piece

  all_in_progress : (rs : List (List ℕ)) (w : Memory) → InProgress m x y w → All (Agrees m) rs → StaysOpen w rs → InProgress m x y (run w rs)
  unfolding run All EachCall
  all_in_progress [] w g a s = g
  all_in_progress (r ∷ rs) w g a s = all_in_progress rs (memory_after w r) (one_more w g r a.0 s.0) a.1 s.1

  -- a close that is taken finds every piece held
  complete : (w : Memory) → InProgress m x y w → all_held (take (pieces_of w.state.length) w.marks) ≡ true
      → (k : ℕ) → k < pieces_of (length m) → get_or w.marks k 0 ≡ 1
  complete w g h k b =
      let n = g.marks_length in
      let t : all_held (take (pieces_of (length m)) w.marks) ≡ true = sym (ap (λ (j : ℕ). all_held (take (pieces_of j) w.marks)) (size_is m x y image_room mark_room w g)) ∙ h in
      ⊎_elim (λ e. absurd (no_gap w.marks (pieces_of (length m)) k t b (omega arith) e)) (λ e. e) (g.zero_or_one k b)

pub any_between : (m : List ℕ) (w : Memory) (o : List ℕ) (rs : List (List ℕ)) (c : List ℕ) → AnyBetween m w o rs c
    → ((answer_to (run (memory_after w o) rs) c).length ≡ length m)
    × (memory_after (run (memory_after w o) rs) c ≡ holding m w.image w.marks)
any_between m w o rs c h =
    let e = h.opens.announced in
    let t = accepted_open w.state o w.image w.marks (no_fault w o h.open_accepted) h.opens.kind in
    let i : length m ≤ length w.image = rw e at t.image_room in
    let j : pieces_of (length m) ≤ length w.marks = rw e at t.mark_room in
    let s : length m ≤ size_limit = rw e at t.within_limit in
    let x = w.image in
    let y = w.marks in
    let full = run (memory_after w o) rs in
    let g = all_in_progress m x y i j rs (memory_after w o) (starts m x y i j w.state t.not_open s o h.opens) h.agree h.stays_open in
    let z = no_fault full c h.close_accepted in
    let k = complete m x y i j full g (accepted_close full.state c full.image full.marks z h.closes.kind).all_here in
    (ap (λ (a : Stepped). a.length) (close_answer_holds m x y i j full g k c z h.closes.kind), close_leaves m x y i j full g k c z h.closes.kind)
