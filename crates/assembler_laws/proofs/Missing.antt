-- After an open, whatever records come, as long as none carries the piece of a place, a close is refused with 26 and changes nothing: what
-- was taken is there, and the transfer is still open. Assumes nothing.
use Prim.Native.Nat.{ℕ, ◌<◌}
use mathlib.Core.Path.{◌≡◌, ap, ◌∙◌}
use mathlib.Core.Bool.{true}
use mathlib.Core.List.{List}
use native.Mathlib.Omega.{arith}
use lib.ListN.{length, get_or}
use Rattle.eif.specs.Numbers.{piece_missing}
use Rattle.eif.specs.Answers.{refuse}
use Rattle.assembler.specs.Records.{open_kind, piece_kind, close_kind, kind_in, number_in, pieces_of}
use Rattle.assembler.specs.Rules.{is_opened}
use Rattle.assembler.specs.Step.{stepped}
use Rattle.assembler.proofs.Faults.{accepted_open, accepted_close, LongEnough}
use Rattle.assembler_laws.specs.Run.{fault_at, Memory, answer_to, memory_after, run, WithoutPiece, OtherPiece}
use Rattle.assembler_laws.proofs.Lists.{no_gap}
use Rattle.assembler_laws.proofs.Accept.{open_enough}
use Rattle.assembler_laws.proofs.Calls.{no_fault, missing_refused, marks_elsewhere, lengths_kept, after_any, opened_state, opened_marks, taken_state, run_keeps, at_each}

-- a transfer is open and the piece of a place is not held
record Lacks (k : ℕ) (w : Memory) : Type 0 where
  open_now : is_opened w.state ≡ true
  of_image : k < pieces_of w.state.length
  enough : LongEnough w.state (length w.image) (length w.marks)
  not_held : get_or w.marks k 0 ≡ 0

-- the open
module _ (k : ℕ) (w : Memory) (o : List ℕ) (z : fault_at w o ≡ 0) (kind : kind_in o ≡ open_kind) (inside : k < pieces_of (number_in o)) where
  opened_lacks : Lacks k (memory_after w o)
  opened_lacks =
      let t = accepted_open w.state o w.image w.marks z kind in
      let s = opened_state w o z kind in
      let l = lengths_kept w o in
      record {
        open_now = ap is_opened s;
        of_image = rw s inside;
        enough = rw (s, l.0, l.1) (open_enough (number_in o) (length w.image) (length w.marks) t.image_room t.mark_room);
        not_held = opened_marks w o z kind k inside;
      }

-- any record but a piece of that place
module _ (k : ℕ) (w : Memory) (g : Lacks k w) (r : List ℕ) (other : OtherPiece k r) where
  after_close : fault_at w r ≡ 0 → kind_in r ≡ close_kind → Lacks k (memory_after w r)
  after_close z e =
      let all = (accepted_close w.state r w.image w.marks z e).all_here in
      absurd (no_gap w.marks (pieces_of w.state.length) k all g.of_image g.enough.mark_room g.not_held)

  after_piece : fault_at w r ≡ 0 → kind_in r ≡ piece_kind → Lacks k (memory_after w r)
  after_piece z e =
      let s = taken_state w r z e in
      let l = lengths_kept w r in
      record {
        open_now = ap is_opened s ∙ g.open_now;
        of_image = rw s g.of_image;
        enough = rw (s, l.0, l.1) g.enough;
        not_held = marks_elsewhere w r k (λ q. omega arith, other) ∙ g.not_held;
      }

  still_lacks : Lacks k (memory_after w r)
  still_lacks = after_any (Lacks k) w r g.open_now g after_piece after_close

pub piece_missing_holds : (k : ℕ) (w : Memory) (o : List ℕ) (rs : List (List ℕ)) (c : List ℕ) → WithoutPiece k w o rs c
    → (answer_to (run (memory_after w o) rs) c ≡ stepped (refuse piece_missing 0) (run (memory_after w o) rs).state 0) × (memory_after (run (memory_after w o) rs) c ≡ run (memory_after w o) rs)
piece_missing_holds k w o rs c h =
    let v = run (memory_after w o) rs in
    let first = opened_lacks k w o (no_fault w o h.open_accepted) h.open_kind_holds h.of_image in
    let g = run_keeps (Lacks k) (λ u r. OtherPiece k r) (λ u r a l. still_lacks k u l r a) rs (memory_after w o) (at_each (OtherPiece k) rs (memory_after w o) h.not_sent) first in
    missing_refused v c h.closes g.open_now g.enough k g.of_image g.not_held
