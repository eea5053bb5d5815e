-- A piece that was taken is held with its bytes as long as its transfer is open, whatever records come; so a repeat with equal bytes, however
-- much later, is taken and changes nothing. Assumes nothing.
use Prim.Native.Nat.{ℕ, ◌+◌, ◌/◌, ◌<◌}
use mathlib.Core.Path.{◌≡◌, sym, ap, subst, ◌∙◌}
use mathlib.Core.Bool.{true, false, not}
use mathlib.Core.List.{List}
use mathlib.Core.Logic.{⊎_elim}
use native.Mathlib.Omega.{arith}
use borrow.Author.Tests.{eqb-true, eqb-false, ne_eqb, not-true, not-false}
use lib.ListN.{length, take, drop, get_or}
use lib.Seq.{get_or-set_other}
use Rattle.octets.proofs.Over.{length_over}
use Rattle.octets.proofs.Fields.{part_byte}
use Rattle.eif.specs.declared.Verdict.TheVariants.{Accepted}
use Rattle.assembler.specs.Records.{piece_size, piece_kind, kind_in, number_in, data_in, place_in}
use Rattle.assembler.specs.Rules.{is_opened, is_held}
use Rattle.assembler.specs.Step.{stepped}
use Rattle.assembler.proofs.Faults.{LongEnough, PieceTaken, OnGrid}
use Rattle.assembler.proofs.Piece.{same_agrees, agrees_same, piece_in}
use Rattle.assembler_laws.specs.Run.{fault_at, Memory, answer_to, memory_after, run, StaysOpen, Repeated, Outside, PieceFor}
use Rattle.assembler_laws.proofs.Lists.{over_other, part_is}
use Rattle.assembler_laws.proofs.Accept.{piece_fine}
use Rattle.assembler_laws.proofs.Calls.{no_fault, repeat_keeps, piece_put, put_stands, put_held, while_open, taken_piece, put_enough, out_or_in, after_taken, run_keeps}

-- ---- a piece that is held with its bytes

-- a transfer is open, and these bytes at a start are a piece of its image that is held
record Stands (start : ℕ) (bytes : List ℕ) (w : Memory) : Type 0 where
  open_now : is_opened w.state ≡ true
  grid : OnGrid w.state.length start (length bytes)
  enough : LongEnough w.state (length w.image) (length w.marks)
  held_now : get_or w.marks (start / piece_size) 0 ≡ 0 → ⊥
  stands : take (length bytes) (drop start w.image) ≡ bytes

-- after a piece was taken
module _ (w : Memory) (r : List ℕ) (z : fault_at w r ≡ 0) (k : kind_in r ≡ piece_kind) where
  abbrev t : PieceTaken w.state r w.image w.marks
  t = taken_piece w r z k

  from_held : is_held r w.marks ≡ true → Stands (number_in r) (data_in r) w
  from_held h =
      record {
        open_now = t.open_now;
        grid = t.grid;
        enough = t.enough;
        held_now = eqb-false _ _ (not-true _ h);
        stands = agrees_same r w.marks w.image h t.agrees;
      }

  from_free : is_held r w.marks ≡ false → Stands (number_in r) (data_in r) (piece_put w r)
  from_free h =
      record {
        open_now = t.open_now;
        grid = t.grid;
        enough = put_enough w r z k t.enough;
        held_now = eqb-false _ _ (not-true _ (put_held w r z k));
        stands = put_stands w r z k;
      }

  taken_stands : Stands (number_in r) (data_in r) (memory_after w r)
  taken_stands = after_taken w r z k (Stands (number_in r) (data_in r)) from_held from_free

-- ---- and stays so

module _ (start : ℕ) (bytes : List ℕ) (w : Memory) (g : Stands start bytes w) (r : List ℕ) where
  -- another piece that is not held yet is another piece
  module _ (z : fault_at w r ≡ 0) (k : kind_in r ≡ piece_kind) (free : is_held r w.marks ≡ false) where
    other_place : start / piece_size ≡ place_in r → ⊥
    other_place e =
        g.held_now (ap (λ (n : ℕ). get_or w.marks n 0) e ∙ eqb-true _ _ (not-false _ free))

    stands_put : take (length bytes) (drop start (piece_put w r).image) ≡ bytes
    stands_put =
        let n = length_over w.image (number_in r) (data_in r) in
        let room = g.enough.image_room in
        let i = piece_in w.state.length start (length bytes) g.grid.inside g.grid.sized in
        part_is (piece_put w r).image start bytes (omega arith)
        (λ o p.
        over_other w.image (number_in r) (data_in r) (start + o) (apart o p)
        ∙ sym (part_byte (length bytes) start o w.image p) ∙ ap (λ (l : List ℕ). get_or l o 0) g.stands)
      where
        apart : (o : ℕ) → o < length bytes → Outside (start + o) r
        apart o p =
            let a = (t w r z k).grid.on_grid in
            let b = (t w r z k).grid.sized in
            let c = g.grid.on_grid in
            let d = g.grid.sized in
            ⊎_elim (λ q. q) (λ q. let e = q.0 in let f = q.1 in absurd (other_place (omega arith))) (out_or_in (start + o) r)

    piece_stays : Stands start bytes (piece_put w r)
    piece_stays =
        record {
          open_now = g.open_now;
          grid = g.grid;
          enough = put_enough w r z k g.enough;
          held_now = λ q. g.held_now (sym (get_or-set_other w.marks (place_in r) (start / piece_size) 1 0 other_place) ∙ q);
          stands = stands_put;
        }

  module _ (stays : is_opened (memory_after w r).state ≡ true) where
    after_piece : fault_at w r ≡ 0 → kind_in r ≡ piece_kind → Stands start bytes (memory_after w r)
    after_piece z k = after_taken w r z k (Stands start bytes) (λ h. g) (piece_stays z k)

    one_more : Stands start bytes (memory_after w r)
    one_more = while_open (Stands start bytes) w r g.open_now stays g after_piece

all_stand : (start : ℕ) (bytes : List ℕ) (rs : List (List ℕ)) (w : Memory) → StaysOpen w rs → Stands start bytes w → Stands start bytes (run w rs)
all_stand start bytes = run_keeps (Stands start bytes) (λ w r. is_opened (memory_after w r).state ≡ true) (λ w r stays g. one_more start bytes w g r stays)

-- ---- the repeat

pub repeat_changes_nothing : (w : Memory) (r : List ℕ) (rs : List (List ℕ)) (s : List ℕ) → Repeated w r rs s
    → (answer_to (run (memory_after w r) rs) s ≡ stepped Accepted (run (memory_after w r) rs).state 0) × (memory_after (run (memory_after w r) rs) s ≡ run (memory_after w r) rs)
repeat_changes_nothing w r rs s h =
    let v = run (memory_after w r) rs in
    let first = all_stand (number_in r) (data_in r) rs (memory_after w r) h.stays_open (taken_stands w r (no_fault w r h.taken) h.kind) in
    let bytes = subst (λ (l : List ℕ). Stands (number_in r) l v) (sym h.same_bytes_holds) first in
    let g = subst (λ (n : ℕ). Stands n (data_in s) v) (sym h.same_start) bytes in
    let b = g.grid in
    let yes : is_held s v.marks ≡ true = ap not (ne_eqb _ _ g.held_now) in
    let agrees = same_agrees s v.marks v.image g.stands in
    let fits : PieceFor v.state.length s =
    record { form = h.form_again; kind = h.kind_again; inside = b.inside; on_grid = b.on_grid; bytes_are = b.sized } in
    let z = piece_fine v.state s v.image v.marks g.open_now g.enough fits agrees in
    repeat_keeps v s z h.kind_again yes
