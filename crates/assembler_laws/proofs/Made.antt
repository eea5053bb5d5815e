-- The three records as bytes are an open, a piece and a close, so every image up to the limit has a transfer: the laws are about
-- something. Assumes nothing.
use Prim.Native.Nat.{ℕ, zero, suc, ◌+◌, ◌*◌, ◌^◌, ◌<◌, ◌≤◌}
use mathlib.Core.Path.{◌≡◌, refl, sym, ap, ◌∙◌}
use mathlib.Core.Bool.{true}
use mathlib.Core.List.{List, [], ◌++◌}
use mathlib.Core.Logic.{inl, inr, ⊎_elim}
use native.Mathlib.Omega.{arith}
use native.Mathlib.Nat.{lt_of_le_of_lt, eq-or-lt_of_le}
use borrow.Author.Tests.{le-leb}
use lib.Dec.{lit<}
use lib.ListN.{length, take, drop, length-take, length-append}
use Rattle.octets.specs.Lists.{All}
use Rattle.octets.specs.Bytes.{le_bytes, le_field}
use Rattle.octets.proofs.Value.{le_field_at}
use Rattle.eif.specs.Numbers.{size_limit}
use Rattle.eif.specs.Roll.{record_head_size, head_of}
use Rattle.eif_lemmas.proofs.Head.{length_head, head_size, head_kind}
use Rattle.assembler.specs.Records.{piece_size, number_size, open_kind, piece_kind, number_in, data_in, size_fits, formed, pieces_of, place_in}
use Rattle.assembler.specs.Step.{fresh_state}
use Rattle.assembler.proofs.Form.{formed_fits}
use Rattle.assembler_laws.specs.Run.{memory, OpenFor, PieceOf, Close, Sent, Pieces, Transfer}
use Rattle.assembler_laws.specs.Made.{open_record, close_record, piece_record_at, pieces_from, all_pieces}

-- ---- what the fields say

form_is : (size kind : ℕ) (rest : List ℕ) → size < 2 ^ 64 → kind < 2 ^ 16 → size ≡ length rest → size_fits kind size ≡ true
    → formed (head_of size kind ++ rest) ≡ true
form_is size kind rest a b e f =
    let n = length-append (head_of size kind) rest in
    let m = length_head size kind in
    sym (formed_fits (head_of size kind ++ rest) (omega arith) size (sym (head_size size kind rest a)) (omega arith) kind (sym (head_kind size kind rest b)))
    ∙ f

number_in_holds : (size kind n : ℕ) (rest : List ℕ) → n < 256 ^ number_size → number_in (head_of size kind ++ (le_bytes number_size n ++ rest)) ≡ n
number_in_holds size kind n rest a = le_field_at number_size n record_head_size (head_of size kind) rest (length_head size kind) a

bytes_in : (size kind n : ℕ) (rest : List ℕ) → data_in (head_of size kind ++ (le_bytes number_size n ++ rest)) ≡ rest
unfolding head_of
bytes_in size kind n rest = refl

-- ---- the records

small : (n : ℕ) → n ≤ size_limit + piece_size → n < 256 ^ 8
small n h = lt_of_le_of_lt h (lit< tt)

pub made_close : Close close_record
unfolding formed le_field head_of
made_close = record { form = refl; kind = refl }

pub made_open : (m : List ℕ) → length m ≤ size_limit → OpenFor m (open_record (length m))
made_open m h =
    let rest = le_bytes number_size (length m) in
    record {
      form = form_is number_size open_kind rest (lit< tt) (lit< tt) refl refl;
      kind = head_kind number_size open_kind rest (lit< tt);
      announced = number_in_holds number_size open_kind (length m) [] (small (length m) (omega arith));
    }

module _ (m : List ℕ) (h : length m ≤ size_limit) (k : ℕ) (b : k < pieces_of (length m)) where
  abbrev part : List ℕ
  part = take piece_size (drop (k * piece_size) m)

  part_size : number_size + length part ≤ size_limit + piece_size
  part_size = let t = length-take piece_size (drop (k * piece_size) m) in omega arith

  pub made_piece : PieceOf m (piece_record_at m k)
  made_piece =
      let size = number_size + length part in
      let rest = le_bytes number_size (k * piece_size) ++ part in
      let n = number_in_holds size piece_kind (k * piece_size) part (small (k * piece_size) (omega arith)) in
      let s = small size part_size in
      record {
        form = form_is size piece_kind rest s (lit< tt) (rest_size) (le-leb number_size size (omega arith));
        kind = head_kind size piece_kind rest (lit< tt);
        inside = omega arith;
        on_grid = omega arith;
        bytes_are = bytes_in size piece_kind (k * piece_size) part ∙ sym (ap (λ (i : ℕ). take piece_size (drop i m)) n);
      }
    where
      rest_size : number_size + length part ≡ length (le_bytes number_size (k * piece_size) ++ part)
      rest_size = omega arith

  pub made_place : place_in (piece_record_at m k) ≡ k
  made_place =
      let n = number_in_holds (number_size + length part) piece_kind (k * piece_size) part (small (k * piece_size) (omega arith)) in
      omega arith

-- ---- all pieces of m in order

module _ (m : List ℕ) (h : length m ≤ size_limit) where
  every_made : (count k : ℕ) → k + count ≤ pieces_of (length m) → All (PieceOf m) (pieces_from m count k)
  unfolding All pieces_from
  every_made zero k b = tt
  every_made (suc count) k b = (made_piece m h k (omega arith), every_made count (suc k) (omega arith))

  sent_made : (count k j : ℕ) → k + count ≤ pieces_of (length m) → k ≤ j → j < k + count → Sent j (pieces_from m count k)
  unfolding Sent pieces_from
  sent_made zero k j b c d = absurd (omega arith)
  sent_made (suc count) k j b c d =
      ⊎_elim
      (λ (e : k ≡ j). inl (made_place m h k (omega arith) ∙ e))
      (λ (e : k < j). inr (sent_made count (suc k) j (omega arith) e (omega arith)))
      (eq-or-lt_of_le c)

  pub made_pieces : Pieces m (all_pieces m)
  made_pieces =
      record {
        agree = every_made (pieces_of (length m)) 0 (omega arith);
        cover = λ k b. sent_made (pieces_of (length m)) 0 k (omega arith) (omega arith) (omega arith);
      }

  -- so every image up to the limit has a transfer, over any buffers with room for it
  pub made_transfer : (x y : List ℕ) → length m ≤ length x → pieces_of (length m) ≤ length y
      → Transfer m (memory fresh_state x y) (open_record (length m)) (all_pieces m) close_record
  made_transfer x y a b =
      record { closed = refl; small = h; image_room = a; mark_room = b; opens = made_open m h; pieces = made_pieces; closes = made_close }
