-- Where the records of a roll stand, and what reading finds there.
-- Assumes nothing.
use Prim.Native.Nat.{ℕ, zero, suc, ◌+◌, ◌<◌, ◌≤◌}
use mathlib.Core.Path.{◌≡◌, refl, sym, ap, ◌∙◌}
use mathlib.Core.List.{List, [], ◌∷◌, ◌++◌}
use native.Mathlib.Omega.{arith}
use lib.ListN.{length, drop, get_or}
use lib.Seq.{drop_at, drop-drop, drop-cons}
use Rattle.eif_lemmas.proofs.Head.{head_size, head_kind, head_past}
use Rattle.eif_lemmas.proofs.Table.{all_at}
use Rattle.octets.specs.Lists.{All}
use Rattle.octets.specs.Bytes.{le_field}
use Rattle.octets.proofs.Value.{le_field_drop, le_field_drop0}
use Rattle.eif.specs.Roll.{Record, record_head_size, head_of, roll_of, record_at, record_size, record_kind, record_type_at, record_length_at}
use Rattle.roll_laws.proofs.Prefix.{FitsHead}

-- ---- one record further

module _ (s : List ℕ) where
  pub first_record : record_at s 0 ≡ 0
  unfolding record_at
  first_record = refl

  pub next_record : (i : ℕ) → record_at s (suc i) ≡ record_at s i + record_head_size + record_size s i
  unfolding record_at
  next_record i = refl

-- ---- a record that stands somewhere

module _ (t : List ℕ) (at : ℕ) (r : Record) (rest : List ℕ) (e : drop at t ≡ head_of (length r.bytes) r.kind ++ (r.bytes ++ rest)) where
  -- after its head its data stand
  pub data_there : drop (at + record_head_size) t ≡ r.bytes ++ rest
  data_there = sym (drop-drop record_head_size at t) ∙ ap (drop record_head_size) e ∙ head_past (length r.bytes) r.kind (r.bytes ++ rest)

  -- and after these the rest
  pub rest_there : drop (at + record_head_size + length r.bytes) t ≡ rest
  rest_there =
      sym (drop-drop (length r.bytes) (at + record_head_size) t) ∙ ap (drop (length r.bytes)) data_there ∙ drop_at r.bytes rest (length r.bytes) refl

-- ---- the records of a roll

abbrev pub empty_record : Record
empty_record = record { kind = 0; bytes = [] }

abbrev pub size_of_record : Record → ℕ
size_of_record r = length r.bytes

module _ (f : ℕ → ℕ) (g : Record → ℕ) where
  -- the numbers f of the places from i on are those that g gives of the records
  abbrev pub PlacesSay : ℕ → List Record → Type 0
  PlacesSay i rs = (j : ℕ) → j < length rs → f (i + j) ≡ g (get_or rs j empty_record)

  pub say_first : (i : ℕ) (r : Record) (rs : List Record) → PlacesSay i (r ∷ rs) → f i ≡ g r
  say_first i r rs q = let z : i ≡ i + 0 = omega arith in ap f z ∙ q 0 (omega arith)

  pub say_later : (i : ℕ) (r : Record) (rs : List Record) → PlacesSay i (r ∷ rs) → PlacesSay (suc i) rs
  say_later i r rs q j h = let w : suc i + j ≡ i + suc j = omega arith in ap f w ∙ q (suc j) (omega arith)

  pub say_all : (rs : List Record) → ((j : ℕ) → j < length rs → f j ≡ g (get_or rs j empty_record)) → PlacesSay 0 rs
  say_all rs q j h = let z : 0 + j ≡ j = omega arith in ap f z ∙ q j h

module _ (rs : List Record) (fit : All FitsHead rs) where
  abbrev s : List ℕ
  s = roll_of rs

  pub here : (i : ℕ) → i < length rs
      → roll_of (drop i rs) ≡ head_of (length (get_or rs i empty_record).bytes) (get_or rs i empty_record).kind ++ ((get_or rs i empty_record).bytes ++ roll_of (drop (suc i) rs))
  unfolding roll_of
  here i h = rw (drop-cons rs i empty_record h)

  size_at_holds : (i : ℕ) → i < length rs → drop (record_at s i) s ≡ roll_of (drop i rs) → record_size s i ≡ length (get_or rs i empty_record).bytes
  size_at_holds i h e =
      le_field_drop0 8 (record_at s i) s ∙ ap (le_field 8 record_length_at) (e ∙ here i h)
      ∙ head_size (length (get_or rs i empty_record).bytes) (get_or rs i empty_record).kind _ (all_at FitsHead rs i empty_record h fit).2

  -- what stands from record i on is the roll of the records from i on
  pub suffix : (i : ℕ) → i ≤ length rs → drop (record_at s i) s ≡ roll_of (drop i rs)
  suffix zero h = ap (λ (n : ℕ). drop n s) (first_record s)
  suffix (suc i) h =
      let e = suffix i (omega arith) in
      ap (λ (n : ℕ). drop n s) (next_record s i ∙ ap (λ (n : ℕ). record_at s i + record_head_size + n) (size_at_holds i h e))
      ∙ rest_there s (record_at s i) (get_or rs i empty_record) (roll_of (drop (suc i) rs)) (e ∙ here i h)

  pub sizes : (i : ℕ) → i < length rs → record_size s i ≡ length (get_or rs i empty_record).bytes
  sizes i h = size_at_holds i h (suffix i (omega arith))

  pub kinds : (i : ℕ) → i < length rs → record_kind s i ≡ (get_or rs i empty_record).kind
  kinds i h =
      le_field_drop 2 record_type_at (record_at s i) s ∙ ap (le_field 2 record_type_at) (suffix i (omega arith) ∙ here i h)
      ∙ head_kind (length (get_or rs i empty_record).bytes) (get_or rs i empty_record).kind _ (all_at FitsHead rs i empty_record h fit).1
