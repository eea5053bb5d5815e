-- Reading a roll gives the list of its records, and the bytes that the list points at are their data.
-- Assumes nothing.
use Prim.Native.Nat.{ℕ, zero, suc, ◌+◌, ◌-◌, ◌≤◌}
use mathlib.Core.Path.{◌≡◌, refl, sym, ap, ap₂, ◌∙◌}
use mathlib.Core.List.{List, [], ◌∷◌, ◌++◌, map}
use native.Mathlib.Omega.{arith}
use native.Mathlib.Nat.{sub-zero}
use lib.ListN.{length, take, drop, replicate}
use lib.Seq.{take_at}
use Rattle.eif.specs.Numbers.{place_count}
use Rattle.eif.specs.Table.{filled, in_table}
use Rattle.eif.specs.Roll.{Record, record_head_size, flags_record_size, roll_of, record_at, record_size, record_kind, listed_at, blank_record, accepted_roll}
use Rattle.eif.specs.declared.RollRecord.{RollRecord}
use Rattle.eif_lemmas.proofs.Table.{filled_none}
use Rattle.roll_laws.specs.Listing.{list_from, listing_of, found_in}
use Rattle.roll_laws.proofs.Positions.{first_record, next_record, data_there, rest_there, size_of_record, PlacesSay, say_first, say_later}
use Rattle.roll_laws.proofs.RollRules.{listed_roll}
use Rattle.eif_lemmas.proofs.Streams.{kind_of_record}

-- ---- what it points at

pub found_from : (t : List ℕ) (rs : List Record) (at : ℕ) → drop at t ≡ roll_of rs → map (found_in t) (list_from at rs) ≡ rs
unfolding roll_of
found_from t [] at e = refl
found_from t (r ∷ rs) at e =
    let b = ap (take (length r.bytes)) (data_there t at r (roll_of rs) e) ∙ take_at r.bytes (roll_of rs) (length r.bytes) refl in
    ap₂ (λ (x : List ℕ) (xs : List Record). record { kind = r.kind; bytes = x } ∷ xs) b
    (found_from t rs (at + record_head_size + length r.bytes) (rest_there t at r (roll_of rs) e))

-- ---- what reading gives

-- a list has an entry for each record
pub length_list : (at : ℕ) (rs : List Record) → length (list_from at rs) ≡ length rs
length_list at [] = refl
length_list at (r ∷ rs) = ap suc (length_list (at + record_head_size + length r.bytes) rs)

-- the records of a roll's rest from record i on are as in a list
pub record AreAt (t : List ℕ) (i : ℕ) (rs : List Record) : Type 0 where
  pub kind : PlacesSay (record_kind t) kind_of_record i rs
  pub size : PlacesSay (record_size t) size_of_record i rs

module _ (t : List ℕ) where
  later : (i : ℕ) (r : Record) (rs : List Record) → AreAt t i (r ∷ rs) → AreAt t (suc i) rs
  later i r rs a = record { kind = say_later (record_kind t) kind_of_record i r rs a.kind; size = say_later (record_size t) size_of_record i r rs a.size }

  first : (i at : ℕ) (r : Record) (rs : List Record) → AreAt t i (r ∷ rs) → flags_record_size + record_at t i ≡ at
      → listed_at t i ≡ record { kind = r.kind; position = record { 0 = at + record_head_size }; length = record { 0 = length r.bytes } }
  first i at r rs a e =
      let k = say_first (record_kind t) kind_of_record i r rs a.kind in
      let q = ap (λ (x : ℕ). x + record_head_size) e in
      let n = say_first (record_size t) size_of_record i r rs a.size in
      λ u. record { kind = k u; position = record { 0 = q u }; length = record { 0 = n u } }

  filled_from : (rs : List Record) (m i at : ℕ) (f : ℕ → RollRecord) → length rs ≤ m → ((j : ℕ) → f j ≡ listed_at t (i + j)) → flags_record_size + record_at t i ≡ at → AreAt t i rs
      → filled f blank_record m (length rs) ≡ list_from at rs ++ replicate (m - length rs) blank_record
  filled_from [] m i at f h g e a = filled_none f blank_record m ∙ ap (λ (k : ℕ). replicate k blank_record) (sym (sub-zero m))
  filled_from (r ∷ rs) zero i at f h g e a = absurd (omega arith)
  filled_from (r ∷ rs) (suc m) i at f h g e a =
      let z : i + 0 ≡ i = omega arith in
      let n : suc m - suc (length rs) ≡ m - length rs = omega arith in
      let s = say_first (record_size t) size_of_record i r rs a.size in
      ap₂ (λ (x : RollRecord) (xs : List RollRecord). x ∷ xs) (g 0 ∙ ap (listed_at t) z ∙ first i at r rs a e)
      (filled_from rs m (suc i) (at + record_head_size + length r.bytes) (λ j. f (suc j)) (omega arith)
      (λ j. let y : i + suc j ≡ suc i + j = omega arith in g (suc j) ∙ ap (listed_at t) y)
      (omega (arith, next_record t i)) (later i r rs a)
      ∙ ap (λ (k : ℕ). list_from (at + record_head_size + length r.bytes) rs ++ replicate k blank_record) (sym n))

  pub listing_is : (flags : ℕ) (rs : List Record) → length rs ≤ place_count → AreAt t 0 rs → listed_roll flags t (length rs) ≡ listing_of flags rs
  unfolding in_table
  listing_is flags rs h a =
      let l : List RollRecord = list_from flags_record_size rs in
      ap (accepted_roll flags (length rs))
      (filled_from rs place_count 0 flags_record_size (listed_at t) h (λ j. let z : j ≡ 0 + j = omega arith in ap (listed_at t) z) (ap (λ (n : ℕ). flags_record_size + n) (first_record t)) a
      ∙ ap (λ (k : ℕ). l ++ replicate (place_count - k) blank_record) (sym (length_list flags_record_size rs)))
