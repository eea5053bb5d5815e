-- The rules 10, 11 and 12 carried from the sections of an image to the records of its roll. The earlier types are kept as a
-- list, the last one first, because the records have other places than the sections: `order_in` states the rules 10 and 11 over such a list,
-- and `order_known` joins it with `Rules.order_fault`. Assumes nothing.
use Prim.Native.Nat.{ℕ, zero, suc, ◌+◌, ◌<◌, ◌≤◌}
use mathlib.Core.Path.{◌≡◌, refl, sym, ap, ap₂, subst, ◌∙◌}
use mathlib.Core.Bool.{Bool, true, false}
use mathlib.Core.List.{List, [], ◌∷◌, map}
use native.Mathlib.Omega.{arith}
use borrow.Author.Tests.{ne_eqb}
use lib.Dec.{eqb}
use lib.ListN.{length}
use Rattle.octets.specs.Lists.{All}
use Rattle.eif.specs.Numbers.{place_count, kernel, ramdisk}
use Rattle.octets.specs.Logic.{choose, either}
use Rattle.eif.specs.Rules.{seen, order_fault, boot_type, order_of}
use Rattle.eif.specs.Table.{filled}
use Rattle.eif.specs.Reading.{blank_section, data_of}
use Rattle.eif.specs.Roll.{Record, record_for, records_by}
use Rattle.eif.specs.declared.Section.{Section}
use Rattle.octets.proofs.Logic.{not_both}
use Rattle.roll_laws.proofs.Sections.{over_sections}
use Rattle.roll_laws.proofs.Positions.{PlacesSay, say_first, say_later}
use Rattle.eif_lemmas.proofs.Streams.{kind_of_record}

-- ---- the rules over a list of earlier types

abbrev has : ℕ → List ℕ → Bool
has k [] = false
has k (x ∷ xs) = either (eqb x k) (has k xs)

pub order_in : List ℕ → ℕ → ℕ
order_in e k = order_of (eqb k ramdisk) (has kernel e) (has k e)

-- the earlier types after some records more
abbrev pub kinds_after : List ℕ → List Record → List ℕ
kinds_after e [] = e
kinds_after e (r ∷ rs) = kinds_after (r.kind ∷ e) rs

abbrev pub Ordered : List ℕ → List Record → Type 0
Ordered e [] = Unit
Ordered e (r ∷ rs) = (order_in e r.kind ≡ 0) × Ordered (r.kind ∷ e) rs

-- of the types that a roll holds, the list has those before place i
pub Knows : (ℕ → ℕ) → ℕ → List ℕ → Type 0
Knows kinds i e = (k : ℕ) → boot_type k ≡ true → has k e ≡ seen kinds k i

-- ---- the list and the places say the same

pub knows_none : (kinds : ℕ → ℕ) → Knows kinds 0 []
unfolding Knows seen
knows_none kinds k m = refl

-- two lists of places that a list knows
pub knows_both : (f g : ℕ → ℕ) (i j : ℕ) (e : List ℕ) → Knows f i e → Knows g j e → (k : ℕ) → boot_type k ≡ true → seen g k j ≡ seen f k i
unfolding Knows
knows_both f g i j e a b k m = sym (b k m) ∙ a k m

module _ (kinds : ℕ → ℕ) where
  order_known : (k i : ℕ) (e : List ℕ) → boot_type k ≡ true → Knows kinds i e → order_in e k ≡ order_fault kinds k i
  unfolding order_in order_fault Knows
  order_known k i e m h = simp (h kernel refl, h k m)

  knows_more : (i x : ℕ) (e : List ℕ) → x ≡ kinds i → Knows kinds i e → Knows kinds (suc i) (x ∷ e)
  unfolding Knows seen
  knows_more i x e q h k m = ap₂ (λ (y : ℕ) (b : Bool). either (eqb y k) b) q (h k m)

  knows_skip : (i : ℕ) (e : List ℕ) → boot_type (kinds i) ≡ false → Knows kinds i e → Knows kinds (suc i) e
  unfolding Knows seen
  knows_skip i e n h k m =
      let no : kinds i ≡ k → ⊥ = λ z. not_both (sym n ∙ ap boot_type z ∙ m) in
      h k m ∙ sym (ap (λ (b : Bool). either b (seen kinds k i)) (ne_eqb _ _ no))

-- ---- from the sections of an image to its records

pub record Follows (kinds : ℕ → ℕ) (i : ℕ) (e : List ℕ) (rs : List Record) : Type 0 where
  pub ordered : Ordered e rs
  pub knows : Knows kinds i (kinds_after e rs)

module _ (s : List ℕ) (kinds : ℕ → ℕ) (n : ℕ) where
  follow : (x : Section) (i : ℕ) (rest : List Section) → x.kind ≡ kinds i → order_fault kinds (kinds i) i ≡ 0
      → ((e : List ℕ) → Knows kinds (suc i) e → Follows kinds n e (map (record_for (data_of s)) rest))
      → (e : List ℕ) → Knows kinds i e → (b : Bool) → boot_type x.kind ≡ b → Follows kinds n e (map (record_for (data_of s)) (choose b (x ∷ rest) rest))
  follow x i rest q c again e k true t =
      let r = again (x.kind ∷ e) (knows_more kinds i x.kind e q k) in
      record { ordered = (order_known kinds x.kind i e t k ∙ ap (λ (a : ℕ). order_fault kinds a i) q ∙ c, r.ordered); knows = r.knows }
  follow x i rest q c again e k false t = again e (knows_skip kinds i e (ap boot_type (sym q) ∙ t) k)

  pub order_of_sections : (f : ℕ → Section) → n ≤ place_count → ((j : ℕ) → j < n → (f j).kind ≡ kinds j)
      → ((j : ℕ) → j < n → order_fault kinds (kinds j) j ≡ 0) → Follows kinds n [] (records_by (data_of s) (filled f blank_section place_count n))
  order_of_sections f h q o =
      over_sections n (λ x i. x.kind ≡ kinds i) (λ i l. (e : List ℕ) → Knows kinds i e → Follows kinds n e (map (record_for (data_of s)) l))
      (λ e k. record { ordered = tt; knows = k })
      (λ x i rest l is again e k. follow x i rest is (o i l) again e k (boot_type x.kind) refl)
      f h q [] (knows_none kinds)

-- ---- from records to their places in a roll

abbrev pub InRoll : Record → Type 0
InRoll r = boot_type r.kind ≡ true

module _ (kinds : ℕ → ℕ) where
  -- the places from i on have the records' types
  abbrev pub Types : ℕ → List Record → Type 0
  Types i rs = PlacesSay kinds kind_of_record i rs

  pub order_of_records : (rs : List Record) (i : ℕ) (e : List ℕ) → All InRoll rs → Types i rs → Knows kinds i e → Ordered e rs
      → (j : ℕ) → j < length rs → order_fault kinds (kinds (i + j)) (i + j) ≡ 0
  unfolding All
  order_of_records [] i e a q k o j h = absurd (omega arith)
  order_of_records (r ∷ rs) i e a q k o zero h =
      let z : i + 0 ≡ i = omega arith in
      ap₂ (λ (x y : ℕ). order_fault kinds x y) (q 0 (omega arith)) z ∙ sym (order_known kinds r.kind i e a.0 k) ∙ o.0
  order_of_records (r ∷ rs) i e a q k o (suc j) h =
      let y : suc i + j ≡ i + suc j = omega arith in
      subst (λ (x : ℕ). order_fault kinds (kinds x) x ≡ 0) y
      (order_of_records rs (suc i) (r.kind ∷ e) a.1 (say_later kinds kind_of_record i r rs q) (knows_more kinds i r.kind e (sym (say_first kinds kind_of_record i r rs q)) k) o.1 j (omega arith))

  pub knows_after : (rs : List Record) (i : ℕ) (e : List ℕ) → Types i rs → Knows kinds i e → Knows kinds (i + length rs) (kinds_after e rs)
  knows_after [] i e q k = let z : i ≡ i + 0 = omega arith in subst (λ (x : ℕ). Knows kinds x e) z k
  knows_after (r ∷ rs) i e q k =
      let y : suc i + length rs ≡ i + suc (length rs) = omega arith in
      subst (λ (x : ℕ). Knows kinds x (kinds_after (r.kind ∷ e) rs)) y
      (knows_after rs (suc i) (r.kind ∷ e) (say_later kinds kind_of_record i r rs q) (knows_more kinds i r.kind e (sym (say_first kinds kind_of_record i r rs q)) k))
