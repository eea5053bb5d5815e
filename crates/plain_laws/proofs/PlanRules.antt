-- A plan is accepted exactly when it meets every rule, said without an order of tests.
-- Assumes nothing.
use Prim.Native.Nat.{ℕ, ◌<◌, ◌≤◌}
use mathlib.Core.Path.{◌≡◌, refl, ap, ◌∙◌}
use mathlib.Core.Bool.{Bool, true, false, not}
use mathlib.Core.List.{List}
use native.Mathlib.Omega.{arith}
use borrow.Author.Tests.{le-ltb, eq-eqb, ltb-false, eqb-true, leb-true, not-false}
use lib.Dec.{eqb, ltb, leb}
use Rattle.eif.specs.Numbers.{size_limit, kernel, ramdisk, signature, metadata}
use Rattle.eif.specs.Rules.{type_fault, allowed_in, order_fault, missing, first_fault, missing_fault, types_verdict}
use Rattle.eif.specs.Plan.{planned_kind, plain_size, data_before, size_fault, plan_verdict}
use Rattle.eif.specs.declared.Place.{Place}
use Rattle.eif.specs.declared.Plan.{Plan}
use Rattle.eif.specs.declared.Verdict.TheVariants.{Accepted}
use Rattle.octets.proofs.Logic.{choose_zero, both_true}
use Rattle.eif_lemmas.proofs.Fields.{Fields, fields, fields_zero}
use Rattle.eif_lemmas.proofs.Types.{order_same, missing_same}
use Rattle.eif_lemmas.proofs.Verdicts.{then_accepted, accepted_zero, walk_accepted, walk_all}

-- what the first n types of an image, a plan or a roll have that the rules 9 to 12 of a version do not refuse
pub record TypesFine (version : ℕ) (kinds : ℕ → ℕ) (n : ℕ) : Type 0 where
  pub allowed : (i : ℕ) → i < n → allowed_in version (kinds i) ≡ true
  pub order : (i : ℕ) → i < n → order_fault kinds (kinds i) i ≡ 0
  pub none_missing : missing kinds version n ≡ false

-- the same types have it too
pub types_fine_same : (version : ℕ) (f g : ℕ → ℕ) (n : ℕ) → ((i : ℕ) → i < n → f i ≡ g i) → TypesFine version g n → TypesFine version f n
types_fine_same version f g n same t =
    record {
      allowed = λ i h. ap (allowed_in version) (same i h) ∙ t.allowed i h;
      order = λ i h. ap (λ (k : ℕ). order_fault f k i) (same i h) ∙ order_same f g (g i) i (λ j q. same j (omega arith)) ∙ t.order i h;
      none_missing = missing_same f g version n same ∙ t.none_missing;
    }

-- what a plan that is not refused has, with data of a length
pub record Planned (p : Plan) (given : ℕ) : Type 0 where
  pub fields : Fields p.version p.count
  pub types : TypesFine p.version (planned_kind p.places) p.count
  pub small : plain_size p ≤ size_limit
  pub sized : given ≡ data_before p.places p.count

-- ---- the rules 9, 10 and 11 at a place

module _ (version : ℕ) (l : List Place) (i : ℕ) where
  place_zero : type_fault version (planned_kind l) i ≡ 0 → (allowed_in version (planned_kind l i) ≡ true) × (order_fault (planned_kind l) (planned_kind l i) i ≡ 0)
  unfolding type_fault
  place_zero e = let a = choose_zero (not (allowed_in version (planned_kind l i))) _ _ e in (not-false _ a.0, a.1)

  zero_place : allowed_in version (planned_kind l i) ≡ true → order_fault (planned_kind l) (planned_kind l i) i ≡ 0 → type_fault version (planned_kind l) i ≡ 0
  unfolding type_fault
  zero_place a b = simp (a, b)

-- ---- all rules

module _ (p : Plan) (given : ℕ) where
  abbrev l : List Place
  l = p.places

  at_place : first_fault (type_fault p.version (planned_kind l)) p.count 0 ≡ Accepted → (i : ℕ) → i < p.count → type_fault p.version (planned_kind l) i ≡ 0
  at_place e i q = walk_accepted (type_fault p.version (planned_kind l)) p.count 0 e i (omega arith) (omega arith)

  pub planned→ : plan_verdict p given ≡ Accepted → Planned p given
  unfolding plan_verdict types_verdict missing_fault size_fault
  planned→ e =
      let a = then_accepted _ _ e in
      let b = then_accepted _ _ a.1 in
      let w = then_accepted _ _ b.0 in
      let y = choose_zero (ltb size_limit (plain_size p)) _ _ (accepted_zero _ _ _ b.1) in
      let z = choose_zero (not (eqb given (data_before l p.count))) _ _ y.1 in
      record {
        fields = fields p.version p.count (accepted_zero _ _ _ a.0);
        types = record {
          allowed = λ i q. (place_zero p.version l i (at_place w.0 i q)).0;
          order = λ i q. (place_zero p.version l i (at_place w.0 i q)).1;
          none_missing = (choose_zero (missing (planned_kind l) p.version p.count) _ 0 (accepted_zero _ _ _ w.1)).0;
        };
        small = ltb-false _ _ y.0;
        sized = eqb-true _ _ (not-false _ z.0);
      }

  module _ (a : Planned p given) where
    pub →planned : plan_verdict p given ≡ Accepted
    unfolding plan_verdict types_verdict missing_fault size_fault
    →planned =
        let walk = walk_all (type_fault p.version (planned_kind l)) p.count 0
        (λ i k q. zero_place p.version l i (a.types.allowed i (omega arith)) (a.types.order i (omega arith))) in
        simp (fields_zero p.version p.count a.fields, walk, a.types.none_missing, le-ltb _ _ a.small, eq-eqb _ _ a.sized)

-- a type that a version may hold is small
pub allowed_small : (version kind : ℕ) → allowed_in version kind ≡ true → kind ≤ metadata
unfolding allowed_in
allowed_small version kind e = go (eqb kind signature) (eqb kind metadata) refl refl
  where
    go : (a b : Bool) → eqb kind signature ≡ a → eqb kind metadata ≡ b → kind ≤ metadata
    go true b p q = let h = eqb-true kind signature p in omega arith
    go false true p q = let h = eqb-true kind metadata q in omega arith
    go false false p q = let h = leb-true kind ramdisk (both_true (leb kernel kind) (leb kind ramdisk) (simp (p, q) at e)).1 in omega arith
