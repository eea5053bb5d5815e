-- The verdict on a plan: fields, types and sizes, one after the other.
-- Assumes nothing.
use Prim.Native.Nat.{ℕ}
use mathlib.Core.Path.{◌≡◌, ap}
use borrow.Author.Tests.{ne_eqb}
use Rattle.eif.specs.Answers.{refuse, and_then, whole_verdict}
use Rattle.eif.specs.Rules.{field_fault, types_verdict}
use Rattle.eif.specs.Plan.{planned_kind, size_fault, plan_verdict}
use Rattle.eif.specs.declared.Plan.{Plan}
use Rattle.eif.specs.declared.Refusal.{Refusal}
use Rattle.eif.specs.declared.Verdict.{Verdict}
use Rattle.eif.specs.declared.Verdict.TheVariants.{Accepted, Refused}

module _ (p : Plan) (given : ℕ) where
  abbrev types : Verdict
  types = types_verdict p.version (planned_kind p.places) p.count

  pub by_fields : (field_fault p.version p.count ≡ 0 → ⊥) → refuse (field_fault p.version p.count) 0 ≡ plan_verdict p given
  unfolding plan_verdict
  by_fields h = simp (ne_eqb _ _ h)

  module _ (fields : field_fault p.version p.count ≡ 0) where
    pub by_types : (r : Refusal) → types ≡ Refused r → Refused r ≡ plan_verdict p given
    unfolding plan_verdict
    by_types r e = simp (fields, e)

    module _ (good : types ≡ Accepted) where
      pub by_sizes : (size_fault p given ≡ 0 → ⊥) → refuse (size_fault p given) 0 ≡ plan_verdict p given
      unfolding plan_verdict
      by_sizes h = simp (fields, good, ne_eqb _ _ h)

      pub by_none : size_fault p given ≡ 0 → Accepted ≡ plan_verdict p given
      unfolding plan_verdict
      by_none h = simp (fields, good, h)

-- of two lengths of data, where the rules on sizes say the same
pub by_same_sizes : (p : Plan) (a b : ℕ) → size_fault p a ≡ size_fault p b → plan_verdict p a ≡ plan_verdict p b
unfolding plan_verdict
by_same_sizes p a b e =
    ap (λ (n : ℕ). and_then (whole_verdict (field_fault p.version p.count)) (and_then (types_verdict p.version (planned_kind p.places) p.count) (whole_verdict n))) e
