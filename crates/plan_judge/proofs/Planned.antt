-- The length of a plan's image: the code judges the plan with the data that its image has, or with none where there is no image
-- within the limit, and that is the verdict for data as long as planned. Assumes nothing.
use Prim.Native.Nat.{ℕ}
use mathlib.Core.Path.{◌≡◌, refl, sym, ap, ◌∙◌}
use mathlib.Core.Logic.{⊎_elim}
use native.Mathlib.Omega.{arith}
use Rattle.eif.specs.Numbers.{place_count}
use Rattle.eif.specs.Rules.{field_fault}
use Rattle.eif.specs.Output.{written_for}
use Rattle.eif.specs.Plan.{plain_size, data_before, plan_verdict, plan_length}
use Rattle.eif.specs.declared.Plan.{Plan}
use Rattle.eif.specs.declared.Refusal.{Refusal}
use Rattle.eif.specs.declared.Verdict.TheVariants.{Accepted, Refused}
use Rattle.octets.proofs.Logic.{le_or_lt}
use Rattle.eif_lemmas.proofs.Fields.{fields}
use Rattle.plain_laws.proofs.PlanRules.{planned→}
use Rattle.plan_judge.specs.Size.{image_size, data_size}
use Rattle.plan_judge.proofs.Size.{limited_in, image_limited, data_some, size_over}
use Rattle.plan_judge.proofs.Verdict.{by_fields, by_same_sizes}

module _ (p : Plan) where
  abbrev planned : ℕ
  planned = data_before p.places p.count

  -- with no image within the limit, 5 or 1 comes before 15, whatever the data
  no_image : image_size p ≡ 0 → (a b : ℕ) → plan_verdict p a ≡ plan_verdict p b
  no_image z a b =
      ⊎_elim
      (λ few. by_same_sizes p a b (sym (size_over p (image_size p) few refl a z) ∙ size_over p (image_size p) few refl b z))
      (λ many.
      let h : field_fault p.version p.count ≡ 0 → ⊥ = λ e. let few = (fields p.version p.count e).few in absurd (omega arith) in
      sym (by_fields p a h) ∙ by_fields p b h)
      (le_or_lt p.count place_count)

  pub verdict_is : plan_verdict p (data_size p) ≡ plan_verdict p planned
  verdict_is =
      ⊎_elim
      (λ h. no_image (omega arith) (data_size p) planned)
      (λ h. ap (plan_verdict p) (sym (data_some p (λ z. omega arith))))
      (le_or_lt (image_size p) 0)

  pub length_refused : (r : Refusal) → plan_verdict p planned ≡ Refused r → written_for (Refused r) 0 ≡ plan_length p
  unfolding plan_length
  length_refused r e = simp e

  pub length_accepted : plan_verdict p planned ≡ Accepted → written_for Accepted (image_size p) ≡ plan_length p
  unfolding plan_length
  length_accepted e =
      let a = planned→ p planned e in
      let n : image_size p ≡ plain_size p = sym (image_limited p a.fields.few) ∙ sym (limited_in (plain_size p) a.small) in
      simp (e, n)
