-- The rule 1 of a staged view is the rule 1 of a plan: for an accepted base that has both sections, the view is refused exactly where the
-- length of the image written afresh is, and alike.
-- Assumes nothing.
use Prim.Native.Nat.{ℕ, ◌<◌}
use mathlib.Core.Path.{◌≡◌, refl, ap, ◌∙◌, sym}
use mathlib.Core.List.{List, []}
use native.Mathlib.Omega.{arith}
use borrow.Author.Tests.{lt-leb, eq-eqb}
use lib.Dec.{ltb}
use Rattle.octets.specs.Logic.{choose}
use Rattle.eif.specs.Numbers.{size_limit, image_too_long}
use Rattle.eif.specs.Answers.{refuse, whole_verdict}
use Rattle.eif.specs.Rules.{field_fault, types_verdict}
use Rattle.eif.specs.Layout.{version_of, count_of}
use Rattle.eif.specs.Reading.{verdict_of, read_image}
use Rattle.eif.specs.Plan.{planned_kind, plain_size, data_before, size_fault, plan_verdict, plan_length}
use Rattle.eif.specs.declared.Plan.{Plan}
use Rattle.eif.specs.declared.Verdict.{Verdict}
use Rattle.eif.specs.declared.Verdict.TheVariants.{Accepted}
use Rattle.eif_lemmas.proofs.Verdicts.{then_accepted, at_choose}
use Rattle.plain_laws.proofs.WriteBack.{plan}
use Rattle.plain_laws.proofs.Plainness.{plan_accepted}
use Rattle.staged.specs.Staged.{staged_plan, staged_verdict}
use Rattle.staged.proofs.Accept.{count_is}
use Rattle.staged.proofs.Afresh.{changed_plan, plan_is, in_places_holds, kind_kept}

-- 1, or nothing
abbrev long : ℕ → Verdict
long size = choose (ltb size_limit size) (refuse image_too_long 0) Accepted

module _ (s : List ℕ) (size k j : ℕ) (ok : verdict_of s ≡ Accepted) (replaced : k < count_of s) where
  abbrev p : Plan
  p = changed_plan s [] k ok size

  same_kinds : planned_kind p.places ≡ planned_kind (plan s).places
  same_kinds = λ t i. kind_kept (plan s).places k size (in_places_holds s [] k ok replaced) i t

  -- the base's own plan meets the rules on fields and types, and these do not ask for a length
  planned : plan_verdict p (data_before p.places p.count) ≡ long (plain_size p)
  unfolding plan_verdict size_fault
  planned =
      let a = then_accepted _ _ (plan_accepted s ok) in
      let b = then_accepted _ _ a.1 in
      let types : types_verdict (version_of s) (planned_kind p.places) (count_of s) ≡ Accepted =
      ap (λ (f : ℕ → ℕ). types_verdict (version_of s) f (count_of s)) same_kinds ∙ b.0 in
      let fields : whole_verdict (field_fault p.version p.count) ≡ Accepted = a.0 in
      simp (fields, types, eq-eqb (data_before p.places p.count) _ refl) (sym (at_choose (ltb size_limit (plain_size p)) image_too_long 0 0 0 refl))

  module _ (shown : j < count_of s) where
    pub staged_limit : staged_verdict s size k j ≡ (plan_length (staged_plan s k size)).verdict
    unfolding staged_verdict plan_length
    staged_limit =
        let n = count_is s ok in
        let kc : k < (read_image s).count = omega arith in
        let jc : j < (read_image s).count = omega arith in
        let v : staged_verdict s size k j ≡ long (plain_size (staged_plan s k size)) = simp (ok, lt-leb _ _ kc, lt-leb _ _ jc) in
        v ∙ ap (λ (q : Plan). long (plain_size q)) (plan_is s [] k ok size)
        ∙ sym planned
        ∙ ap (λ (q : Plan). plan_verdict q (data_before q.places q.count)) (sym (plan_is s [] k ok size))
