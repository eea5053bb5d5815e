-- What a staged view that is not refused says of the base, the two numbers and the image written afresh, and back.
-- Assumes nothing.
use Prim.Native.Nat.{ℕ, ◌<◌, ◌≤◌}
use mathlib.Core.Path.{◌≡◌, ap}
use mathlib.Core.List.{List}
use native.Mathlib.Omega.{arith}
use borrow.Author.Tests.{leb-false, ltb-false, lt-leb, le-ltb}
use Rattle.eif.specs.Numbers.{size_limit}
use Rattle.eif.specs.Layout.{header_flags_of, count_of}
use Rattle.eif.specs.Reading.{verdict_of, read_image, sections_of}
use Rattle.eif.specs.Plan.{plain_size}
use Rattle.staged.specs.Staged.{staged_plan, staged_verdict}
use Rattle.eif.specs.declared.Reading.{Reading}
use Rattle.eif.specs.declared.Verdict.TheVariants.{Accepted}
use Rattle.octets.proofs.Logic.{either_false}
use Rattle.eif_lemmas.proofs.Reading.{reading_accepted}
use Rattle.eif_lemmas.proofs.Verdicts.{then_accepted, refused_not}

pub record Stages (s : List ℕ) (size k j : ℕ) : Type 0 where
  pub accepted : verdict_of s ≡ Accepted
  pub replaced : k < count_of s
  pub shown : j < count_of s
  pub small : plain_size (staged_plan s k size) ≤ size_limit

-- what the reading of an accepted base has
module _ (s : List ℕ) (ok : verdict_of s ≡ Accepted) where
  pub count_is : (read_image s).count ≡ count_of s
  count_is = ap (λ (x : Reading). x.count) (reading_accepted s ok)

  pub base_flags : (read_image s).flags ≡ header_flags_of s
  base_flags = ap (λ (x : Reading). x.flags) (reading_accepted s ok)

  pub base_sections : (read_image s).sections ≡ sections_of s
  base_sections = ap (λ (x : Reading). x.sections) (reading_accepted s ok)

module _ (s : List ℕ) (size k j : ℕ) where
  pub staged→ : staged_verdict s size k j ≡ Accepted → Stages s size k j
  unfolding staged_verdict
  staged→ e =
      let a = then_accepted _ _ e in
      let n = count_is s a.0 in
      let b = refused_not _ _ _ a.1 in
      let c = either_false _ _ b.0 in
      let d = refused_not _ _ _ b.1 in
      let kc : k < (read_image s).count = leb-false _ _ c.0 in
      let jc : j < (read_image s).count = leb-false _ _ c.1 in
      record { accepted = a.0; replaced = omega arith; shown = omega arith; small = ltb-false _ _ d.0 }

  pub →staged : Stages s size k j → staged_verdict s size k j ≡ Accepted
  unfolding staged_verdict
  →staged a =
      let n = count_is s a.accepted in
      let kc : k < (read_image s).count = let h = a.replaced in omega arith in
      let jc : j < (read_image s).count = let h = a.shown in omega arith in
      simp (a.accepted, lt-leb _ _ kc, lt-leb _ _ jc, le-ltb _ _ a.small)
