-- A refusal of a staged view, and of its roll, carries the number, the index and the position of the first rule that applies.
-- Assumes nothing.
use Prim.Native.Nat.{ℕ}
use mathlib.Core.Path.{◌≡◌, refl, ap, ◌∙◌}
use mathlib.Core.Bool.{Bool, true, false}
use mathlib.Core.List.{List}
use lib.Dec.{leb}
use lib.ListN.{length}
use Rattle.staged.specs.View.{staged_place}
use Rattle.eif.specs.Numbers.{no_such_section}
use Rattle.octets.specs.Logic.{either, choose}
use Rattle.eif.specs.Answers.{refuse, and_then}
use Rattle.eif.specs.Layout.{count_of}
use Rattle.eif.specs.Reading.{verdict_of, read_image}
use Rattle.eif.specs.Order.{first_that_applies, image_rules}
use Rattle.eif.specs.declared.Verdict.{Verdict}
use Rattle.eif.specs.declared.Verdict.TheVariants.{Accepted, Refused}
use Rattle.eif_laws.proofs.FirstApplies.{read_first, then_first}
use Rattle.staged.specs.Staged.{staged_plan, view_verdict, staged_verdict, staged_roll_verdict, staged_roll_length}
use Rattle.staged.specs.Order.{staged_rules, staged_roll_rules}
use Rattle.staged.proofs.Accept.{count_is}

-- one number for two tests
both_tests : {A : Type 0} (b c : Bool) (x y : A) → choose (either b c) x y ≡ choose b x (choose c x y)
both_tests true c x y = refl
both_tests false c x y = refl

module _ (s : List ℕ) (size k j : ℕ) where
  -- the tests of the view by a number of sections
  abbrev by : ℕ → Verdict
  by n = view_verdict n (staged_plan s k size) k j

  -- where the base is accepted its reading's count is the header's
  same_count : (v : Verdict) → verdict_of s ≡ v → and_then v (by (read_image s).count) ≡ and_then v (by (count_of s))
  same_count Accepted e = ap by (count_is s e)
  same_count (Refused r) e = refl

  pub staged_first : staged_verdict s size k j ≡ first_that_applies (staged_rules s size k j)
  unfolding staged_verdict staged_rules first_that_applies
  staged_first =
      same_count (verdict_of s) refl
      ∙ then_first (image_rules s) _ (read_first s) (both_tests (leb (count_of s) k) (leb (count_of s) j) (refuse no_such_section 0) _)

pub staged_roll_first : (s r : List ℕ) (k room : ℕ) → staged_roll_verdict s r k room ≡ first_that_applies (staged_roll_rules s r k room)
unfolding staged_roll_verdict staged_roll_rules first_that_applies
staged_roll_first s r k room = then_first (staged_rules s (length r) k k) _ (staged_first s (length r) k k) refl

-- where a section's data lies, and how long the roll is: the same rules as of the view
pub staged_place_first : (s : List ℕ) (size k j : ℕ) → (staged_place s size k j).verdict ≡ first_that_applies (staged_rules s size k j)
unfolding staged_place
staged_place_first s size k j = staged_first s size k j

pub staged_length_first : (s r : List ℕ) (k : ℕ) → (staged_roll_length s r k).verdict ≡ first_that_applies (staged_rules s (length r) k k)
unfolding staged_roll_length
staged_length_first s r k = staged_first s (length r) k k
