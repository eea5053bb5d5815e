-- The rules on section types: each answer from what its tests give, and one verdict for all functions that give the same types.
-- Assumes nothing.
use Prim.Native.Nat.{ℕ, ◌≤◌}
use mathlib.Core.Path.{◌≡◌, sym, ap, ◌∙◌}
use mathlib.Core.Bool.{true, false}
use mathlib.Core.List.{List}
use native.Mathlib.Omega.{arith}
use lib.ListN.{length, take, length-take}
use lib.Seq.{get_or-take}
use Rattle.eif.specs.Numbers.{place_count, type_not_allowed, section_missing}
use Rattle.eif.specs.Answers.{refuse}
use Rattle.eif.specs.Rules.{type_fault, allowed_in, order_fault, missing, first_fault, types_verdict, missing_fault}
use Rattle.eif.specs.Plan.{planned_kind}
use Rattle.eif.specs.declared.Place.{Place}
use Rattle.eif.specs.declared.Refusal.{Refusal}
use Rattle.eif.specs.declared.Verdict.TheVariants.{Accepted, Refused}
use Rattle.eif_lemmas.proofs.Types.{types_same}
use Rattle.eif_lemmas.proofs.Table.{filled_at, length_filled}
use Rattle.type_judge.specs.Kinds.{listed_kind}
use Rattle.plan_judge.specs.Types.{kinds_of}

-- ---- the answers

module _ (version : ℕ) (kinds : ℕ → ℕ) (i : ℕ) where
  pub type_order : allowed_in version (kinds i) ≡ true → order_fault kinds (kinds i) i ≡ type_fault version kinds i
  unfolding type_fault
  type_order e = simp e

  pub type_other : allowed_in version (kinds i) ≡ false → type_not_allowed ≡ type_fault version kinds i
  unfolding type_fault
  type_other e = simp e

module _ (version : ℕ) (kinds : ℕ → ℕ) (n : ℕ) where
  pub types_stop : (r : Refusal) → Refused r ≡ first_fault (type_fault version kinds) n 0 → Refused r ≡ types_verdict version kinds n
  unfolding types_verdict
  types_stop r e = simp (sym e)

  module _ (walked : Accepted ≡ first_fault (type_fault version kinds) n 0) where
    pub types_missing : missing kinds version n ≡ true → refuse section_missing 0 ≡ types_verdict version kinds n
    unfolding types_verdict missing_fault
    types_missing e = simp (sym walked, e)

    pub types_fine : missing kinds version n ≡ false → Accepted ≡ types_verdict version kinds n
    unfolding types_verdict missing_fault
    types_fine e = simp (sym walked, e)

-- the first n types of a plan, lent
pub types_lent : (version : ℕ) (l : List Place) (n : ℕ) → n ≤ place_count
    → types_verdict version (listed_kind (take n (kinds_of l))) (length (take n (kinds_of l))) ≡ types_verdict version (planned_kind l) n
unfolding kinds_of
types_lent version l n h =
    let e : length (take n (kinds_of l)) ≡ n = simp (length-take, length_filled) (omega arith) in
    ap (types_verdict version (listed_kind (take n (kinds_of l)))) e
    ∙ types_same (listed_kind (take n (kinds_of l))) (planned_kind l) version n (λ j k. rw get_or-take (filled_at (planned_kind l) 0 0 place_count place_count j (omega arith) (omega arith)))
