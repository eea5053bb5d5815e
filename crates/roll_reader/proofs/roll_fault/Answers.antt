use Prim.Native.Nat.{ℕ}
use mathlib.Core.Path.{◌≡◌, sym, ◌∙◌}
use mathlib.Core.List.{List}
use native.Mathlib.Omega.{arith}
use Rattle.eif.specs.Rules.{boot_missing}
use Rattle.eif.specs.Roll.{record_kind}
use Rattle.roll_reader.proofs.Records.{kept_length, kept_missing}
use Rattle.roll_reader.proofs.Ending.{image_size_holds, roll_more_holds, roll_missing, roll_long, roll_good}
use Rattle.roll_reader.proofs.roll_fault.Goals as goal
use Rattle.roll_reader.proofs.roll_fault.Goals.{After-lacks_boot}

-- `roll_reader::roll_fault` meets its contract: each return is a rule of the whole roll, from the tests that led to it.
-- Assumes nothing.
-- ---- the rule 12, as it was asked
module _ (c : After-lacks_boot) where
  abbrev roll : List ℕ
  roll = c.args.rest.now

  abbrev n : ℕ
  n = c.args.n

  missing-is : boot_missing (record_kind roll) n ≡ c.lacks_boot.result
  missing-is =
      sym (c.lacks_boot.ensures ∙ kept_missing roll c.args.kinds.now n c.requires.n_le_place_count c.requires.kinds_value)

pub returns-then-end-rest : goal.returns-then-end-rest
returns-then-end-rest c = roll_more_holds c.args.rest.now c.args.n (omega arith)

pub slice_bounds-lacks_boot-end : goal.slice_bounds-lacks_boot-end
slice_bounds-lacks_boot-end c = kept_length c.args.rest.now c.args.kinds.now c.args.n c.requires.n_le_place_count c.requires.kinds_value

pub returns-then-lacks_boot : goal.returns-then-lacks_boot
returns-then-lacks_boot c = let q = (goal.at.returns-then-lacks_boot c).After-lacks_boot in
    roll_missing (roll q) (n q) (omega arith) (missing-is q ∙ c.if-lacks_boot.true)

pub returns-then-size-gt-SIZE_LIMIT : goal.returns-then-size-gt-SIZE_LIMIT
returns-then-size-gt-SIZE_LIMIT c = let q = (goal.at.returns-then-size-gt-SIZE_LIMIT c).After-lacks_boot in
    roll_long (roll q) (n q) (omega arith) (missing-is q ∙ c.if-lacks_boot.false) (omega (arith, image_size_holds (roll q) (n q)))

pub returns : goal.returns
returns c = let q = (goal.at.returns c).After-lacks_boot in
    roll_good (roll q) (n q) (omega arith) (missing-is q ∙ c.if-lacks_boot.false) (omega (arith, image_size_holds (roll q) (n q)))
