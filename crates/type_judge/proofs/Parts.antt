-- What callers need: the rules over the lent types are those over any function that gives the same types.
-- Assumes nothing.
use Prim.Native.Nat.{ℕ, ◌<◌, ◌≤◌}
use mathlib.Core.Path.{◌≡◌, ap, ◌∙◌}
use mathlib.Core.List.{List}
use lib.ListN.{length, take, get_or}
use lib.Seq.{get_or-take, length-take-le}
use Rattle.eif.specs.Rules.{order_fault, boot_missing, missing}
use Rattle.eif_lemmas.proofs.Types.{order_same, boot_missing_same, missing_same}
use Rattle.type_judge.specs.Kinds.{listed_kind}

module _ (l : List ℕ) (f : ℕ → ℕ) (n : ℕ) (fits : n ≤ length l) (same : (j : ℕ) → j < n → get_or l j 0 ≡ f j) where
  part_length : length (take n l) ≡ n
  part_length = length-take-le n l fits

  part_at_holds : (j : ℕ) → j < n → listed_kind (take n l) j ≡ f j
  part_at_holds j h = rw get_or-take (same j h)

  pub order_part : (kind : ℕ) → order_fault (listed_kind (take n l)) kind (length (take n l)) ≡ order_fault f kind n
  order_part kind = ap (order_fault (listed_kind (take n l)) kind) part_length ∙ order_same (listed_kind (take n l)) f kind n part_at_holds

  pub boot_missing_part : boot_missing (listed_kind (take n l)) (length (take n l)) ≡ boot_missing f n
  boot_missing_part = ap (boot_missing (listed_kind (take n l))) part_length ∙ boot_missing_same (listed_kind (take n l)) f n part_at_holds

  pub missing_part : (version : ℕ) → missing (listed_kind (take n l)) version (length (take n l)) ≡ missing f version n
  missing_part version = ap (missing (listed_kind (take n l)) version) part_length ∙ missing_same (listed_kind (take n l)) f version n part_at_holds
