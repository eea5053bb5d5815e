use native.Mathlib.Omega.{arith}
use Rattle.eif_lemmas.proofs.Fields.{version_old, version_new, count_low, count_high, fields_fine}
use Rattle.type_judge.proofs.field_fault.Goals as goal

-- `type_judge::field_fault` meets its contract: each answer is that of the first test that fails. Assumes nothing.
pub returns-then-version-lt-OLDEST_VERSION : goal.returns-then-version-lt-OLDEST_VERSION
returns-then-version-lt-OLDEST_VERSION c = let a = c.args in version_old a.version a.count (omega arith)

pub returns-then-version-gt-NEWEST_VERSION : goal.returns-then-version-gt-NEWEST_VERSION
returns-then-version-gt-NEWEST_VERSION c = let a = c.args in version_new a.version a.count (omega arith) (omega arith)

pub returns-then-count-lt-FEWEST_SECTIONS : goal.returns-then-count-lt-FEWEST_SECTIONS
returns-then-count-lt-FEWEST_SECTIONS c = let a = c.args in count_low a.version a.count (omega arith) (omega arith) (omega arith)

pub returns-then-count-gt-PLACES : goal.returns-then-count-gt-PLACES
returns-then-count-gt-PLACES c = let a = c.args in count_high a.version a.count (omega arith) (omega arith) (omega arith) (omega arith)

pub returns : goal.returns
returns c = let a = c.args in fields_fine a.version a.count (omega arith) (omega arith) (omega arith) (omega arith)
