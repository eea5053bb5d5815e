use Prim.Native.Nat.{ℕ, ◌+◌, ◌<◌}
use mathlib.Core.Path.{◌≡◌, sym}
use mathlib.Core.Bool.{true}
use native.Mathlib.Omega.{arith}
use borrow.Author.Rules.{rules}
use borrow.Author.Tests.{lt-ltb}
use lib.Dec.{ltb}
use Rattle.octets.proofs.Logic.{left_over}
use Rattle.octets.proofs.passes.Goals as goal

-- `octets::passes` meets its contract: what is left below the limit is compared, which no sum can wrap. Assumes nothing.
first-over : (limit a b : ℕ) → limit < a → true ≡ ltb limit (a + b)
first-over limit a b h = sym (lt-ltb limit (a + b) (omega arith))

pub returns-then-limit-a : goal.returns-then-limit-a
returns-then-limit-a c = search (rules, first-over)

pub returns : goal.returns
returns c = search (rules, left_over)
