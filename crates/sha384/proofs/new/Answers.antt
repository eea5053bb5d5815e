use Prim.Native.Nat.{ℕ}
use mathlib.Core.Path.{ap₂}
use mathlib.Core.List.{List}
use Rattle.sha384.specs.State.{initial_state}
use Rattle.sha384.specs.declared.State.{State}
use Rattle.sha384.proofs.new.Goals as goal

-- `sha384::new` meets its contract: it is the definition. Assumes nothing.
pub returns : goal.returns
unfolding initial_state
returns c = ap₂ (λ (w b : List ℕ). with w b) c.initial-words.ensures c.no_bytes-block.ensures
  where
    with : List ℕ → List ℕ → State
    with w b = record { words = w; block = b; total = 0 }
