use mathlib.Core.Path.{refl}
use native.Mathlib.Omega.{arith}
use Rattle.json_check.proofs.Beyond.{passed_in_value, passed_in_name}
use Rattle.json_check.proofs.onward.Goals as goal
use Rattle.json_check.proofs.onward.Goals.{then-mode-eq-CHAR-via-then-mode-eq-CHAR, then-mode-eq-CHAR-via-else-mode-eq-CHAR+then-mode-eq-NAME_CHAR}

-- `json_check::onward` meets its contract: the bytes that it passes leave the mode as it is, in a string and in a name.
pub returns-then-mode-eq-CHAR : goal.returns-then-mode-eq-CHAR
returns-then-mode-eq-CHAR c =
    let e = c.past_chars.ensures in (
      e.0,
      e.1,
      elim c.then-mode-eq-CHAR.branch [
        | then-mode-eq-CHAR-via-then-mode-eq-CHAR w ↦ passed_in_value _ _ _ _ e.2 w.if-mode-eq-CHAR.true
        | then-mode-eq-CHAR-via-else-mode-eq-CHAR+then-mode-eq-NAME_CHAR w ↦ passed_in_name _ _ _ _ e.2 w.if-mode-eq-NAME_CHAR.true
      ],
    )

pub returns : goal.returns
returns c = (omega arith, omega arith, λ stack. refl)
