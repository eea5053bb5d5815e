use mathlib.Core.Path.{refl}
use native.Mathlib.Omega.{arith}
use Rattle.case_lines.specs.Answers.{accepted_word}
use Rattle.eif_lines.proofs.Parts.{text_filled, text_counts}
use Rattle.case_lines.proofs.accepted.Goals as goal

-- `case_lines::accepted` meets its contract: the word over the start of an empty buffer. Assumes nothing.
pub returns : goal.returns
returns c =
    let p = c.copy.ensures in
    let e = c.empty-bytes.ensures in
    record { value = text_filled _ accepted_word _ 8 e p refl (omega arith); prefix_len = text_counts _ accepted_word _ 8 e p refl (omega arith) }
