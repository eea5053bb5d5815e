use native.Mathlib.Omega.{arith}
use Rattle.eif_lines.specs.Lines.{refusal_then}
use Rattle.eif_lines.proofs.Parts.{text_filled, text_counts}
use Rattle.eif_lines.proofs.refused.Goals as goal

-- `eif_lines::refused` meets its contract: the line over the start of an empty buffer. Assumes nothing.
pub returns : goal.returns
returns c = let a = c.args in
    let p = c.put_refusal-length.ensures in
    let t = refusal_then a.r a.text.now in
    let e = c.empty-bytes.ensures in
    record { value = text_filled _ t _ _ e p.out_after p.value (omega arith); prefix_len = text_counts _ t _ _ e p.out_after p.value (omega arith) }
