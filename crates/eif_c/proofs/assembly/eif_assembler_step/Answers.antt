use Rattle.eif_c.proofs.assembly.eif_assembler_step.Goals as goal

-- `eif_assembler_step` meets its contract: what it calls ensures the answer, made flat, and both buffers.
-- Assumes nothing.
pub returns : goal.returns
returns c = let s = c.step-done.ensures in
    record { value = cc; image_after = s.image_after; marks_after = s.marks_after }
