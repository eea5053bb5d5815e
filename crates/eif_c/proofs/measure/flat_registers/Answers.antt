use Rattle.eif_c.proofs.measure.flat_registers.Goals as goal

-- `flat_registers` meets its contract: what it calls ensures the answer, made flat.
-- Assumes nothing.
pub returns : goal.returns
returns c = cc
