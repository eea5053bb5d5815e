use Rattle.eif_flat.proofs.flat_roll_reading.Goals as goal

-- `flat_roll_reading` meets its contract: what it calls ensures the answer, made flat.
-- Assumes nothing.
pub returns : goal.returns
returns c = cc
