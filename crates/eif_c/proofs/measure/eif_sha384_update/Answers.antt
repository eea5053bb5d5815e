use Rattle.eif_c.proofs.measure.eif_sha384_update.Goals as goal

-- `eif_sha384_update` meets its contract: what it calls ensures the answer, made flat.
-- Assumes nothing.
pub returns : goal.returns
returns c = cc
