use Rattle.eif_c.proofs.measure.eif_sha384_finish.Goals as goal

-- `eif_sha384_finish` meets its contract: what it calls ensures the digest.
-- Assumes nothing.
pub returns : goal.returns
returns c = cc
