use Rattle.eif_c.proofs.fingerprint.flat_fingerprint.Goals as goal

-- `flat_fingerprint` meets its contract: what it calls ensures the answer, made flat.
pub returns : goal.returns
returns c = cc
