use Rattle.eif_c.proofs.strict.flat_json.Goals as goal

-- `flat_json` meets its contract: what it calls ensures the answer, made flat.
-- Assumes nothing.
pub returns : goal.returns
returns c = cc
