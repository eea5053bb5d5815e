use Rattle.eif_c.proofs.staging.flat_part.Goals as goal

-- `flat_part` meets its contract: what it calls ensures the answer, made flat.
pub returns : goal.returns
returns c = cc
