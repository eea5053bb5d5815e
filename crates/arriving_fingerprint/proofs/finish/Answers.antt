use Rattle.arriving_fingerprint.proofs.Steps.{finished_is}
use Rattle.arriving_fingerprint.proofs.finish.Goals as goal

-- `arriving_fingerprint::finish` meets its contract.
pub returns : goal.returns
returns c = finished_is c.args.state c.finish-told.ensures c.digest-whole.ensures
