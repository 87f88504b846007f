use Rattle.dep_check.proofs.PortLemmas.{has_either}
use Rattle.dep_check.proofs.ports.with.Goals as goal

pub returns : goal.returns
returns c = has_either c.args.set c.args.others
