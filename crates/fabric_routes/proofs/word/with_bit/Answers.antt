use Rattle.fabric_routes.proofs.WordLemmas.{with_is}
use Rattle.fabric_routes.proofs.word.with_bit.Goals as goal

pub returns : goal.returns
returns c = with_is c.args.word c.args.bit c.requires
