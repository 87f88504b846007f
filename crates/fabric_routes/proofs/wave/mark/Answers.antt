use Rattle.fabric_routes.proofs.MarkLemmas.{marked}
use Rattle.fabric_routes.proofs.wave.mark.Goals as goal

pub returns : goal.returns
returns c = marked c.args.words.now c.args.switch c.args.bit c.requires.switch c.requires.bit
