use Rattle.fabric_routes.proofs.MarkLemmas.{marked}
use Rattle.fabric_lane_waves.proofs.mark.mark.Goals as goal

pub returns : goal.returns
returns c = marked c.args.words.now c.args.place c.args.bit c.requires.place c.requires.bit
