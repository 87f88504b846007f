use Rattle.std.proofs.Common.{ap}
use Rattle.fabric_lane_tables.specs.declared.levels.Levels.{Levels}
use Rattle.fabric_lane_tables.specs.Levels.{levels_of}
use Rattle.fabric_lane_waves.proofs.LevelLemmas.{told_same}
use Rattle.fabric_lane_waves.proofs.start.add_source.Goals as goal

pub returns-in-Same : goal.returns-in-Same
returns-in-Same c = told_same (levels_of c.args.levels.now) c.args.source c.args.block c.args.row c.args.word c.in-Same.same c.args.sent.now c.add_levels.new.sent (λ lid. ap (λ (l : Levels). levels_of l c.args.source lid) c.in-Same.is) c.add_levels.ensures
