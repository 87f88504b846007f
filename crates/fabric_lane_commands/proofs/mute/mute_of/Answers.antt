use Rattle.fabric_tables.specs.Cells.{tables_of}
use Rattle.fabric_lane_tables.specs.Levels.{levels_of}
use Rattle.fabric_lane_counts.specs.LaneCounts.{IsSilent}
use Rattle.fabric_lane_commands.proofs.SilenceLemmas.{none_counted}
use Rattle.fabric_lane_commands.proofs.mute.mute_of.Goals as goal

pub returns-then-silent-eq0 : goal.returns-then-silent-eq0
returns-then-silent-eq0 c = none_counted (IsSilent c.args.fabric.now (tables_of c.args.cells.now) c.args.traffic (levels_of c.args.levels.now)) c.args.silent c.requires.silent c.if-silent-eq0.true
