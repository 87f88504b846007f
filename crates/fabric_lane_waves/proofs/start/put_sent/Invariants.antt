use Rattle.fabric_tables.specs.Cells.{tables_of}
use Rattle.fabric_lane_tables.specs.Levels.{levels_of}
use Rattle.fabric_lane_waves.proofs.SentLemmas.{AreSentBelow}
use Rattle.fabric_lane_waves.proofs.start.put_sent.Given as goal

abbrev pub invariant-sources : goal.invariant-sources
invariant-sources l = AreSentBelow l.routes.routing.fabric.now (tables_of l.routes.routing.cells.now) l.routes.routing.traffic l.routes.block (levels_of l.routes.routing.levels.now) l.gates.gates.items l.top l.place l.sent
