use Rattle.std.proofs.Common.{◌<◌, List}
use Rattle.dep_check.specs.declared.channel.Channel.{Channel}
use Rattle.common_graph.specs.Cycles.{IsCycle}
use Rattle.dep_check.specs.Tables.{IsSpot, place_of}
use Rattle.dep_check.specs.Search.{Step}
use Rattle.dep_check.proofs.cycle.least_cycle.Given as goal

-- none of the channels so far is on a cycle
abbrev pub invariant-spots : goal.invariant-spots
invariant-spots l = (d : Channel) (ds : List Channel) → IsSpot d → place_of d < l.place → IsCycle (Step l.steps) d ds → ⊥
