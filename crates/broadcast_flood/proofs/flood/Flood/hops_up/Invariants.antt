use Rattle.std.proofs.Common.{◌≡◌}
use Rattle.topo_graph.specs.Topology.{level_at}
use Rattle.broadcast_flood.specs.Tree.{parent_port}
use Rattle.broadcast_flood.proofs.UpLemmas.{LeadsUpTo}
use Rattle.broadcast_flood.proofs.flood.Flood.hops_up.Given as goal

-- the hops so far, from each level to the next lower one
abbrev pub invariant-ups : goal.invariant-ups
invariant-ups l = record { leads : LeadsUpTo l.self l.x l.at l.hops.items; port : l.port ≡ parent_port l.self l.at }

abbrev pub decreases-ups : goal.decreases-ups
decreases-ups l = level_at l.self l.at
