use Rattle.std.proofs.Common.{◌-◌, ◌<◌, ◌≤◌, length}
use Rattle.fabric_tables.specs.Cells.{tables_of}
use Rattle.fabric_counts.specs.Counts.{hop_for}
use Rattle.fabric_counts.specs.Heights.{IsWayTo}
use Rattle.fabric_model.specs.Fabric.{switch_count}
use Rattle.fabric_counts.proofs.height.find_way.Given as goal

-- the route has come to a switch
abbrev pub invariant-hops : goal.invariant-hops
invariant-hops l = record {
  low : l.at < switch_count l.fabric;
  room : l.count ≤ length l.path;
  way : IsWayTo (hop_for l.fabric (tables_of l.cells) l.lid) (switch_count l.fabric) l.start l.path l.count l.at;
}

abbrev pub decreases-hops : goal.decreases-hops
decreases-hops l = length l.path - l.count
