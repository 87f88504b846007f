use Rattle.std.proofs.Common.{◌<◌}
use Rattle.fabric_tables.specs.Cells.{tables_of}
use Rattle.fabric_counts.specs.Counts.{hop_for}
use Rattle.fabric_counts.specs.Lost.{IsLeastOf}
use Rattle.fabric_model.specs.Fabric.{switch_count}
use Rattle.fabric_routes.specs.Routes.{WalksBy}
use Rattle.fabric_counts.proofs.lost.least_on.Given as goal

-- the least of the switches so far
abbrev pub invariant-hops : goal.invariant-hops
invariant-hops l = record {
  low : l.at < switch_count l.fabric;
  least_low : l.least < switch_count l.fabric;
  comes : WalksBy (hop_for l.fabric (tables_of l.cells) l.lid) l._hops l.start l.at;
  least : IsLeastOf (hop_for l.fabric (tables_of l.cells) l.lid) l._hops l.start l.least;
}
