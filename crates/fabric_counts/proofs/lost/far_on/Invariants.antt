use Rattle.std.proofs.Common.{◌<◌}
use Rattle.fabric_tables.specs.Cells.{tables_of}
use Rattle.fabric_counts.specs.Counts.{hop_for}
use Rattle.fabric_model.specs.Fabric.{switch_count}
use Rattle.fabric_routes.specs.Routes.{WalksBy}
use Rattle.fabric_counts.proofs.lost.far_on.Given as goal

-- by so many hops it comes to this switch
abbrev pub invariant-hops : goal.invariant-hops
invariant-hops l = record { low : l.at < switch_count l.fabric; comes : WalksBy (hop_for l.fabric (tables_of l.cells) l.lid) l._hops l.start l.at }
