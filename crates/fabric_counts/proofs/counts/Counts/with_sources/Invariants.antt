use Rattle.fabric_tables.specs.Cells.{tables_of}
use Rattle.fabric_counts.specs.Steps.{AreCountsUntil}
use Rattle.fabric_model.specs.Fabric.{switch_count}
use Rattle.fabric_routes.specs.Trace.{IsReady, hop_to, whole}
use Rattle.fabric_counts.proofs.counts.Counts.with_sources.Given as goal

-- the counts with the end ports so far
abbrev pub invariant-places : goal.invariant-places
invariant-places l = record {
  ready : IsReady (hop_to l.fabric (tables_of l.cells) (whole l.lid)) (switch_count l.fabric) l.marks;
  counts : AreCountsUntil l.fabric (tables_of l.cells) l.fn.traffic l.lid l.place l.counts;
}
