use Rattle.fabric_tables.specs.Cells.{tables_of}
use Rattle.fabric_model.specs.Fabric.{switch_count}
use Rattle.fabric_routes.specs.Waves.{IsGraphOf}
use Rattle.fabric_mixtures.specs.Steps.{IsGrown, IsTurnTo}
use Rattle.fabric_mixtures.proofs.follow.add_lids.Given as goal

-- the turns to the LIDs so far
abbrev pub invariant-lids : goal.invariant-lids
invariant-lids l = record {
  grown : IsGrown (IsTurnTo l.fabric (tables_of l.fn.old) (tables_of l.fn.new) (switch_count l.fabric) l.lid) l.fn.graph l.graph;
  graph : IsGraphOf l.fabric l.graph;
}
