use Rattle.fabric_tables.specs.Cells.{tables_of}
use Rattle.fabric_routes.specs.Waves.{IsGraphOf}
use Rattle.fabric_mixtures.specs.Steps.{IsGrown, IsTurnBelow}
use Rattle.fabric_mixtures.proofs.follow.add_lid.Given as goal

-- the turns out of the switches so far
abbrev pub invariant-switches : goal.invariant-switches
invariant-switches l = record {
  grown : IsGrown (IsTurnBelow l.fabric (tables_of l.fn.old) (tables_of l.fn.new) l.lid l.at) l.fn.graph l.graph;
  graph : IsGraphOf l.fabric l.graph;
}
