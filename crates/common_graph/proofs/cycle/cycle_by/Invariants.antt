use Rattle.std.proofs.Common.{◌≡◌, ◌<◌, ◌≤◌, List, ℕ, ◌∷◌}
use Rattle.common_graph.specs.Graph.{LeadsTo, value_at}
use Rattle.common_graph.specs.Search.{AreExact, Descends, HasBelow}
use Rattle.common_graph.proofs.cycle.cycle_by.Given as goal

-- the nodes so far descend to this one, which leads to none of a lower level, and by exact levels to one of it
abbrev pub invariant-levels : goal.invariant-levels
invariant-levels l = record {
  way : (level : ℕ) × (nodes : List ℕ) × (l.nodes.items ≡ l.fn.start ∷ nodes)
      × Descends l.graph l.levels l.fn.start level nodes l.node l.level
      × ((next : ℕ) → LeadsTo l.graph l.fn.start next → level ≤ value_at l.levels next);
  most : l.level < 4294967295;
  high : (next : ℕ) → LeadsTo l.graph l.node next → l.level ≤ value_at l.levels next;
  has : AreExact l.graph l.levels l.fn.start → HasBelow l.graph l.levels l.node l.level;
}

abbrev pub decreases-levels : goal.decreases-levels
decreases-levels l = l.level
