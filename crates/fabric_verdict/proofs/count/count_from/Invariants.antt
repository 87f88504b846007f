use Rattle.std.proofs.Common.{◌-◌, ◌≤◌, ◌^◌, length}
use Rattle.common_graph.specs.Rows.{StandsAt}
use Rattle.fabric_routes.specs.Counting.{IsCountOf}
use Rattle.fabric_verdict.specs.Steps.{IsNextBelow}
use Rattle.fabric_verdict.proofs.count.count_from.Given as goal

-- the steps so far
abbrev pub invariant-steps : goal.invariant-steps
invariant-steps l = record {
  stands : StandsAt l.graph l.node l.cursor;
  so_far : IsCountOf (IsNextBelow l.graph l.node l.cursor.from) l.count;
  low : l.cursor.from ≤ length l.graph.bases;
  few : l.count ≤ l.cursor.from;
  small : l.cursor.from ≤ 2 ^ 31;
}

abbrev pub decreases-steps : goal.decreases-steps
decreases-steps l = length l.graph.bases - l.cursor.from
