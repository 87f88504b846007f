use Rattle.std.proofs.Common.{◌≤◌, ◌*◌, ◌^◌}
use Rattle.fabric_routes.specs.Counting.{IsCountOf}
use Rattle.fabric_verdict.specs.Steps.{IsStepBelow}
use Rattle.fabric_verdict.proofs.count.count_steps.Given as goal

-- the steps so far
abbrev pub invariant-nodes : goal.invariant-nodes
invariant-nodes l = record { so_far : IsCountOf (IsStepBelow l.graph l.node) l.count; few : l.count ≤ l.node * 2 ^ 31 }
