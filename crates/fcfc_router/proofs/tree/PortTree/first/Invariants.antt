use Rattle.std.proofs.Common.{◌-◌}
use Rattle.fcfc_router.proofs.TreeLemmas.{IsOnWay}
use Rattle.fcfc_router.proofs.tree.PortTree.first.Given as goal

abbrev pub invariant-levels : goal.invariant-levels
invariant-levels l = IsOnWay l.self-inside.kept l.ports l.self-inside.unions.items l.node

abbrev pub decreases-levels : goal.decreases-levels
decreases-levels l = l.self-inside.kept - l.node
