use Rattle.std.proofs.Common.{◌≡◌, ℕ, ◌+◌, ◌<◌, get_or}
use Rattle.fcfc_router.specs.Tree.{IsTreeBut}
use Rattle.fcfc_router.proofs.tree.write.Given as goal

-- the unions are right but for the node, and the sets of the places stay
abbrev pub invariant-nodes : goal.invariant-nodes
invariant-nodes l = record {
  below : l.node < l.kept;
  tree : IsTreeBut l.kept l.unions l.node;
  sets : (k : ℕ) → get_or l.unions (l.kept + k) 0 ≡ get_or l.initial.unions (l.kept + k) 0;
}

abbrev pub decreases-nodes : goal.decreases-nodes
decreases-nodes l = l.node
