use Rattle.std.proofs.Common.{◌≡◌, ℕ, ◌+◌, ◌≤◌, get_or}
use Rattle.std.specs.Prelude.{vec_capacity}
use Rattle.fcfc_router.proofs.TreeLemmas.{IsTreeFrom}
use Rattle.fcfc_router.proofs.tree.unite.Given as goal

-- the unions from the node on are right, and the sets of the places stay
abbrev pub invariant-nodes : goal.invariant-nodes
invariant-nodes l = record {
  below : l.node ≤ l.kept;
  tree : IsTreeFrom l.kept l.unions.items l.node;
  sets : (k : ℕ) → get_or l.unions.items (l.kept + k) 0 ≡ get_or l.fn.unions.items (l.kept + k) 0;
  capacity : vec_capacity l.unions ≡ vec_capacity l.fn.unions;
}

abbrev pub decreases-nodes : goal.decreases-nodes
decreases-nodes l = l.node
