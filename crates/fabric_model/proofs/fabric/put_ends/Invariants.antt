use Rattle.std.proofs.Common.{◌≡◌, length}
use Rattle.fabric_model.specs.Nodes.{AreOwners, HasOneEndPort, NodesOf}
use Rattle.fabric_model.proofs.fabric.put_ends.Given as goal

abbrev pub invariant-ends : goal.invariant-ends
invariant-ends l = record {
  count : length l.owners.items ≡ 49152;
  owners : (nodes : NodesOf) → nodes.ends ≡ l.ends.entries → HasOneEndPort nodes → AreOwners nodes (length nodes.switches) 0 l.fn.owners.items → AreOwners nodes (length nodes.switches) l.place l.owners.items;
}
