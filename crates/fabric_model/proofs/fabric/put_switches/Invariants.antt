use Rattle.std.proofs.Common.{◌≡◌, length}
use Rattle.fabric_model.specs.Nodes.{AreOwners, HasOneEndPort, NodesOf}
use Rattle.fabric_model.proofs.fabric.put_switches.Given as goal

abbrev pub invariant-switches : goal.invariant-switches
invariant-switches l = record {
  count : length l.owners.items ≡ 49152;
  owners : (nodes : NodesOf) → nodes.switches ≡ l.switches.entries → HasOneEndPort nodes → AreOwners nodes 0 0 l.fn.owners.items → AreOwners nodes l.place 0 l.owners.items;
}
