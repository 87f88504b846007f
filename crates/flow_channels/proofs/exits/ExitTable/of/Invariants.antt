use Rattle.std.proofs.Common.{◌≡◌, ◌+◌, ◌*◌, length}
use Rattle.flow_channels.specs.Exits.{AreSetsBelow}
use Rattle.flow_channels.specs.Sets.{AreStarts, all_sets}
use Rattle.flow_channels.proofs.exits.ExitTable.of.Given as goal

-- the sets have the exits of the members so far
abbrev pub invariant-members : goal.invariant-members
invariant-members l = record {
  starts : AreStarts l.starts.items l.sets.items;
  below : AreSetsBelow l.graph l.numbers l.any l.x (all_sets l.starts.items l.sets.items);
  count : length l.sets.items ≡ 127 + 254 * l.x;
}
