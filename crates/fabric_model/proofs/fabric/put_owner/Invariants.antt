use Rattle.std.proofs.Common.{◌≡◌, length}
use Rattle.fabric_model.proofs.OwnerLemmas.{PutsBelow}
use Rattle.fabric_model.proofs.fabric.put_owner.Given as goal

-- those so far have this owner, and the others are as before
abbrev pub invariant-lids : goal.invariant-lids
invariant-lids l = record {
  count : length l.owners.items ≡ 49152;
  puts : PutsBelow l.fn.owners.items l.owners.items l.first l.lid l.owner;
}
