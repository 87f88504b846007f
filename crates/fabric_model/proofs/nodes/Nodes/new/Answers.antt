use Rattle.fabric_model.proofs.OwnedLemmas.{owned_none}
use Rattle.fabric_model.proofs.nodes.Nodes.new.Goals as goal

pub invariant_of-result : goal.invariant_of-result
invariant_of-result c = owned_none 49152 c.new.result.entries c.new-2.result.entries c.in_ok-owned.owned.items c.new.ensures.empty c.new-2.ensures.empty c.in_ok-owned.ensures
