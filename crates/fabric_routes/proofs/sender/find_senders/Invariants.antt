use Rattle.fabric_routes.specs.Starts.{AreAllSendersBelow}
use Rattle.fabric_routes.proofs.sender.find_senders.Given as goal

abbrev pub invariant-ends : goal.invariant-ends
invariant-ends l = AreAllSendersBelow l.fabric l.end l.senders.items
