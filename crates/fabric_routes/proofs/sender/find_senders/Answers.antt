use Rattle.std.proofs.Common.{◌≡◌, subst, ℕ, length, arith}
use Rattle.fabric_routes.specs.Starts.{AreAllSendersBelow}
use Rattle.fabric_routes.proofs.SenderLemmas.{none_yet}
use Rattle.fabric_routes.proofs.sender.find_senders.Goals as goal

pub ends-init : goal.ends-init
ends-init c = none_yet c.args.fabric.now c.switches.result c.in_ok-senders.senders.items c.switches.ensures.count (c.in_ok-senders.ensures.items_if_clones_equal (λ y e. e))

pub returns : goal.returns
returns c =
    let last : c.ends.end ≡ length c.args.fabric.now.cables = omega arith in
    subst (λ (n : ℕ). AreAllSendersBelow c.args.fabric.now n c.ends.senders.items) last c.ends.invariant
