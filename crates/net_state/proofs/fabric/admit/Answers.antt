use Rattle.std.specs.Prelude.{true, refl}
use Rattle.host_traffic.proofs.PacketLemmas.{new_last}
use Rattle.host_traffic.specs.Packets.{PacketOf}
use Rattle.net_state.proofs.StepLemmas.{none_above}
use Rattle.net_state.proofs.fabric.admit.Goals as goal

pub send-requires-clause-new : goal.send-requires-clause-new
send-requires-clause-new c = none_above c.args.packet c.args.traffic.now.packets c.requires.above

pub returns-in-Ok : goal.returns-in-Ok
returns-in-Ok c =
    let new : PacketOf = record { packet = c.args.packet; at = c.args.from.s; entry = c.args.from.port; is_new = true; address = c.in-Ok.address; uid = c.args.to.uid } in
    rw (c.send.ensures, c.in-Ok.is, new_last new c.args.traffic.now.packets c.requires.above) refl
