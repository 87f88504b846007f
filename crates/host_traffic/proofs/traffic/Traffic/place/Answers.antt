-- Where the search finds no place there is no such packet, and else it is the one that is stored under the key.
use Rattle.std.proofs.Common.{◌∙◌, ap, sym, Some, is_some}
use Rattle.std.specs.Option.{option_map}
use Rattle.host_traffic.specs.Packets.{PacketOf, place_now}
use Rattle.host_traffic.proofs.FiledLemmas.{packet_lost}
use Rattle.host_traffic.proofs.StepLemmas.{found_stored, packet_is}
use Rattle.host_traffic.proofs.traffic.Traffic.place.Goals as goal

pub returns-in_err-place : goal.returns-in_err-place
returns-in_err-place c =
    let lost = packet_lost c.self.inside.packets c.self.inside.order.items c.args.packet c.self.invariant.each c.in_err-place.ensures.found in
    rw (← c.self.view_is) (c.from_residual.ensures ∙ sym (ap (option_map place_now) lost))

pub index-found-requires : goal.index-found-requires
index-found-requires c =
    let has = found_stored c.self.inside.packets c.self.inside.order.items c.args.packet c.in_ok-place.place c.index.result.now c.self.invariant.each c.in_ok-place.ensures.found c.index.ensures in
    ap is_some has.1

pub returns : goal.returns
returns c =
    let stored = c.self.inside.packets in
    let order = c.self.inside.order.items in
    let found = packet_is stored order c.args.packet c.in_ok-place.place c.index.result.now c.index-found.result.now c.self.invariant.each c.self.invariant.rising c.in_ok-place.ensures.found c.index.ensures c.index-found.ensures in
    rw (← c.self.view_is) (ap (λ (p : PacketOf). Some (place_now p)) c.found.view_is ∙ sym (ap (option_map place_now) found))
