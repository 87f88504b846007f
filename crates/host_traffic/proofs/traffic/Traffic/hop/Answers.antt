-- The packet that is found is the one of the number. It is written where it went, or given up.
use Rattle.std.proofs.Common.{◌≡◌, ◌∙◌, ◌<◌, ap, sym, subst, ℕ, List, Option, Some, is_some}
use Rattle.std.specs.Prelude.{IfSome}
use Rattle.std.specs.List.{remove}
use Rattle.std.specs.Option.{option_map, OnSome}
use Rattle.std.specs.VecDeque.{deque_capacity, deque_len}
use Rattle.host_traffic.specs.declared.traffic.Filed.{Filed}
use Rattle.host_traffic.specs.Packets.{PacketOf, TrafficOf, hop_in, packet_of}
use Rattle.host_traffic.specs.Filed.{shown, IsFoundAt}
use Rattle.host_traffic.proofs.HopLemmas.{hopped_on, hopped_off}
use Rattle.host_traffic.proofs.StepLemmas.{found_is_some, found_stored, packet_is, goes_on, goes}
use Rattle.host_traffic.proofs.traffic.Traffic.hop.Given.{Over}
use Rattle.host_traffic.proofs.traffic.Traffic.hop.Goals as goal
use Rattle.host_traffic.proofs.traffic.Traffic.hop.Goals.{After-next_hop-hop}

-- the packet that moves is the one of the number, and so its hop is the one that is told
this_is : (g : Over) (c : goal.After-next_hop-hop g) → packet_of c.args.packet (shown c.self.inside.packets c.self.inside.order.items) ≡ Some c.index-moving.result.now
this_is g c =
    let found = subst (IsFoundAt c.args.packet c.self.inside.order.items) c.unwrap-place.ensures c.found_at.ensures.found in
    packet_is c.self.inside.packets c.self.inside.order.items c.args.packet c.unwrap-place.result c.index.result.now c.index-moving.result.now c.self.invariant.each c.self.invariant.rising found c.index.ensures c.index-moving.ensures

hop_is : (g : Over) (c : goal.After-next_hop-hop g) → Some c.next_hop-hop.result ≡ option_map (hop_in (g.V.HopView.table_at c.args.view.now) (g.V.HopView.host_at c.args.view.now) (g.V.HopView.next_at c.args.view.now)) (packet_of c.args.packet (shown c.self.inside.packets c.self.inside.order.items))
hop_is g c = ap Some c.next_hop-hop.ensures ∙ sym (ap (option_map (hop_in (g.V.HopView.table_at c.args.view.now) (g.V.HopView.host_at c.args.view.now) (g.V.HopView.next_at c.args.view.now))) (this_is g c))

pub unwrap-place-requires : goal.unwrap-place-requires
unwrap-place-requires g c =
    let under_way = rw (← c.self.view_is) at c.requires.under_way in
    found_is_some c.self.inside.packets c.self.inside.order.items c.args.packet c.found_at.result c.self.invariant.each c.found_at.ensures.found under_way

pub index-requires : goal.index-requires
index-requires g c = subst (λ (r : Option ℕ). IfSome r (λ at. at < deque_len c.self.inside.order)) c.unwrap-place.ensures c.found_at.ensures.bound

pub index-moving-requires : goal.index-moving-requires
index-moving-requires g c =
    let found = subst (IsFoundAt c.args.packet c.self.inside.order.items) c.unwrap-place.ensures c.found_at.ensures.found in
    let has = found_stored c.self.inside.packets c.self.inside.order.items c.args.packet c.unwrap-place.result c.index.result.now c.self.invariant.each found c.index.ensures in
    ap is_some has.1

pub invariant_of-self : goal.invariant_of-self
invariant_of-self g c =
    let found = subst (IsFoundAt c.args.packet c.self.inside.order.items) c.unwrap-place.ensures c.found_at.ensures.found in
    rw c.moved_to.ensures
    (goes_on c.self.inside.most (deque_capacity c.self.inside.order) c.self.inside.packets c.self.inside.order.items c.args.packet c.unwrap-place.result c.index.result.now c.index-moving.result.now (c.in-Some.at, c.in-Some.entry)
    c.self.invariant found c.index.ensures c.index-moving.ensures).1

pub returns-in-Some-clause-hop : goal.returns-in-Some-clause-hop
returns-in-Some-clause-hop g c = rw (← c.self.view_is) (hop_is g (goal.at.returns-in-Some-clause-hop g c).After-next_hop-hop)

pub returns-in-Some-clause-packets : goal.returns-in-Some-clause-packets
returns-in-Some-clause-packets g c =
    let stored = c.self.inside.packets in
    let order = c.self.inside.order.items in
    let found = subst (IsFoundAt c.args.packet order) c.unwrap-place.ensures c.found_at.ensures.found in
    let is = this_is g (goal.at.returns-in-Some-clause-packets g c).After-next_hop-hop in
    let goes =
    (goes_on c.self.inside.most (deque_capacity c.self.inside.order) stored order c.args.packet c.unwrap-place.result c.index.result.now c.index-moving.result.now (c.in-Some.at, c.in-Some.entry)
    c.self.invariant found c.index.ensures c.index-moving.ensures).0 in
    let hops = hopped_on (g.V.HopView.table_at c.args.view.now) (g.V.HopView.host_at c.args.view.now) (g.V.HopView.next_at c.args.view.now) c.args.packet (shown stored order) c.index-moving.result.now c.next_hop-hop.result c.moving.inside.at (c.in-Some.at, c.in-Some.entry)
    is c.next_hop-hop.ensures (ap (λ (p : PacketOf). p.at) c.moving.view_is) (sym c.in-Some.is ∙ c.place_after.ensures) in
    let shows : List PacketOf → TrafficOf = λ packets. record { packets = packets; most = c.self.inside.most } in
    rw (← c.self.view_is, c.moved_to.ensures) (ap shows (goes ∙ sym hops))

pub invariant_of-self-in-None : goal.invariant_of-self-in-None
invariant_of-self-in-None g c =
    let order = c.self.inside.order.items in
    let found = subst (IsFoundAt c.args.packet order) c.unwrap-place.ensures c.found_at.ensures.found in
    let low = subst (λ (r : Option ℕ). IfSome r (λ at. at < deque_len c.self.inside.order)) c.unwrap-place.ensures c.found_at.ensures.bound in
    let left = subst (λ (r : Option Filed). OnSome r (c.remove-in-None.new.self.items ≡ remove order c.unwrap-place.result)) (c.remove-in-None.ensures.succeeds c.index.result.now low) c.remove-in-None.ensures.items in
    rw (left, c.remove-in-None.ensures.capacity)
    (goes c.self.inside.most (deque_capacity c.self.inside.order) c.self.inside.packets c.remove.new.self order c.args.packet c.unwrap-place.result c.index.result.now
    c.self.invariant found c.index.ensures c.remove.ensures.updates c.remove.ensures.len c.remove.ensures.capacity).1

pub returns-in-None-clause-hop : goal.returns-in-None-clause-hop
returns-in-None-clause-hop g c = rw (← c.self.view_is) (hop_is g (goal.at.returns-in-None-clause-hop g c).After-next_hop-hop)

pub returns-in-None-clause-packets : goal.returns-in-None-clause-packets
returns-in-None-clause-packets g c =
    let found = subst (IsFoundAt c.args.packet c.self.inside.order.items) c.unwrap-place.ensures c.found_at.ensures.found in
    let low = subst (λ (r : Option ℕ). IfSome r (λ at. at < deque_len c.self.inside.order)) c.unwrap-place.ensures c.found_at.ensures.bound in
    let is = this_is g (goal.at.returns-in-None-clause-packets g c).After-next_hop-hop in
    let left = subst (λ (r : Option Filed). OnSome r (c.remove-in-None.new.self.items ≡ remove c.self.inside.order.items c.unwrap-place.result)) (c.remove-in-None.ensures.succeeds c.index.result.now low) c.remove-in-None.ensures.items in
    let gone =
    (goes c.self.inside.most (deque_capacity c.self.inside.order) c.self.inside.packets c.remove.new.self c.self.inside.order.items c.args.packet c.unwrap-place.result c.index.result.now
    c.self.invariant found c.index.ensures c.remove.ensures.updates c.remove.ensures.len c.remove.ensures.capacity).0 in
    let hops = hopped_off (g.V.HopView.table_at c.args.view.now) (g.V.HopView.host_at c.args.view.now) (g.V.HopView.next_at c.args.view.now) c.args.packet (shown c.self.inside.packets c.self.inside.order.items) c.index-moving.result.now c.next_hop-hop.result c.moving.inside.at
    is c.next_hop-hop.ensures (ap (λ (p : PacketOf). p.at) c.moving.view_is) (sym c.in-None.is ∙ c.place_after.ensures) in
    let shows : List PacketOf → TrafficOf = λ packets. record { packets = packets; most = c.self.inside.most } in
    rw (← c.self.view_is, left) (ap shows (gone ∙ sym hops))
