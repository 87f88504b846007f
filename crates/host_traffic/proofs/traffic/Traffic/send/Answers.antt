-- The packet is stored under a new key, and filed between those of lower and those of higher numbers.
use Rattle.std.proofs.Common.{ap, List, true, refl}
use Rattle.std.specs.VecDeque.{deque_capacity}
use Rattle.host_traffic.specs.Packets.{PacketOf, TrafficOf}
use Rattle.host_traffic.proofs.StepLemmas.{comes}
use Rattle.host_traffic.proofs.traffic.Traffic.send.Goals as goal

pub invariant_of-self : goal.invariant_of-self
invariant_of-self c =
    let is = c.insert_reserved-key.ensures in
    let room = rw (← c.self.view_is) at c.requires.room in
    let new = rw (← c.self.view_is) at c.requires.new in
    (comes c.self.inside.most (deque_capacity c.self.inside.order) (deque_capacity c.file.new.order) c.self.inside.packets c.insert_reserved-key.new.self c.self.inside.order.items c.file.new.order.items
    (record { packet = c.args.packet; key = c.insert_reserved-key.result }) (record { packet = c.args.packet; at = c.args.at; entry = c.args.entry; is_new = true; address = c.args.address; uid = c.args.uid })
    c.self.invariant c.file.ensures.capacity room new refl is.was_vacant is.updates is.len is.capacity c.file.ensures.order).1

pub returns : goal.returns
returns c =
    let is = c.insert_reserved-key.ensures in
    let room = rw (← c.self.view_is) at c.requires.room in
    let new = rw (← c.self.view_is) at c.requires.new in
    let same =
    (comes c.self.inside.most (deque_capacity c.self.inside.order) (deque_capacity c.file.new.order) c.self.inside.packets c.insert_reserved-key.new.self c.self.inside.order.items c.file.new.order.items
    (record { packet = c.args.packet; key = c.insert_reserved-key.result }) (record { packet = c.args.packet; at = c.args.at; entry = c.args.entry; is_new = true; address = c.args.address; uid = c.args.uid })
    c.self.invariant c.file.ensures.capacity room new refl is.was_vacant is.updates is.len is.capacity c.file.ensures.order).0 in
    let shows : List PacketOf → TrafficOf = λ packets. record { packets = packets; most = c.self.inside.most } in
    rw (← c.self.view_is) (ap shows same)
