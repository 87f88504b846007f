use Rattle.std.proofs.Common.{◌≡◌, ◌∙◌, ap, sym, subst, arith, List, length}
use Rattle.std.proofs.lemmas.List.{get_or_push}
use Rattle.flow_channels.specs.declared.board.Packet.{Packet}
use Rattle.flow_channels.specs.Board.{flow_of, IsSoundOver, packet_at, packet_of}
use Rattle.flow_channels.specs.Flows.{FlowOf, PacketOf}
use Rattle.flow_channels.proofs.BoardLemmas.{flow_more, kept_more, made, starts}
use Rattle.flow_channels.proofs.board.Board.enter.Goals as goal

pub overflow_cast-slot : goal.overflow_cast-slot
overflow_cast-slot c =
    let few = c.requires.few in
    let most = c.requires.limit in
    let slot : c.len-slot.result ≡ length c.args.self.now.packets.items = omega (arith, c.len-slot.ensures) in
    omega arith

pub ask-requires-clause-kept : goal.ask-requires-clause-kept
ask-requires-clause-kept c =
    let b = c.args.self.now in
    kept_more b.packets c.push.new.self b.entries c.push-2.new.self b.queues b.routers c.args.tables.now c.args.packet c.requires.kept c.in-Ok.ensures.items c.in-Ok-push.ensures.items c.in-Ok.ensures.capacity c.in-Ok-push.ensures.capacity c.requires.to c.requires.few

pub ask-requires-clause-sound : goal.ask-requires-clause-sound
ask-requires-clause-sound c =
    let b = c.args.self.now in
    let flow = flow_more b.packets c.push.new.self b.entries c.push-2.new.self b.queues b.routers c.args.tables.now c.args.packet c.requires.kept c.in-Ok.ensures.items c.in-Ok-push.ensures.items in
    let slot : c.len-slot.result ≡ length b.packets.items = omega (arith, c.len-slot.ensures) in
    let last : packet_at c.push.new.self.items c.len-slot.result ≡ packet_of c.args.packet =
    ap (λ (ps : List Packet). packet_at ps c.len-slot.result) c.in-Ok.ensures.items ∙ ap packet_of (get_or_push b.packets.items c.args.packet (record { packet = 0; to = 0 }) c.len-slot.result (sym slot)) in
    subst (λ (f : FlowOf). IsSoundOver c.args.tables.now (starts c.args.from (packet_at c.push.new.self.items c.len-slot.result) f)) (sym flow) (
    subst (λ (p : PacketOf). IsSoundOver c.args.tables.now (starts c.args.from p (flow_of b))) (sym last) c.requires.sound)

pub returns-clause-flow : goal.returns-clause-flow
returns-clause-flow c =
    let b = c.args.self.now in
    let flow = flow_more b.packets c.push.new.self b.entries c.push-2.new.self b.queues b.routers c.args.tables.now c.args.packet c.requires.kept c.in-Ok.ensures.items c.in-Ok-push.ensures.items in
    let slot : c.len-slot.result ≡ length b.packets.items = omega (arith, c.len-slot.ensures) in
    let last : packet_at c.push.new.self.items c.len-slot.result ≡ packet_of c.args.packet =
    ap (λ (ps : List Packet). packet_at ps c.len-slot.result) c.in-Ok.ensures.items ∙ ap packet_of (get_or_push b.packets.items c.args.packet (record { packet = 0; to = 0 }) c.len-slot.result (sym slot)) in
    c.ask.ensures.flow
    ∙ ap (λ (p : PacketOf). starts c.args.from p (flow_of (made c.push.new.self c.push-2.new.self b.queues b.routers))) last
    ∙ ap (λ (f : FlowOf). starts c.args.from (packet_of c.args.packet) f) flow
