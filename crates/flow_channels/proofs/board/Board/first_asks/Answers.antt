use Rattle.std.proofs.Common.{◌∙◌, ap, sym, subst, arith}
use Rattle.std.specs.Option.{option_map}
use Rattle.flow_channels.specs.declared.board.Packet.{Packet}
use Rattle.flow_channels.specs.Board.{flow_of, IsSoundOver, packet_at, ways}
use Rattle.flow_channels.specs.Flows.{first_of, FlowOf}
use Rattle.flow_channels.proofs.AheadLemmas.{arrives_there, asks_on, rests_empty, rests_nowhere}
use Rattle.flow_channels.proofs.BoardLemmas.{asks_not, asks_nothing, asks_there, first_is, first_low, read_packet}
use Rattle.flow_channels.proofs.board.Board.first_asks.Goals as goal

pub returns-in_default-first-clause-flow : goal.returns-in_default-first-clause-flow
returns-in_default-first-clause-flow c =
    let b = c.args.self.now in
    let first = first_is b.packets b.entries b.queues b.routers c.args.channel c.first.result c.requires.kept.queues c.requires.spot c.first.ensures ∙ ap (option_map (packet_at b.packets.items)) c.in_default-first.is in
    sym (asks_nothing (ways c.args.tables.now) c.args.channel (flow_of b) first)

pub index-requires : goal.index-requires
index-requires c = let low = first_low c.args.tables.now c.args.self.now c.args.channel c.first.result c.in-Some-first.slot c.requires.kept c.requires.spot c.first.ensures c.in-Some-first.is in omega arith

pub ask-requires-clause-slot : goal.ask-requires-clause-slot
ask-requires-clause-slot c = first_low c.args.tables.now c.args.self.now c.args.channel c.first.result c.in-Some-first.slot c.requires.kept c.requires.spot c.first.ensures c.in-Some-first.is

pub ask-requires-clause-sound : goal.ask-requires-clause-sound
ask-requires-clause-sound c =
    let b = c.args.self.now in
    let low = first_low c.args.tables.now b c.args.channel c.first.result c.in-Some-first.slot c.requires.kept c.requires.spot c.first.ensures c.in-Some-first.is in
    let first = first_is b.packets b.entries b.queues b.routers c.args.channel c.first.result c.requires.kept.queues c.requires.spot c.first.ensures ∙ ap (option_map (packet_at b.packets.items)) c.in-Some-first.is in
    let read = read_packet b.packets.items c.in-Some-first.slot c.index.result.now low c.index.ensures in
    subst (λ (f : FlowOf). IsSoundOver c.args.tables.now f) (
    asks_there (ways c.args.tables.now) c.args.channel c.in-Some.end (packet_at b.packets.items c.in-Some-first.slot) (flow_of b) (sym c.far.ensures ∙ c.in-Some.is) first (λ here. c.if-to-end.false (ap (λ (x : Packet). x.to) read ∙ sym here))) c.requires.sound

pub returns-clause-flow : goal.returns-clause-flow
returns-clause-flow c =
    let b = c.args.self.now in
    let low = first_low c.args.tables.now b c.args.channel c.first.result c.in-Some-first.slot c.requires.kept c.requires.spot c.first.ensures c.in-Some-first.is in
    let first = first_is b.packets b.entries b.queues b.routers c.args.channel c.first.result c.requires.kept.queues c.requires.spot c.first.ensures ∙ ap (option_map (packet_at b.packets.items)) c.in-Some-first.is in
    let read = read_packet b.packets.items c.in-Some-first.slot c.index.result.now low c.index.ensures in
    c.ask.ensures.flow ∙ sym (asks_there (ways c.args.tables.now) c.args.channel c.in-Some.end (packet_at b.packets.items c.in-Some-first.slot) (flow_of b) (sym c.far.ensures ∙ c.in-Some.is) first (λ here. c.if-to-end.false (ap (λ (x : Packet). x.to) read ∙ sym here)))

pub returns-then-to-end-clause-flow : goal.returns-then-to-end-clause-flow
returns-then-to-end-clause-flow c =
    let b = c.args.self.now in
    let low = first_low c.args.tables.now b c.args.channel c.first.result c.in-Some-first.slot c.requires.kept c.requires.spot c.first.ensures c.in-Some-first.is in
    let first = first_is b.packets b.entries b.queues b.routers c.args.channel c.first.result c.requires.kept.queues c.requires.spot c.first.ensures ∙ ap (option_map (packet_at b.packets.items)) c.in-Some-first.is in
    let read = read_packet b.packets.items c.in-Some-first.slot c.index.result.now low c.index.ensures in
    sym (asks_not (ways c.args.tables.now) c.args.channel c.in-Some.end (packet_at b.packets.items c.in-Some-first.slot) (flow_of b) (sym c.far.ensures ∙ c.in-Some.is) first (sym c.if-to-end.true ∙ ap (λ (x : Packet). x.to) read))

pub returns-in_default-clause-ahead : goal.returns-in_default-clause-ahead
returns-in_default-clause-ahead c = sym (rests_nowhere ((ways c.args.tables.now).far c.args.channel) (first_of (flow_of c.args.self.now) c.args.channel) (sym c.far.ensures ∙ c.in_default.is))

pub returns-in_default-first-clause-ahead : goal.returns-in_default-first-clause-ahead
returns-in_default-first-clause-ahead c =
    let b = c.args.self.now in
    let first = first_is b.packets b.entries b.queues b.routers c.args.channel c.first.result c.requires.kept.queues c.requires.spot c.first.ensures ∙ ap (option_map (packet_at b.packets.items)) c.in_default-first.is in
    sym (rests_empty ((ways c.args.tables.now).far c.args.channel) (first_of (flow_of b) c.args.channel) first)

pub returns-then-to-end-clause-ahead : goal.returns-then-to-end-clause-ahead
returns-then-to-end-clause-ahead c =
    let b = c.args.self.now in
    let low = first_low c.args.tables.now b c.args.channel c.first.result c.in-Some-first.slot c.requires.kept c.requires.spot c.first.ensures c.in-Some-first.is in
    let first = first_is b.packets b.entries b.queues b.routers c.args.channel c.first.result c.requires.kept.queues c.requires.spot c.first.ensures ∙ ap (option_map (packet_at b.packets.items)) c.in-Some-first.is in
    let read = read_packet b.packets.items c.in-Some-first.slot c.index.result.now low c.index.ensures in
    sym (arrives_there c.in-Some.end (packet_at b.packets.items c.in-Some-first.slot) ((ways c.args.tables.now).far c.args.channel) (first_of (flow_of b) c.args.channel) (sym c.far.ensures ∙ c.in-Some.is) first (sym c.if-to-end.true ∙ ap (λ (x : Packet). x.to) read))

pub returns-clause-ahead : goal.returns-clause-ahead
returns-clause-ahead c =
    let b = c.args.self.now in
    let low = first_low c.args.tables.now b c.args.channel c.first.result c.in-Some-first.slot c.requires.kept c.requires.spot c.first.ensures c.in-Some-first.is in
    let first = first_is b.packets b.entries b.queues b.routers c.args.channel c.first.result c.requires.kept.queues c.requires.spot c.first.ensures ∙ ap (option_map (packet_at b.packets.items)) c.in-Some-first.is in
    let read = read_packet b.packets.items c.in-Some-first.slot c.index.result.now low c.index.ensures in
    let new = flow_of c.ask.new.self in
    let same = ap (λ (f : FlowOf). first_of f c.args.channel) c.ask.ensures.flow in
    sym (asks_on c.in-Some.end (packet_at b.packets.items c.in-Some-first.slot) ((ways c.args.tables.now).far c.args.channel) (first_of new c.args.channel) (sym c.far.ensures ∙ c.in-Some.is) (same ∙ first) (λ here. c.if-to-end.false (ap (λ (x : Packet). x.to) read ∙ sym here)))
