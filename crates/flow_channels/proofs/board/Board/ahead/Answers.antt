use Rattle.std.proofs.Common.{◌∙◌, ap, sym, arith}
use Rattle.std.specs.Option.{option_map}
use Rattle.flow_channels.specs.declared.board.Packet.{Packet}
use Rattle.flow_channels.specs.Board.{flow_of, packet_at, ways}
use Rattle.flow_channels.specs.Flows.{first_of}
use Rattle.flow_channels.proofs.AheadLemmas.{arrives_there, asks_on, rests_empty, rests_nowhere}
use Rattle.flow_channels.proofs.BoardLemmas.{first_is, first_low, read_packet}
use Rattle.flow_channels.proofs.board.Board.ahead.Goals as goal

pub returns-in_default : goal.returns-in_default
returns-in_default c = sym (rests_nowhere ((ways c.args.tables.now).far c.args.channel) (first_of (flow_of c.args.self.now) c.args.channel) (sym c.far.ensures ∙ c.in_default.is))

pub returns-in_default-first : goal.returns-in_default-first
returns-in_default-first c =
    let b = c.args.self.now in
    let first = first_is b.packets b.entries b.queues b.routers c.args.channel c.first.result c.requires.kept.queues c.requires.spot c.first.ensures ∙ ap (option_map (packet_at b.packets.items)) c.in_default-first.is in
    sym (rests_empty ((ways c.args.tables.now).far c.args.channel) (first_of (flow_of b) c.args.channel) first)

pub index-requires : goal.index-requires
index-requires c = let low = first_low c.args.tables.now c.args.self.now c.args.channel c.first.result c.in-Some-first.slot c.requires.kept c.requires.spot c.first.ensures c.in-Some-first.is in omega arith

pub returns-then-index-end : goal.returns-then-index-end
returns-then-index-end c =
    let b = c.args.self.now in
    let low = first_low c.args.tables.now b c.args.channel c.first.result c.in-Some-first.slot c.requires.kept c.requires.spot c.first.ensures c.in-Some-first.is in
    let first = first_is b.packets b.entries b.queues b.routers c.args.channel c.first.result c.requires.kept.queues c.requires.spot c.first.ensures ∙ ap (option_map (packet_at b.packets.items)) c.in-Some-first.is in
    let read = read_packet b.packets.items c.in-Some-first.slot c.index.result.now low c.index.ensures in
    sym (arrives_there c.in-Some.end (packet_at b.packets.items c.in-Some-first.slot) ((ways c.args.tables.now).far c.args.channel) (first_of (flow_of b) c.args.channel) (sym c.far.ensures ∙ c.in-Some.is) first (sym c.if-index-end.true ∙ ap (λ (x : Packet). x.to) read))

pub returns : goal.returns
returns c =
    let b = c.args.self.now in
    let low = first_low c.args.tables.now b c.args.channel c.first.result c.in-Some-first.slot c.requires.kept c.requires.spot c.first.ensures c.in-Some-first.is in
    let first = first_is b.packets b.entries b.queues b.routers c.args.channel c.first.result c.requires.kept.queues c.requires.spot c.first.ensures ∙ ap (option_map (packet_at b.packets.items)) c.in-Some-first.is in
    let read = read_packet b.packets.items c.in-Some-first.slot c.index.result.now low c.index.ensures in
    sym (asks_on c.in-Some.end (packet_at b.packets.items c.in-Some-first.slot) ((ways c.args.tables.now).far c.args.channel) (first_of (flow_of b) c.args.channel) (sym c.far.ensures ∙ c.in-Some.is) first (λ here. c.if-index-end.false (ap (λ (x : Packet). x.to) read ∙ sym here)))
