use Rattle.std.proofs.Common.{◌∙◌, ap, refl, sym, subst, arith, ℕ, ◌<◌, List, length}
use Rattle.std.specs.Prelude.{map, slice_index}
use Rattle.std.proofs.lemmas.List.{length-map}
use Rattle.flow_channels.specs.declared.board.Packet.{Packet}
use Rattle.flow_channels.specs.declared.went.Went.TheVariants.{Out}
use Rattle.flow_channels.specs.Board.{flow_of, gone_by, packet_at}
use Rattle.flow_channels.proofs.BoardLemmas.{read_packet}
use Rattle.flow_channels.proofs.GoLaws.{departs_entry, departs_exit, departs_low, departure_left, departure_turn, sound_left, still}
use Rattle.flow_channels.proofs.TurnLaws.{sound_over}
use Rattle.flow_channels.proofs.ViewLaws.{running_same}
use Rattle.flow_channels.proofs.flow.depart.Goals as goal

pub returns-in_default-clause-turned : goal.returns-in_default-clause-turned
returns-in_default-clause-turned c = λ layout move over can. still c.args.tables.now c.args.board.now c.requires.running.kept layout over c.requires.none c.in_default.ensures.departed move can

pub returns-in_default-clause-same : goal.returns-in_default-clause-same
returns-in_default-clause-same c = c.in_default.ensures.same refl

pub returns-in_default-clause-running : goal.returns-in_default-clause-running
returns-in_default-clause-running c = λ none. running_same c.args.tables.now c.args.board.now c.departure.new.board c.requires.running (c.in_default.ensures.same refl) c.in_default.ensures.kept

pub index-requires : goal.index-requires
index-requires c =
    let low = departs_low c.args.tables.now c.args.board.now c.requires.running.kept c.requires.running.layout c.requires.running.over c.departure.new.board c.in-Some.departure c.in-Some.ensures.departed c.requires.none in
    let same = ap (λ (ps : List Packet). length ps) c.in-Some.ensures.departed.packets in
    omega arith

pub go-requires-clause-exit : goal.go-requires-clause-exit
go-requires-clause-exit c = departs_exit c.args.tables.now c.args.board.now c.requires.running.kept c.requires.running.layout c.requires.running.over c.departure.new.board c.in-Some.departure c.in-Some.ensures.departed c.requires.none

pub go-requires-clause-slot : goal.go-requires-clause-slot
go-requires-clause-slot c =
    let low = departs_low c.args.tables.now c.args.board.now c.requires.running.kept c.requires.running.layout c.requires.running.over c.departure.new.board c.in-Some.departure c.in-Some.ensures.departed c.requires.none in
    let same = ap (λ (ps : List Packet). length ps) c.in-Some.ensures.departed.packets in
    omega arith

pub go-requires-clause-entry : goal.go-requires-clause-entry
go-requires-clause-entry c =
    subst (λ (es : List ℕ). slice_index es c.in-Some.departure.slot < 13) (sym c.in-Some.ensures.departed.entries) (
    departs_entry c.args.tables.now c.args.board.now c.requires.running.kept c.requires.running.layout c.requires.running.over c.departure.new.board c.in-Some.departure c.in-Some.ensures.departed c.requires.none)

pub go-requires-clause-left : goal.go-requires-clause-left
go-requires-clause-left c =
    let t = c.args.tables.now in
    let b = c.args.board.now in
    let r = c.requires.running in
    let few = r.kept.few in
    let n = length-map b.packets.items (λ (packet : Packet). packet.packet) in
    record {
      layout = r.layout;
      known = map (λ (packet : Packet). packet.packet) b.packets.items;
      tables_are = r.over.tables_are;
      wired = r.over.wired;
      joined = r.over.joined;
      few = omega arith;
      sound = sound_left t b r.kept r.layout r.over c.departure.new.board c.in-Some.departure c.in-Some.ensures.departed c.requires.none;
    }

pub go-requires-clause-sound : goal.go-requires-clause-sound
go-requires-clause-sound c =
    let t = c.args.tables.now in
    let b = c.args.board.now in
    let r = c.requires.running in
    let m = c.departure.new.board in
    let d = c.in-Some.departure in
    let packet = (packet_at m.packets.items d.slot).packet in
    sound_over t b (gone_by t m d) (Out packet d.at d.exit) r (departure_turn t b r.kept r.layout r.over m d c.in-Some.ensures.departed c.requires.none packet (gone_by t m d) refl refl)

pub returns-clause-turned : goal.returns-clause-turned
returns-clause-turned c =
    let t = c.args.tables.now in
    let b = c.args.board.now in
    let r = c.requires.running in
    let m = c.departure.new.board in
    let d = c.in-Some.departure in
    let low = departs_low t b r.kept r.layout r.over m d c.in-Some.ensures.departed c.requires.none in
    let same = ap (λ (ps : List Packet). length ps) c.in-Some.ensures.departed.packets in
    let read = read_packet m.packets.items d.slot c.index.result.now (omega arith) c.index.ensures in
    record {
      turn = λ layout over. departure_turn t b r.kept layout over m d c.in-Some.ensures.departed c.requires.none c.index.result.now.packet (flow_of c.go.new.board) (ap (λ (p : Packet). p.packet) read) c.go.ensures.flow;
      packets = c.go.ensures.packets ∙ c.in-Some.ensures.departed.packets;
      kept = c.go.ensures.kept;
    }

pub returns-clause-left : goal.returns-clause-left
returns-clause-left c =
    let t = c.args.tables.now in
    let b = c.args.board.now in
    let r = c.requires.running in
    departure_left t b r.kept r.layout r.over c.departure.new.board c.in-Some.departure c.in-Some.ensures.departed c.requires.none (flow_of c.go.new.board) c.go.ensures.flow
