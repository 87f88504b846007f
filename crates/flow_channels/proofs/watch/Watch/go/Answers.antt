use Rattle.std.proofs.Common.{◌∙◌, ap, sym, subst, arith, ℕ, List}
use Rattle.std.proofs.lemmas.List.{get_or_read}
use Rattle.flow_channels.specs.declared.board.Packet.{Packet}
use Rattle.flow_channels.specs.Board.{flow_of, freed_by, IsSoundOver, packet_at, ways}
use Rattle.flow_channels.specs.Flows.{comes_into, FlowOf}
use Rattle.flow_channels.specs.Layout.{spot}
use Rattle.flow_channels.proofs.watch.Watch.go.Goals as goal

pub leave_by-requires-clause-sound : goal.leave_by-requires-clause-sound
leave_by-requires-clause-sound c =
    let t = c.args.tables.now in
    let b = c.args.board.now in
    let d = c.args.departure in
    let count = c.requires.kept.count in
    let low = c.requires.slot in
    let read = get_or_read b.entries.items d.slot c.index.result.now (omega arith) c.index.ensures 0 in
    subst (λ (n : ℕ). IsSoundOver t (freed_by t b (spot d.at n))) (sym read) c.requires.left

pub come_into-requires-clause-sound : goal.come_into-requires-clause-sound
come_into-requires-clause-sound c =
    let t = c.args.tables.now in
    let b = c.args.board.now in
    let d = c.args.departure in
    let count = c.requires.kept.count in
    let low = c.requires.slot in
    let read = get_or_read b.entries.items d.slot c.index.result.now (omega arith) c.index.ensures 0 in
    let flow = c.leave_by.ensures.flow ∙ ap (λ (n : ℕ). freed_by t b (spot d.at n)) read in
    subst (λ (ps : List Packet). IsSoundOver t (comes_into (ways t) (spot d.at d.exit) (packet_at ps d.slot) (flow_of c.leave_by.new.board))) (sym c.leave_by.ensures.packets) (
    subst (λ (f : FlowOf). IsSoundOver t (comes_into (ways t) (spot d.at d.exit) (packet_at b.packets.items d.slot) f)) (sym flow) c.requires.sound)
