use Rattle.std.proofs.Common.{refl}
use Rattle.flow_channels.specs.Board.{flow_of, ways}
use Rattle.flow_channels.specs.Flows.{leaves}
use Rattle.flow_channels.specs.declared.went.Went.TheVariants.{Arrived}
use Rattle.flow_channels.proofs.TurnLaws.{arrival_left, arrival_turn, sound_over}
use Rattle.flow_channels.proofs.flow.arrive.Goals as goal

pub leave-requires-clause-sound : goal.leave-requires-clause-sound
leave-requires-clause-sound c =
    let t = c.args.tables.now in
    let b = c.args.board.now in
    let a = c.in-Some.field-0 in
    let new = leaves (ways t) a.channel (flow_of b) in
    sound_over t b new (Arrived a.packet.packet a.packet.to) c.requires.running (arrival_turn t b c.requires.running.layout c.requires.running.over a new c.in-Some.ensures refl)

pub returns-clause-turned : goal.returns-clause-turned
returns-clause-turned c = record {
  turn = λ layout over. arrival_turn c.args.tables.now c.args.board.now layout over c.in-Some.field-0 (flow_of c.leave.new.board) c.in-Some.ensures c.leave.ensures.flow;
  packets = c.leave.ensures.packets;
  kept = c.leave.ensures.kept;
}

pub returns-clause-left : goal.returns-clause-left
returns-clause-left c = arrival_left c.args.tables.now c.args.board.now c.in-Some.field-0 (flow_of c.leave.new.board) c.requires.running c.in-Some.ensures c.leave.ensures.flow
