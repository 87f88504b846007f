use Rattle.std.proofs.Common.{◌≡◌, ◌∙◌, ap, sym, subst, ℕ, ◌<◌, List, length}
use Rattle.std.specs.Prelude.{slice_index_or}
use Rattle.std.proofs.lemmas.List.{length-map}
use Rattle.dep_check.specs.Tables.{place_of}
use Rattle.flow_channels.specs.Board.{flow_of, packet_at}
use Rattle.flow_channels.specs.Flows.{PacketOf, queue_at}
use Rattle.flow_channels.specs.Queue.{QueueOf}
use Rattle.flow_channels.proofs.BoardLemmas.{queue_is}
use Rattle.flow_channels.proofs.TurnLemmas.{high_test, low_from, some_from}
use Rattle.flow_channels.proofs.board.Board.has_room.Goals as goal

pub returns-then-is_some : goal.returns-then-is_some
returns-then-is_some c =
    let b = c.args.self.now in
    let queue = queue_is b.packets b.entries b.queues b.routers c.args.channel c.index.result.now c.requires.kept.queues c.requires.spot in
    let read = c.index.ensures ∙ ap (λ (k : ℕ). slice_index_or b.queues.items k c.index.result.now) c.place_of.ensures.place in
    let count : length (queue_at (flow_of b) c.args.channel) ≡ c.len.result = ap (λ (ps : List PacketOf). length ps) queue ∙ length-map (slice_index_or b.queues.items (place_of c.args.channel) c.index.result.now).slots (packet_at b.packets.items) ∙ ap (λ (q : QueueOf). length q.slots) (sym read) ∙ sym c.len.ensures in
    let far = some_from c.far.result (sym c.is_some.ensures ∙ c.if-is_some.true) in (
      (λ test. (far.0, sym c.far.ensures ∙ far.1, subst (λ (n : ℕ). n < c.args.tables.now.room) (sym count) (low_from c.len.result c.args.tables.now.room test))),
      (λ room. high_test c.len.result c.args.tables.now.room (subst (λ (n : ℕ). n < c.args.tables.now.room) count room.2)),
    )
