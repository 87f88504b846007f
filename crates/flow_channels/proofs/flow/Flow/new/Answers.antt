use Rattle.std.proofs.Common.{ap, sym, subst, arith, ℕ}
use Rattle.std.specs.Prelude.{map}
use Rattle.flow_channels.specs.declared.board.Packet.{Packet}
use Rattle.flow_channels.specs.Flows.{left_of}
use Rattle.flow_channels.specs.Board.{AreTablesOf}
use Rattle.flow_channels.specs.Layout.{layout_of}
use Rattle.flow_channels.proofs.ViewLaws.{over_fresh}
use Rattle.flow_channels.proofs.flow.Flow.new.Goals as goal

pub invariant_of-result : goal.invariant_of-result
invariant_of-result g c =
    let (same, (exits, (no_cycle, (joined, (room, (least, most)))))) = c.requires in
    let t = c.in_ok-tables in
    let b = c.in_ok-board in
    let limit = t.ensures.limit in
    let graph = c.args.graph.now in
    let numbers = c.args.numbers.now in
    let are = subst (λ (n : ℕ). AreTablesOf (layout_of graph numbers g.rows n) t.tables.wires.items t.tables.exits t.tables.room) c.from.ensures (t.ensures.tables g.rows exits) in (
      record {
        running = record {
          kept = b.ensures.kept;
          least = omega arith;
          limit = omega arith;
          layout = layout_of graph numbers g.rows c.args.b;
          over = over_fresh graph numbers g.rows c.args.b t.tables b.board c.count-count.ensures.graph c.as_slice-numbers.ensures.numbers same room no_cycle joined are b.ensures.flow b.ensures.packets;
        };
        left_is = ap left_of (sym b.ensures.flow);
        few = omega arith;
      },
      c.in_ok-watch.ensures,
    )

pub returns : goal.returns
returns g c =
    let (same, (exits, (no_cycle, (joined, (room, (least, most)))))) = c.requires in
    let t = c.in_ok-tables in
    let b = c.in_ok-board in
    let graph = c.args.graph.now in
    let numbers = c.args.numbers.now in
    let are = subst (λ (n : ℕ). AreTablesOf (layout_of graph numbers g.rows n) t.tables.wires.items t.tables.exits t.tables.room) c.from.ensures (t.ensures.tables g.rows exits) in
    record {
      over = over_fresh graph numbers g.rows c.args.b t.tables b.board c.count-count.ensures.graph c.as_slice-numbers.ensures.numbers same room no_cycle joined are b.ensures.flow b.ensures.packets;
      limit_is = t.ensures.limit;
      known_is = ap (map (λ (packet : Packet). packet.packet)) b.ensures.packets;
      flow_is = b.ensures.flow;
    }
