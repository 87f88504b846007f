use Rattle.std.proofs.Common.{arith}
use Rattle.common_graph.proofs.CursorLemmas.{turns}
use Rattle.common_graph.proofs.graph.Graph.find_bits.Goals as goal

pub parts-preserved : goal.parts-preserved
parts-preserved c =
    let i = c.parts.invariant in
    let wide = c.wide.ensures.wide in
    let near = c.if-part-wide.false in
    let count = c.count.ensures.count in
    let low = c.if-node-count.false in
    record {
      stands = turns c.args.self.now c.args.node c.parts.cursor i.stands c.parts-test.true (omega arith) (omega arith) c.word-cursor.result c.word-cursor.ensures (let fits = c.word-cursor.type_inv in omega arith);
      from = i.from;
    }
