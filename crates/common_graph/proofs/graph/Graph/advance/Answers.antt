use Rattle.std.proofs.Common.{◌+◌, subst, ℕ, arith}
use Rattle.common_graph.specs.Graph.{IsNext}
use Rattle.common_graph.proofs.CursorLemmas.{takes, passes}
use Rattle.common_graph.proofs.graph.Graph.advance.Goals as goal

pub returns-clause-next : goal.returns-clause-next
returns-clause-next c =
    let found = c.find_bits.ensures in
    subst (λ (from : ℕ). IsNext c.args.self.now c.args.node from (c.find_bits.new.cursor.first + c.lowest-bit.result)) found.from (takes c.args.self.now c.args.node c.find_bits.new.cursor found.stands c.lowest-bit.result c.without-cursor.result c.lowest-bit.ensures.has c.lowest-bit.ensures.lowest c.without-cursor.ensures.bits)

pub returns-clause-stands : goal.returns-clause-stands
returns-clause-stands c = passes c.args.self.now c.args.node c.find_bits.new.cursor c.find_bits.ensures.stands c.lowest-bit.result c.without-cursor.result c.lowest-bit.ensures.has c.lowest-bit.ensures.lowest c.without-cursor.ensures.bits

pub returns-clause-low : goal.returns-clause-low
returns-clause-low c = c.find_bits.ensures.stands.within c.args.node (c.find_bits.new.cursor.first + c.lowest-bit.result) (returns-clause-next c).step

pub returns-clause-few : goal.returns-clause-few
returns-clause-few c =
    let low = returns-clause-low c in
    let few = c.find_bits.ensures.stands.count in
    omega arith
