use Rattle.std.proofs.Common.{◌*◌, arith}
use Rattle.dep_check.proofs.WireLemmas.{all_wires}
use Rattle.dep_check.proofs.wires.wires_of.Goals as goal

pub returns : goal.returns
returns c = all_wires c.args.graph.now c.args.numbers.now c.members.wires.items (c.members.at * 13) c.count-count.ensures.graph c.as_slice-names.ensures.numbers c.requires (omega arith) c.members.invariant
