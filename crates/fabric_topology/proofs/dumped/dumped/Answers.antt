use Rattle.std.proofs.Common.{ap, ◌∙◌, Some}
use Rattle.fabric_topology.specs.declared.fact.Line.{Line}
use Rattle.fabric_topology.proofs.DumpedLemmas.{dumped_is}
use Rattle.fabric_topology.proofs.dumped.dumped.Goals as goal

pub returns : goal.returns
returns c = ap (λ (line : Line). Some line) c.of_three.ensures ∙ dumped_is c.args.lmc c.args.line.now c.in_ok-heads.heads.now c.in_ok-heads.guids.now c.in_ok-heads.numbers.now c.in_ok-near.near.now c.in_ok-near.head.now c.in_ok-one.one c.in_ok-other.other c.in_ok-heads.ensures c.in_ok-near.ensures c.in_ok-one.ensures c.in_ok-other.ensures
