use Rattle.std.proofs.lemmas.Option.{MatchOption-at_none}
use Rattle.fabric_tables.specs.Cells.{tables_of}
use Rattle.fabric_routes.specs.declared.witness.Witness.{Witness}
use Rattle.fabric_routes.specs.Found.{IsLeastWitness, channel_of}
use Rattle.fabric_routes.specs.Finding.{HasNoWitness}
use Rattle.fabric_verdict.proofs.WitnessLemmas.{first_low, second_low}
use Rattle.fabric_verdict.proofs.judge.witness_of.Goals as goal

pub find_witness-requires-clause-channel : goal.find_witness-requires-clause-channel
find_witness-requires-clause-channel c = first_low c.args.fabric.now (tables_of c.args.cells.now) c.args.traffic c.requires.fabric (channel_of c.args.channel) (channel_of c.args.next) c.requires.depends

pub find_witness-requires-clause-next : goal.find_witness-requires-clause-next
find_witness-requires-clause-next c = second_low c.args.fabric.now (tables_of c.args.cells.now) c.args.traffic c.requires.fabric (channel_of c.args.channel) (channel_of c.args.next) c.requires.depends

pub unreachable-requires : goal.unreachable-requires
unreachable-requires c =
    let by = c.requires.depends in
    MatchOption-at_none (HasNoWitness c.args.fabric.now (tables_of c.args.cells.now) c.args.traffic (channel_of c.args.channel) (channel_of c.args.next)) (λ (w : Witness). IsLeastWitness c.args.fabric.now (tables_of c.args.cells.now) c.args.traffic (channel_of c.args.channel) (channel_of c.args.next) w.lid w.source) c.in-None.is c.in_ok-witness.ensures by.0 by.1 by.2
