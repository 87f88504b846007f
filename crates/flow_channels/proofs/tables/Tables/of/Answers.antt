use Rattle.std.proofs.Common.{refl}
use Rattle.flow_channels.proofs.ExitTableLemmas.{exits_are_set}
use Rattle.flow_channels.proofs.tables.Tables.of.Goals as goal

pub returns-clause-tables : goal.returns-clause-tables
returns-clause-tables c = λ rows are. record {
  far = c.in_ok-wires_of.ensures.each;
  exits = exits_are_set c.args.graph.now c.args.numbers.now rows c.args.room c.args.exits are;
  room_is = refl;
}
