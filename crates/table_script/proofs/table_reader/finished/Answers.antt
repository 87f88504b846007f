use Rattle.std.proofs.Common.{refl, length}
use Rattle.table_script.proofs.FinalLemmas.{tables_good, network_good}
use Rattle.table_script.proofs.ReadyLemmas.{ready_after}
use Rattle.table_script.proofs.table_reader.finished.Goals as goal

pub new-tables-requires : goal.new-tables-requires
new-tables-requires c =
    let script = c.args.reading.script.script in
    let kept = c.requires.ready.kept (ready_after c.args.reading c.requires.ready c.requires.ended) in
    tables_good script script.wires c.args.reading.tables (length script.wires.switches) c.args.numbers.items c.into_rows.result.items refl refl c.requires.numbers c.into_rows.ensures kept (kept.ended c.requires.ended)

pub returns-clause-network : goal.returns-clause-network
returns-clause-network c =
    let script = c.args.reading.script.script in
    let kept = c.requires.ready.kept (ready_after c.args.reading c.requires.ready c.requires.ended) in
    network_good script script.wires c.args.reading.tables (length script.wires.switches) c.args.numbers.items c.into_rows.result.items c.new-tables.result refl refl c.requires.numbers c.into_rows.ensures c.new-tables.ensures kept (kept.ended c.requires.ended)
