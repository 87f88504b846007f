use Rattle.std.proofs.Common.{Ok}
use Rattle.std.proofs.lemmas.Result.{err_from_is_err_and}
use Rattle.fabric_read_tables.specs.Readings.{told_of}
use Rattle.fabric_read_tables.proofs.RowStepLemmas.{row_leads, row_stopped}
use Rattle.fabric_read_tables.specs.declared.line.TableLine.TheVariants.{Row}
use Rattle.fabric_read_tables.proofs.UnicastLemmas.{unicast_said}
use Rattle.fabric_read_tables.proofs.reading.ReadingTakesLinesTablesCause.take_in_place.Goals as goal

pub returns-in_err-add_row-clause-faulty : goal.returns-in_err-add_row-clause-faulty
returns-in_err-add_row-clause-faulty c =
    let p = err_from_is_err_and c.from_residual.result c.from_residual.ensures.1 in
    let row = c.in-Some.row in
    rw (p.1, p.2) (row_stopped c.args.fabric.now c.args.self.now c.args.bytes.now row.end row.lid row.port c.switch_dumped.result c.in-Some.ensures c.switch_dumped.ensures.switch c.in_err-add_row.field-0.0 (told_of c.add_row.new.self) c.in_err-add_row.ensures.step)

pub returns-clause-taken : goal.returns-clause-taken
returns-clause-taken c =
    let row = c.in-Some.row in
    row_leads c.args.fabric.now c.args.self.now c.args.bytes.now row.end row.lid row.port c.switch_dumped.result c.in-Some.ensures c.switch_dumped.ensures.switch (Ok (told_of c.add_row.new.self)) c.in_ok-add_row.ensures.step

pub add_row-requires-clause-unicast : goal.add_row-requires-clause-unicast
add_row-requires-clause-unicast c = unicast_said _ (Row c.in-Some.row.lid c.in-Some.row.port) c.in-Some.ensures.here
