use Rattle.std.proofs.lemmas.Result.{err_from_is_err_and}
use Rattle.fabric_read_tables.proofs.ReadingLemmas.{gave_tables, tables_refused}
use Rattle.fabric_read_tables.proofs.reader.read_tables.Goals as goal

pub returns-in_err-read_text-clause-refused : goal.returns-in_err-read_text-clause-refused
returns-in_err-read_text-clause-refused g c =
    let p = err_from_is_err_and c.from_residual-in_err-read_text.result c.from_residual-in_err-read_text.ensures.1 in
    rw (p.1, p.2) (tables_refused c.args.fabric.now (g.S.Source.seen c.args.source.now) (g.S.Source.seen c.read_text.new.source) c.in_ok-reading.reading c.read_text.new.told c.in_ok-reading.ensures.none c.in_err-read_text.field-0.0 c.in_err-read_text.ensures.refused)

pub returns-clause-text : goal.returns-clause-text
returns-clause-text g c = gave_tables c.args.fabric.now (g.S.Source.seen c.args.source.now) (g.S.Source.seen c.read_text.new.source) c.in_ok-reading.reading c.read_text.new.told c.in_ok-reading.ensures.none c.in_ok-read_text.ensures.text
