use Rattle.std.proofs.Common.{rules, arith, sym, ◌∙◌, refl}
use Rattle.table_script.specs.Tables.{with_number_at}
use Rattle.table_script.proofs.NumberedLemmas.{numbered_more}
use Rattle.table_script.proofs.tables.Tables.into_numbered.Goals as goal

pub rows-preserved : goal.rows-preserved
rows-preserved c = record {
  count = search rules;
  low = search rules;
  rows = numbered_more (with_number_at c.self.inside.numbers.items) c.args.self.rows c.rows.rows.items c.rows.i c.index_mut.result.now c.set_number.new.row (search rules) c.rows.invariant.rows (search rules) (search rules);
}
