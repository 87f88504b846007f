use Rattle.std.proofs.Common.{sym, arith}
use Rattle.fabric_read_tables.proofs.FirstLemmas.{row_begins}
use Rattle.fabric_read_tables.proofs.first.first_row.Goals as goal

pub returns : goal.returns
returns c = record {
  ends = c.in_ok-end.ensures.0;
  here = row_begins c.args.bytes.now c.in_ok-end.end c.in_ok-lid.lid c.in_ok-lid.port (sym c.in_ok-lid.ensures) c.in_ok-end.ensures.0 (omega arith) c.in_ok-end.ensures.1;
}
