use Rattle.std.proofs.Common.{◌∙◌, sym}
use Rattle.fabric_words.proofs.RowLemmas.{no_row, row_no_lid, row_no_port, row_is}
use Rattle.fabric_words.proofs.row.row.Goals as goal

pub returns-in_err-lid : goal.returns-in_err-lid
returns-in_err-lid c = rw c.from_residual.ensures (row_no_lid c.args.line.now (sym c.is_row.ensures.row ∙ c.if-is_row.true) c.in_err-lid.ensures)

pub returns-in_err-port : goal.returns-in_err-port
returns-in_err-port c = rw c.from_residual-in_err-port.ensures (row_no_port c.args.line.now c.in_ok-lid.lid (sym c.is_row.ensures.row ∙ c.if-is_row.true) c.in_ok-lid.ensures c.in_err-port.ensures)

pub returns-in_ok-port : goal.returns-in_ok-port
returns-in_ok-port c = row_is c.args.line.now c.in_ok-lid.lid c.in_ok-port.port (sym c.is_row.ensures.row ∙ c.if-is_row.true) c.in_ok-lid.ensures c.in_ok-port.ensures

pub returns-else-is_row : goal.returns-else-is_row
returns-else-is_row c = no_row c.args.line.now (sym c.is_row.ensures.row ∙ c.if-is_row.false)
