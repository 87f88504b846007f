use Rattle.std.proofs.Common.{sym}
use Rattle.std.proofs.lemmas.Result.{err_from_is_err_and}
use Rattle.table_script.proofs.PairLemmas.{pair_number_bad, pair_exits_bad, pair_good}
use Rattle.table_script.proofs.table_form.row_in.Goals as goal

pub returns-in_err-to : goal.returns-in_err-to
returns-in_err-to c = let p = err_from_is_err_and c.from_residual.result c.from_residual.ensures.1 in rw (p.1, p.2) (pair_number_bad c.args.pair.now c.in-Some.colon c.in_err-to.field-0.0 (sym c.in-Some.ensures) c.in_err-to.ensures.number)

pub returns-in_err-exits : goal.returns-in_err-exits
returns-in_err-exits c = let p = err_from_is_err_and c.from_residual-in_err-exits.result c.from_residual-in_err-exits.ensures.1 in rw (p.1, p.2) (pair_exits_bad c.args.pair.now c.in-Some.colon c.in_err-exits.field-0.0 (sym c.in-Some.ensures) c.in_err-exits.ensures)

pub returns : goal.returns
returns c = rw (c.as_u8.ensures, c.as_u8-2.ensures) (pair_good c.args.pair.now c.in-Some.colon c.args.s c.args.entry c.in_ok-to.to c.in_ok-exits.exits (sym c.in-Some.ensures) c.in_ok-to.ensures.number.0 c.in_ok-to.ensures.number.1 c.in_ok-exits.ensures.0 c.in_ok-exits.ensures.1)
