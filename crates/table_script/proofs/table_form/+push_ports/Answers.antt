use Rattle.std.proofs.lemmas.Result.{err_from_is_err_and}
use Rattle.table_script.proofs.PairLemmas.{ports_bad}
use Rattle.table_script.proofs.table_form.+push_ports.Goals as goal

pub returns-in_err-port : goal.returns-in_err-port
returns-in_err-port t c = let p = err_from_is_err_and c.from_residual.result c.from_residual.ensures.1 in rw (p.1, p.2) (ports_bad c.args.text.now c.first_part.result.0.now c.first_part.result.1 c.args.above c.in_err-port.field-0.0 c.first_part.ensures.parts c.in_err-port.ensures.number)
