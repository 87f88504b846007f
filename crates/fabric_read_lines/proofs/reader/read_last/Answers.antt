use Rattle.std.proofs.Common.{◌≡◌, ◌<◌, length, arith}
use Rattle.std.proofs.lemmas.Bool.Decides.{nat_tests}
use Rattle.std.proofs.lemmas.Result.{err_from_is_err_and}
use Rattle.fabric_read_lines.proofs.PieceLemmas.{all_read, last_read}
use Rattle.fabric_read_lines.proofs.ReadLemmas.{last_stopped}
use Rattle.fabric_read_lines.proofs.reader.read_last.Goals as goal

pub returns-then-is_empty-clause-read : goal.returns-then-is_empty-clause-read
returns-then-is_empty-clause-read g c start bytes read =
    let none : length c.args.rest.now ≡ 0 = grind (arith, nat_tests) in
    all_read (g.T.TakesLines.adds c.args.fabric.now) start bytes c.args.rest.now c.args.told.now c.args.line.now read none

pub returns-in_err-take-clause-stopped : goal.returns-in_err-take-clause-stopped
returns-in_err-take-clause-stopped g c =
    let some : 0 < length c.args.rest.now = grind (arith, nat_tests) in
    let p = err_from_is_err_and c.from_residual.result c.from_residual.ensures.1 in
    rw (p.1, p.2) (last_stopped (g.T.TakesLines.adds c.args.fabric.now) (g.T.TakesLines.is_faulty c.args.fabric.now) g.T.TakesLines.is_ended g.Cause.TextCause.no_end c.in_err-take.field-0.0 c.args.rest.now c.args.told.now c.take.new.self c.args.line.now c.in_err-take.ensures.step c.requires.cut some)

pub returns-clause-read : goal.returns-clause-read
returns-clause-read g c start bytes read =
    let some : 0 < length c.args.rest.now = grind (arith, nat_tests) in
    last_read (g.T.TakesLines.adds c.args.fabric.now) start bytes c.args.rest.now c.args.told.now c.take.new.self c.args.line.now read c.requires.cut some c.in_ok-take.ensures.step
