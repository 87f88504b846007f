use Rattle.std.proofs.Common.{arith}
use Rattle.std.proofs.lemmas.Result.{err_from_is_err_and}
use Rattle.fabric_read_lines.proofs.ReadLemmas.{reads_further, reads_all, stops_further}
use Rattle.fabric_read_lines.proofs.reader.read_lines.Goals as goal

pub returns-in_err-end-clause-stopped : goal.returns-in_err-end-clause-stopped
returns-in_err-end-clause-stopped g c =
    let p = err_from_is_err_and c.from_residual.result c.from_residual.ensures.1 in
    rw (p.1, p.2) (stops_further (g.T.TakesLines.adds c.args.fabric.now) (g.T.TakesLines.is_faulty c.args.fabric.now) g.T.TakesLines.is_ended g.Cause.TextCause.no_end c.in_err-end.field-0.0 c.args.bytes.now c.args.told.now c.lines.told c.args.line.now c.lines.line c.lines.from c.lines.invariant.read c.in_err-end.ensures.faulty)

pub returns-clause-read : goal.returns-clause-read
returns-clause-read g c = reads_all (g.T.TakesLines.adds c.args.fabric.now) c.args.bytes.now c.args.told.now c.lines.told c.take_first.new.told c.args.line.now c.lines.line c.lines.from c.in_ok-end.field-0 c.lines.invariant.read c.lines.invariant.few c.in_ok-end.ensures.taken c.in_default.is

pub lines-preserved : goal.lines-preserved
lines-preserved g c =
    let first = reads_further (g.T.TakesLines.adds c.args.fabric.now) c.args.bytes.now c.args.told.now c.lines.told c.take_first.new.told c.args.line.now c.lines.line c.lines.from c.in-Some.end c.in_ok-end.field-0 c.lines.invariant.read c.in_ok-end.ensures.taken c.in-Some.is in
    record {
      read = first.0;
      fit = c.in_ok-end.ensures.fit;
      counted = omega (arith, c.in_ok-end.ensures.count, c.lines.invariant.counted);
      within = first.1;
      few = omega (arith, first.1, c.lines.invariant.few);
    }
