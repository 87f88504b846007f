use Rattle.std.proofs.Common.{arith}
use Rattle.table_script.specs.TableTexts.{AddsTold, none_told}
use Rattle.table_script.specs.TableSteps.{told_of}
use Rattle.common_lines.proofs.ChainLaws.{read_more, all_read}
use Rattle.table_script.proofs.table_reader.read_all.Goals as goal

pub lines-preserved : goal.lines-preserved
lines-preserved c = record {
  read = read_more AddsTold none_told c.args.bytes.now c.lines.rest.now c.in-Some.first.now c.in-Some.after.now (told_of c.lines.reading) (told_of c.read_told.new.reading) c.lines.line c.lines.invariant.read c.in-Some.ensures.some c.in_default-read_told.ensures.step;
  ready = c.in_default-read_told.ensures.ready;
  few = omega (arith, c.lines.invariant.few, c.in-Some.ensures.less);
}

pub returns-clause-good : goal.returns-clause-good
returns-clause-good c = (all_read AddsTold none_told c.args.bytes.now c.lines.rest.now (told_of c.lines.reading) c.lines.line c.lines.invariant.read c.in_default.ensures.none).0
