use Rattle.std.proofs.Common.{arith}
use Rattle.net_script.specs.Texts.{Adds}
use Rattle.net_script.specs.Drafts.{start}
use Rattle.common_lines.proofs.ChainLaws.{read_more}
use Rattle.net_script.proofs.reader.read_all.Goals as goal

pub lines-preserved : goal.lines-preserved
lines-preserved c = record {
  read = read_more Adds start c.args.bytes.now c.lines.rest.now c.in-Some.first.now c.in-Some.after.now c.lines.draft c.read_line.new.draft c.lines.line c.lines.invariant.read c.in-Some.ensures.some c.in_default-read_line.ensures;
  few = omega (arith, c.lines.invariant.few, c.in-Some.ensures.less);
}
