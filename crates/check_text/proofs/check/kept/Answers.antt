use Rattle.std.proofs.Common.{◌∙◌, sym, true, false}
use Rattle.check_text.proofs.CheckLemmas.{run_of}
use Rattle.check_text.proofs.check.kept.Goals as goal

pub returns-then-is_row_of : goal.returns-then-is_row_of
returns-then-is_row_of c = run_of c.args.members.now c.args.run.now c.in-Some.row.now true c.requires c.in-Some.ensures.item.3.0 c.in-Some.ensures.item.1 (sym c.is_row_of.ensures ∙ c.if-is_row_of.true)

pub returns-else-is_row_of : goal.returns-else-is_row_of
returns-else-is_row_of c = run_of c.args.members.now c.args.run.now c.in-Some.row.now false c.requires c.in-Some.ensures.item.3.0 c.in-Some.ensures.item.1 (sym c.is_row_of.ensures ∙ c.if-is_row_of.false)
