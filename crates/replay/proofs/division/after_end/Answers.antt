use Rattle.std.proofs.Common.{◌∙◌, sym}
use Rattle.std.proofs.lemmas.Result.{IfOk-weaker}
use Rattle.replay.proofs.DivisionLemmas.{back_twice, before_end}
use Rattle.replay.proofs.division.after_end.Goals as goal

pub returns-then-branch-clause-back : goal.returns-then-branch-clause-back
returns-then-branch-clause-back c =
    IfOk-weaker c.from_words.result _ _
    (λ rest is. back_twice c.args.bytes.now c.in-Some.after.now rest.now (back_twice c.args.bytes.now c.lines.rest.now c.in-Some.after.now c.lines.invariant.back c.in-Some.ensures.back) is)
    c.from_words.ensures.back

pub lines-preserved : goal.lines-preserved
lines-preserved c = before_end c.args.bytes.now c.lines.rest.now c.in-Some.line.now c.in-Some.after.now c.lines.invariant c.in-Some.ensures.some c.in-Some.ensures.back (sym c.in_ok-is_end_line.ensures ∙ c.if-branch.false)
