use Rattle.std.proofs.Common.{◌∙◌, sym}
use Rattle.replay.proofs.DivisionLemmas.{without_words}
use Rattle.replay.proofs.division.from_words.Goals as goal

pub lines-preserved : goal.lines-preserved
lines-preserved c = without_words c.args.bytes.now c.lines.rest.now c.in-Some.line.now c.in-Some.after.now c.lines.invariant c.in-Some.ensures.some c.in-Some.ensures.back (sym c.in_ok-has_words.ensures ∙ c.if-branch.false)
