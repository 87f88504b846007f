use Rattle.std.proofs.Common.{◌+◌, ◌∙◌, refl, sym, length, take}
use Rattle.std.specs.Str.Lines.{strip_carriage_return}
use Rattle.common_lines.proofs.LineLemmas.{first_at_feed, first_is_all}
use Rattle.replay.proofs.DivisionLemmas.{back_sliced}
use Rattle.replay.proofs.division.after_first.Goals as goal

pub returns-in-Some-clause-lines : goal.returns-in-Some-clause-lines
returns-in-Some-clause-lines c = λ some.
    (strip_carriage_return (take c.in-Some.end c.args.bytes.now), first_at_feed c.args.bytes.now (strip_carriage_return (take c.in-Some.end c.args.bytes.now)) c.in-Some.end (sym c.first_of.ensures ∙ c.in-Some.is) refl)

pub returns-in-Some-clause-back : goal.returns-in-Some-clause-back
returns-in-Some-clause-back c = back_sliced (c.in-Some.end + 1) c.args.bytes.now

pub returns-in-None-clause-lines : goal.returns-in-None-clause-lines
returns-in-None-clause-lines c = λ some.
    (c.args.bytes.now, first_is_all c.args.bytes.now (sym c.first_of.ensures ∙ c.in-None.is) some)

pub returns-in-None-clause-back : goal.returns-in-None-clause-back
returns-in-None-clause-back c = back_sliced (length c.args.bytes.now) c.args.bytes.now
