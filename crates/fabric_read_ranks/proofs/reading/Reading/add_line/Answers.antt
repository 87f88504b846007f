use Rattle.std.proofs.Common.{◌∙◌, sym, ap, arith, map}
use Rattle.fabric_read_ranks.specs.Readings.{told_of}
use Rattle.fabric_read_ranks.proofs.RankLemmas.{faulty_long, faulty_words, step_words}
use Rattle.fabric_read_ranks.proofs.reading.Reading.add_line.Goals as goal

pub returns-then-line-gt-MOST_LINE-clause-step : goal.returns-then-line-gt-MOST_LINE-clause-step
returns-then-line-gt-MOST_LINE-clause-step c = faulty_long c.args.fabric.now (told_of c.args.self.now) c.args.line.now (let long = c.if-line-gt-MOST_LINE.true in omega arith)

pub returns-in-Ok-clause-step : goal.returns-in-Ok-clause-step
returns-in-Ok-clause-step c = step_words c.args.fabric.now (told_of c.args.self.now) c.args.line.now (map (λ w. w.now) c.deref.result.now) c.in-Ok.said (told_of c.add.new.self) c.add.result (let short = c.if-line-gt-MOST_LINE.false in omega arith) (ap (map (λ w. w.now)) c.deref.ensures.value ∙ c.in_ok-words.ensures) (sym c.said_by.ensures ∙ c.in-Ok.is) c.add.ensures.step

pub returns-clause-step : goal.returns-clause-step
returns-clause-step c = faulty_words c.args.fabric.now (told_of c.args.self.now) c.args.line.now (map (λ w. w.now) c.deref.result.now) c.in-Err.cause (let short = c.if-line-gt-MOST_LINE.false in omega arith) (ap (map (λ w. w.now)) c.deref.ensures.value ∙ c.in_ok-words.ensures) (sym c.said_by.ensures ∙ c.in-Err.is)
