use Rattle.std.proofs.lemmas.Result.{err_from_is_err_and}
use Rattle.fabric_words.proofs.StepLemmas.{step_by, stop_by}
use Rattle.fabric_read_lanes.specs.LevelLines.{said_in}
use Rattle.fabric_read_lanes.specs.Levels.{told_after, told_with}
use Rattle.fabric_read_lanes.specs.LevelReadings.{told_of}
use Rattle.fabric_read_lanes.proofs.level_reading.ReadingTakesLinesLaneCause.take.Goals as goal

pub returns-in_err-said-clause-step : goal.returns-in_err-said-clause-step
unfolding told_after
returns-in_err-said-clause-step c =
    let p = err_from_is_err_and c.from_residual.result c.from_residual.ensures.1 in
    rw (p.1, p.2) (stop_by (said_in c.args.line.now) (told_with c.args.fabric.now (told_of c.args.self.now)) (told_of c.args.self.now) c.in_err-said.field-0.0 c.in_err-said.ensures.said)

pub returns-clause-step : goal.returns-clause-step
unfolding told_after
returns-clause-step c = step_by (said_in c.args.line.now) (told_with c.args.fabric.now (told_of c.args.self.now)) (told_of c.add.new.self) c.add.result c.in_ok-said.said c.in_ok-said.ensures.said c.add.ensures.step
