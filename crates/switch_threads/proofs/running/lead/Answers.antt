-- A round goes on from those before it.

use Rattle.std.proofs.Common.{◌∙◌, refl}
use Rattle.fabric_turn.specs.Names.{turnstile_id}
use Rattle.switch_threads.proofs.RunLemmas.{called_then, have_called_none, have_called_then, turnstiles_stay}
use Rattle.switch_threads.proofs.running.lead.Goals as goal

pub rounds-init : goal.rounds-init
rounds-init g c = ((refl, refl), have_called_none c.args.workers.now)

pub drive-roused-requires : goal.drive-roused-requires
drive-roused-requires g c = c.rounds.invariant.0.0 ∙ c.requires.driver

pub work-requires-clause-workers : goal.work-requires-clause-workers
work-requires-clause-workers g c κs within =
    turnstiles_stay (turnstile_id c.args.turnstile.now) c.args.workers.now c.rounds.workers c.rounds.auto.workers c.rounds.invariant.1 c.requires.workers

pub rounds-preserved : goal.rounds-preserved
rounds-preserved g c = (
  called_then c.args.driver.now.seat c.rounds.driver.seat c.drive-roused.new.driver.seat c.rounds.invariant.0 c.drive-roused.ensures,
  have_called_then c.args.workers.now c.rounds.workers c.work.new.workers c.rounds.auto.workers c.rounds.invariant.1 c.work.ensures,
)
