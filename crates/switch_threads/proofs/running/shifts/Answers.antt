-- A shift goes on from those before it.

use Rattle.std.proofs.Common.{◌∙◌, refl}
use Rattle.fabric_turn.specs.Names.{turnstile_id}
use Rattle.switch_threads.proofs.RunLemmas.{called_then, have_called_none, have_called_then, turnstiles_stay}
use Rattle.switch_threads.proofs.running.shifts.Goals as goal

pub shifts-init : goal.shifts-init
shifts-init g c = ((refl, refl), have_called_none c.args.workers.now)

pub make-requires-clause-driver : goal.make-requires-clause-driver
make-requires-clause-driver g c κs within = c.shifts.invariant.0.0 ∙ c.requires.driver

pub make-requires-clause-workers : goal.make-requires-clause-workers
make-requires-clause-workers g c κs within =
    turnstiles_stay (turnstile_id c.args.turnstile.now) c.args.workers.now c.shifts.workers c.shifts.auto.workers c.shifts.invariant.1 c.requires.workers

pub shifts-preserved : goal.shifts-preserved
shifts-preserved g c = (
  called_then c.args.driver.now.seat c.shifts.driver.seat c.make.new.driver.seat c.shifts.invariant.0 c.make.ensures.driver,
  have_called_then c.args.workers.now c.shifts.workers c.make.new.workers c.shifts.auto.workers c.shifts.invariant.1 c.make.ensures.workers,
)
