-- Turns go on from those before them.

use Rattle.fabric_turn.specs.Names.{turnstile_id}
use Rattle.switch_threads.proofs.RunLemmas.{have_called_none, have_called_then, turnstiles_stay}
use Rattle.switch_threads.proofs.running.work.Goals as goal

pub turns-init : goal.turns-init
turns-init g c = have_called_none c.args.workers.now

pub turn-requires-clause-workers : goal.turn-requires-clause-workers
turn-requires-clause-workers g c κs within =
    turnstiles_stay (turnstile_id c.args.turnstile.now) c.args.workers.now c.turns.workers c.turns.auto.workers c.turns.invariant c.requires.workers

pub turns-preserved : goal.turns-preserved
turns-preserved g c =
    have_called_then c.args.workers.now c.turns.workers c.turn.new.workers c.turns.auto.workers c.turns.invariant c.turn.ensures
