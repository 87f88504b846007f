-- The worker begins with its switch's first life.

use Rattle.std.proofs.Common.{[], arith}
use Rattle.switch_threads.proofs.TurnLemmas.{begun_step, place_few}
use Rattle.switch_threads.proofs.worker.Worker.new.Goals as goal

pub overflow_add-result : goal.overflow_add-result
overflow_add-result c =
    let desk = c.in_ok-desk.desk in
    let few = place_few c.args.script.now [] desk c.in_ok-desk.papers desk.pending c.in_ok-desk.ensures.up in
    omega (arith, few, c.as_u8.ensures)

pub invariant_of-result : goal.invariant_of-result
invariant_of-result c =
    begun_step c.args.seat.1 c.args.script.now c.args.s c.in_ok-desk.desk c.in_ok-desk.papers c.requires.begun c.requires.number c.requires.first c.in_ok-desk.ensures.place c.in_ok-desk.ensures.up c.in_ok-desk.ensures.told
