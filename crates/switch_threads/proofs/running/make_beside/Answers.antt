-- Workers may go to another thread, and the turnstile and the shift may be shared.

use denote.Param.Send.{sendable}
use Rattle.std.proofs.Crossing.{crosses}
use Rattle.switch_threads.proofs.SendLemmas.{turnstile_sync, worker_send, workers_send}
use Rattle.switch_threads.proofs.shift.Shift.TheSendSync as shift
use Rattle.switch_threads.proofs.running.make_beside.Goals as goal

pub join_mut-requires-send-F : goal.join_mut-requires-send-F
join_mut-requires-send-F g c κs within =
    search (workers_send, worker_send, turnstile_sync, shift.the_sync, sendable, crosses) depth 30
