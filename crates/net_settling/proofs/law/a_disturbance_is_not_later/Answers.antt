use Rattle.net_settling.proofs.Since.{step_tick, disturbance_past, disturbance_grows}
use Rattle.net_settling.proofs.law.a_disturbance_is_not_later.Goals as goal

pub returns-clause-clock : goal.returns-clause-clock
returns-clause-clock c = step_tick

pub returns-clause-past : goal.returns-clause-past
returns-clause-past c = disturbance_past

pub returns-clause-grows : goal.returns-clause-grows
returns-clause-grows c = disturbance_grows
