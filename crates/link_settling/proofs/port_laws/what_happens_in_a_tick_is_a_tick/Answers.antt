use Rattle.link_settling.proofs.Ticks.{run_is_tick}
use Rattle.link_settling.proofs.port_laws.what_happens_in_a_tick_is_a_tick.Goals as goal

pub returns : goal.returns
returns c = run_is_tick
