use Rattle.net_world.proofs.ProgressLemmas.{progress}
use Rattle.net_world.proofs.law.some_event_may_come_next.Goals as goal

pub returns : goal.returns
returns c = record { next = progress }
