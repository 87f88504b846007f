use Rattle.net_world.proofs.ChangeLemmas.{are_refused}
use Rattle.net_world.proofs.changed.some_changes_are_refused.Goals as goal

pub returns : goal.returns
returns c = assumption are_refused
