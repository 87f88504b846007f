use Rattle.net_settling.proofs.Whole.{ends_in_time}
use Rattle.net_settling.proofs.law.none_with_time_ends_unsettled.Goals as goal

pub returns : goal.returns
returns c = ends_in_time
