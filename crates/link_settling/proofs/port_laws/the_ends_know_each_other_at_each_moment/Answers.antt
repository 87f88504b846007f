use Rattle.link_settling.proofs.Runs.{knows_within}
use Rattle.link_settling.proofs.port_laws.the_ends_know_each_other_at_each_moment.Goals as goal

pub returns : goal.returns
returns c = knows_within
