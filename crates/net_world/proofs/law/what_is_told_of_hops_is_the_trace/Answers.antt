use Rattle.net_world.proofs.ToldLemmas.{trace_told}
use Rattle.net_world.proofs.law.what_is_told_of_hops_is_the_trace.Goals as goal

pub returns : goal.returns
returns c = trace_told
