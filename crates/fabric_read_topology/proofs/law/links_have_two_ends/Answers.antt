use Rattle.fabric_read_topology.proofs.TwoEndLemmas.{both_ways, cabled_back, cabled_there}
use Rattle.fabric_read_topology.proofs.law.links_have_two_ends.Goals as goal

pub returns-clause-links : goal.returns-clause-links
returns-clause-links c bytes fabric switch port other far is = (both_ways bytes fabric is switch port other far, both_ways bytes fabric is other far switch port)

pub returns-clause-cables : goal.returns-clause-cables
returns-clause-cables c bytes fabric spot end is = (cabled_there bytes fabric is spot end, cabled_back bytes fabric is spot end)
