use Rattle.std.proofs.Common.{◌∙◌, ap, List}
use Rattle.an_base.specs.Values.{PeerAt}
use Rattle.switch_core.specs.Steps.{peer_among}
use Rattle.switch_core.proofs.LinkLemmas.{good_link}
use Rattle.switch_core.proofs.law.the_links_are_the_good_ones.Goals as goal

pub returns-clause-links : goal.returns-clause-links
returns-clause-links c works s h working = h.links working

pub returns-clause-peers : goal.returns-clause-peers
returns-clause-peers c works port s h working least most = ap (λ (ls : List PeerAt). peer_among ls port) (h.links working) ∙ good_link s port least most

pub returns-clause-unjoined : goal.returns-clause-unjoined
returns-clause-unjoined c works port s h working not_joined = h.unjoined not_joined working port
