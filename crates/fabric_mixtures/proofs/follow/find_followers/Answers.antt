use Rattle.fabric_mixtures.proofs.TurnLemmas.{all_turns}
use Rattle.fabric_mixtures.proofs.follow.find_followers.Goals as goal

pub returns : goal.returns
returns c = all_turns c.args.fabric.now c.args.old.now c.args.new.now c.requires.same c.requires.same_new c.lids_of-lids.result c.in_ok-graph.graph c.add_lids.new.graph c.lids_of-lids.ensures.past c.in_ok-graph.ensures.graph c.in_ok-graph.ensures.none c.add_lids.ensures
