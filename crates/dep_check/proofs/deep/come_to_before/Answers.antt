use Rattle.dep_check.proofs.DeepLemmas.{longer_none, longer_more}
use Rattle.dep_check.proofs.deep.come_to_before.Goals as goal

pub entries-init : goal.entries-init
entries-init c = longer_none c.args.path.now.items c.requires.path

pub entries-preserved : goal.entries-preserved
entries-preserved c = longer_more c.entries.entry c.args.path.now.items c.entries.path.items c.come_to.new.path.items c.entries.invariant c.in_ok-come_to.ensures
