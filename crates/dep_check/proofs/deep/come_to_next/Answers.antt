use Rattle.dep_check.proofs.DeepLemmas.{longer_none, longer_more}
use Rattle.dep_check.proofs.deep.come_to_next.Goals as goal

pub exits-init : goal.exits-init
exits-init c = longer_none c.args.path.now.items c.requires.path

pub exits-preserved : goal.exits-preserved
exits-preserved c = longer_more c.exits.exit c.args.path.now.items c.exits.path.items c.come_by.new.path.items c.exits.invariant c.in_ok-come_by.ensures
