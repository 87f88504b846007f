use Rattle.dep_check.proofs.DeepLemmas.{longer_same}
use Rattle.dep_check.proofs.deep.come_by.Goals as goal

pub returns-then-not-has : goal.returns-then-not-has
returns-then-not-has c = longer_same c.args.path.now.items c.requires.path
