use Rattle.std.proofs.Common.{◌∙◌}
use Rattle.fcfc_router.proofs.TreeLemmas.{doubled_items}
use Rattle.fcfc_router.proofs.tree.double.Goals as goal

pub unite-requires-clause-count : goal.unite-requires-clause-count
unite-requires-clause-count c =
    (doubled_items c.args.kept _ _ c.args.unions.now.items c.extend_from_within.new.self.items c.resize.new.self.items c.requires.count c.args.unions.now.ok.0 c.in-Ok.ensures.items c.extend_from_within.new.self.ok.0 c.in-Ok-resize.ensures.items).0

pub returns-clause-sets : goal.returns-clause-sets
returns-clause-sets c =
    c.unite.ensures.sets
    ∙ (doubled_items c.args.kept _ _ c.args.unions.now.items c.extend_from_within.new.self.items c.resize.new.self.items c.requires.count c.args.unions.now.ok.0 c.in-Ok.ensures.items c.extend_from_within.new.self.ok.0 c.in-Ok-resize.ensures.items).1
