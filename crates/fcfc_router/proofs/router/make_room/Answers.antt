use Rattle.fcfc_router.proofs.ShownLemmas.{none_shown, none_there}
use Rattle.fcfc_router.proofs.router.make_room.Goals as goal

pub returns-then-is_empty-clause-sets : goal.returns-then-is_empty-clause-sets
returns-then-is_empty-clause-sets c = none_there c.clear.new.self.items c.args.tree.now c.clear.ensures.items (c.is_empty.ensures c.if-is_empty.true)

pub returns-then-is_empty-clause-shown : goal.returns-then-is_empty-clause-shown
returns-then-is_empty-clause-shown c = none_shown c.args.slots.now.items c.clear.new.self.items c.args.tree.now c.clear.ensures.items c.requires.sets c.requires.used (c.is_empty.ensures c.if-is_empty.true)
