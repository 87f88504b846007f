use Rattle.std.proofs.Common.{◌≡◌, []}
use Rattle.net_gen.specs.Generated.{made_of, tree_of}
use Rattle.net_gen.proofs.script.add_tree.Given as goal

-- the tree so far
abbrev pub invariant-places : goal.invariant-places
invariant-places l = (l.script ≡ made_of l.count (tree_of l.fn.draw l.place).links 0 []) × (l.draw ≡ (tree_of l.fn.draw l.place).seed)
