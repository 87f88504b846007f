use Rattle.std.proofs.Common.{arith}
use Rattle.net_graph.proofs.PlaceLemmas.{place_below, place_root}
use Rattle.net_graph.proofs.tree.place_of.Goals as goal

pub new-requires : goal.new-requires
new-requires c = let f = (c.requires.distances.found c.args.x c.args.level c.requires.level).1 in record { level = f; port = omega arith }

pub new-requires-in-Some : goal.new-requires-in-Some
new-requires-in-Some c =
    let f = (c.requires.distances.found c.args.x c.args.level c.requires.level).1 in
    record { level = f; port = let least = rw c.in-Some.is at c.parent_of.ensures in omega (arith, least.below, c.as_u8.ensures) }

pub returns-in-None : goal.returns-in-None
returns-in-None c =
    place_root c.args.wiring.now c.args.root c.args.levels.now c.args.level c.args.x _ c.requires.wired c.requires.distances c.requires.level (rw c.in-None.is at c.parent_of.ensures) (cc)

pub returns-in-Some : goal.returns-in-Some
returns-in-Some c =
    place_below c.args.wiring.now c.args.root c.args.levels.now c.args.level c.args.x c.in-Some.parent c.in-Some.port _ c.requires.wired c.requires.distances c.requires.level (rw c.in-Some.is at c.parent_of.ensures) (cc)
