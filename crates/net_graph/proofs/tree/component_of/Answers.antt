use Rattle.std.proofs.Common.{refl, arith, length}
use Rattle.net_graph.specs.Wires.{network}
use Rattle.net_graph.proofs.PlaceLemmas.{level_is}
use Rattle.net_graph.proofs.NextLemmas.{left_count-less}
use Rattle.net_graph.proofs.CollectLemmas.{rises, one_more, first_only, all_collected}
use Rattle.net_graph.proofs.tree.component_of.Goals as goal

pub entry_of-requires-clause-level : goal.entry_of-requires-clause-level
entry_of-requires-clause-level c = level_is (network c.args.wiring.now) c.args.root c.args.levels.now c.args.root 0 c.requires.distances c.requires.root (record { walk = refl; least = λ m _. omega arith })

pub members-init : goal.members-init
members-init c =
    rw (c.in_ok-entries.ensures, c.uid-from.ensures.uid) (first_only c.args.wiring.now c.args.levels.now c.args.root c.entry_of.result c.requires.wired c.requires.first c.entry_of.ensures)

pub push-requires-clause-room : goal.push-requires-clause-room
push-requires-clause-room c =
    let next = c.in-Some.ensures in
    let less = left_count-less c.args.wiring.now c.args.levels.now c.members.from c.in-Some.x (length c.args.wiring.now.switches) next.below next.left in
    omega (arith, c.members.invariant.few, c.requires.wired.count)

pub push-requires-clause-rising : goal.push-requires-clause-rising
push-requires-clause-rising c =
    let next = c.in-Some.ensures in
    rises c.args.wiring.now c.args.levels.now c.args.root c.members.from c.in-Some.x c.members.entries c.entry_of-in-Some.result c.members.invariant c.entry_of-in-Some.ensures next.left.2

pub members-preserved : goal.members-preserved
members-preserved c =
    rw (c.in_ok-push.ensures.ok, c.uid-from-in-Some.ensures.uid) (one_more c.args.wiring.now c.args.levels.now c.args.root c.members.from c.in-Some.x c.members.entries c.entry_of-in-Some.result c.requires.wired c.members.invariant c.in-Some.ensures c.entry_of-in-Some.ensures)

pub returns : goal.returns
returns c = all_collected c.args.wiring.now c.args.levels.now c.args.root c.members.from c.members.entries c.requires.wired c.requires.distances c.requires.first c.members.invariant c.in_default.ensures
