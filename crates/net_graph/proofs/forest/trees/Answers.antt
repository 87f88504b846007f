use Rattle.std.proofs.Common.{arith, length, subst, ℕ}
use Rattle.net_graph.specs.Forested.{IsWithout}
use Rattle.net_graph.proofs.FarLemmas.{network_closed, far_back}
use Rattle.net_graph.proofs.ForestLemmas.{root_first, one_tree, all_trees, no_trees, marked_within}
use Rattle.net_graph.proofs.forest.trees.Goals as goal

pub roots-init : goal.roots-init
roots-init c =
    rw c.new-forest.ensures.items (
      no_trees c.args.wiring.now c.in_ok-marks.marks.items c.count-count.ensures.wired (omega (arith, c.in_ok-marks.ensures.count)) (λ x low. c.in_ok-marks.ensures.marked x (omega arith)),
      omega (arith, c.in_ok-marks.ensures.count),
    )

pub component_of-requires-clause-first : goal.component_of-requires-clause-first
component_of-requires-clause-first c =
    rw c.deref-in-Some.ensures.value (root_first c.args.wiring.now c.roots.marks.items c.in_ok-levels.levels.items c.roots.from c.in-Some.root c.roots.forest.items (far_back c.args.wiring.now c.count-count.ensures.wired) c.roots.invariant.0 (rw c.deref.ensures.value at c.in-Some.ensures) c.in_ok-levels.ensures.distances)

pub roots-preserved : goal.roots-preserved
roots-preserved c =
    let w = c.args.wiring.now in
    let levels = c.in_ok-levels.levels.items in
    let without : IsWithout c.roots.marks.items c.take_out.new.marks.items levels (length levels) = rw c.deref-in-Some-2.ensures.value at c.take_out.ensures.without in
    rw (c.in_ok-push.ensures.items, c.uid-from.ensures.uid) (
      one_tree w c.roots.marks.items c.take_out.new.marks.items levels c.roots.from c.in-Some.root c.roots.forest.items c.in_ok-component_of.field-0 c.count-count.ensures.wired (network_closed w c.count-count.ensures.wired) (far_back c.args.wiring.now c.count-count.ensures.wired) c.roots.invariant.0 (rw c.deref.ensures.value at c.in-Some.ensures) c.in_ok-levels.ensures.distances c.in_ok-component_of.ensures
          (subst (λ (n : ℕ). IsWithout c.roots.marks.items c.take_out.new.marks.items levels n) c.in_ok-levels.ensures.count without) (λ x l marked. marked_within c.roots.marks.items (length w.switches) x l c.roots.invariant.1 marked),
      omega (arith, c.take_out.ensures.count, c.roots.invariant.1),
    )

pub returns : goal.returns
returns c = all_trees c.args.wiring.now c.roots.marks.items c.roots.from c.roots.forest.items c.roots.invariant.0 (rw c.deref.ensures.value at c.in_default.ensures)
