use Rattle.std.proofs.Common.{◌≡◌, ◌≢◌, ◌∙◌, ◌+◌, ◌<◌, ℕ, List, set, replicate, length, ap, refl, sym, subst, arith}
use Rattle.std.proofs.lemmas.List.{length-replicate}
use Rattle.std.proofs.lemmas.List.Sums.{sum_by-set}
use Rattle.common_graph.specs.Search.{AreExact, FallsTo}
use Rattle.common_graph.specs.Graph.{value_at}
use Rattle.common_graph.proofs.ExactLemmas.{exact_first, exact_more, value_same, value_other}
use Rattle.common_graph.proofs.cycle.exact_levels.Goals as goal

pub falls-init : goal.falls-init
falls-init c =
    let e = c.in_ok-levels.ensures in
    let count = c.count.ensures.count in
    let graph = c.args.graph.now in
    let start = c.args.start in
    let few = c.count.ensures.few in
    let first = exact_first graph start c.requires (omega arith) c.count.ensures.within in
    let items : set (replicate (length graph.bases) 4294967295) start 0 ≡ set c.in_ok-levels.levels.items start 0 = ap (λ (xs : List ℕ). set xs start 0) (ap (λ (n : ℕ). replicate n 4294967295) (sym count) ∙ sym e) in
    let size = length-replicate {A = ℕ} (length graph.bases) 4294967295 in
    let room : start < length (replicate {A = ℕ} (length graph.bases) 4294967295) = subst (λ (n : ℕ). start < n) (sym size) c.requires in
    record {
      exact = subst (λ (xs : List ℕ). AreExact graph xs start) items first;
      goal = ap (λ (xs : List ℕ). value_at xs start) (sym items) ∙ value_same (replicate (length graph.bases) 4294967295) start 0 start room refl;
    }

pub overflow_add-value_of : goal.overflow_add-value_of
overflow_add-value_of c =
    let falls : FallsTo c.args.graph.now c.falls.levels.items 1 c.in-Some.step.node c.in-Some.step.next = rw c.deref.ensures.value at c.in-Some.ensures in
    let v : c.value_of.result ≡ value_at c.falls.levels.items c.in-Some.step.next = rw c.deref-in-Some.ensures.value at c.value_of.ensures in
    let fits = falls.fits in
    omega arith

pub falls-preserved : goal.falls-preserved
falls-preserved c =
    let i = c.falls.invariant in
    let node = c.in-Some.step.node in
    let levels = c.falls.levels.items in
    let falls : FallsTo c.args.graph.now levels 1 node c.in-Some.step.next = rw c.deref.ensures.value at c.in-Some.ensures in
    let v : c.value_of.result ≡ value_at levels c.in-Some.step.next = rw c.deref-in-Some.ensures.value at c.value_of.ensures in
    let less = falls.falls in
    let goal_zero = i.goal in
    let apart : c.args.start ≢ node = (λ same. absurd (let e = ap (value_at levels) same in omega arith)) in
    rw v (record {
      exact = exact_more c.args.graph.now levels c.args.start node c.in-Some.step.next i.exact falls;
      goal = value_other levels node (value_at levels c.in-Some.step.next + 1) c.args.start apart ∙ i.goal;
    })

pub falls-smaller : goal.falls-smaller
falls-smaller c =
    let i = c.falls.invariant in
    let node = c.in-Some.step.node in
    let levels = c.falls.levels.items in
    let falls : FallsTo c.args.graph.now levels 1 node c.in-Some.step.next = rw c.deref.ensures.value at c.in-Some.ensures in
    let v : c.value_of.result ≡ value_at levels c.in-Some.step.next = rw c.deref-in-Some.ensures.value at c.value_of.ensures in
    let less = falls.falls in
    let low = falls.step.low in
    let count = i.exact.count in
    let sums = sum_by-set (λ (level : ℕ). level) levels node (c.value_of.result + 1) 0 (omega arith) in
    omega arith

pub returns-clause-holds : goal.returns-clause-holds
returns-clause-holds c = rw c.deref.ensures.value at c.in_default.ensures
