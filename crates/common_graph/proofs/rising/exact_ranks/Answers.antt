use Rattle.std.proofs.Common.{◌≡◌, ◌∙◌, ◌+◌, ◌-◌, ℕ, List, replicate, length, ap, sym, subst, arith}
use Rattle.std.proofs.lemmas.List.Sums.{sum_by-set}
use Rattle.common_graph.specs.Search.{AreRising}
use Rattle.common_graph.specs.Graph.{value_at, IsFirstRise}
use Rattle.common_graph.proofs.RisingLemmas.{rising_first, rising_more, rising_last, few_steps}
use Rattle.common_graph.proofs.rising.exact_ranks.Goals as goal

pub rises-init : goal.rises-init
rises-init c =
    let e = c.in_ok-ranks.ensures in
    let count = c.count.ensures.count in
    let graph = c.args.graph.now in
    let few = c.count.ensures.few in
    let items : replicate (length graph.bases) 0 ≡ c.in_ok-ranks.ranks.items = ap (λ (n : ℕ). replicate n 0) (sym count) ∙ sym e in
    subst (λ (xs : List ℕ). AreRising graph xs) items (rising_first graph (omega arith) c.count.ensures.within)

-- a rank is less than the number of nodes
pub overflow_add-value_of : goal.overflow_add-value_of
overflow_add-value_of c =
    let i = c.rises.invariant in
    let graph = c.args.graph.now in
    let ranks = c.rises.ranks.items in
    let rises : IsFirstRise graph ranks c.in-Some.step.node c.in-Some.step.next = rw c.deref.ensures.value at c.in-Some.ensures in
    let v : c.value_of.result ≡ value_at ranks c.in-Some.step.next = rw c.deref-in-Some.ensures.value at c.value_of.ensures in
    let is = i.within c.in-Some.step.node c.in-Some.step.next rises.step in
    let walk = i.walks c.in-Some.step.next is in
    let low = few_steps graph i.within c.requires (value_at ranks c.in-Some.step.next) c.in-Some.step.next walk.0 is walk.1 in
    let few = i.few in
    omega arith

pub rises-preserved : goal.rises-preserved
rises-preserved c =
    let ranks = c.rises.ranks.items in
    let rises : IsFirstRise c.args.graph.now ranks c.in-Some.step.node c.in-Some.step.next = rw c.deref.ensures.value at c.in-Some.ensures in
    let v : c.value_of.result ≡ value_at ranks c.in-Some.step.next = rw c.deref-in-Some.ensures.value at c.value_of.ensures in
    rw v (rising_more c.args.graph.now ranks c.in-Some.step.node c.in-Some.step.next c.rises.invariant rises)

pub rises-smaller : goal.rises-smaller
rises-smaller c =
    let i = c.rises.invariant in
    let node = c.in-Some.step.node in
    let ranks = c.rises.ranks.items in
    let rises : IsFirstRise c.args.graph.now ranks node c.in-Some.step.next = rw c.deref.ensures.value at c.in-Some.ensures in
    let v : c.value_of.result ≡ value_at ranks c.in-Some.step.next = rw c.deref-in-Some.ensures.value at c.value_of.ensures in
    let more = rises.rises in
    let low = rises.step.low in
    let count = i.count in
    let walk = i.walks node low in
    let few_nodes = few_steps c.args.graph.now i.within c.requires (value_at ranks node) node walk.0 low walk.1 in
    let few = i.few in
    let sums = sum_by-set (λ (rank : ℕ). 4294967296 - rank) ranks node (c.value_of.result + 1) 0 (omega arith) in
    omega arith

pub returns : goal.returns
returns c = rising_last c.args.graph.now c.rises.ranks.items c.rises.invariant (rw c.deref.ensures.value at c.in_default.ensures)
