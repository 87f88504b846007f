use Rattle.std.proofs.Common.{◌≡◌, ◌∙◌, ◌++◌, ◌∷◌, [], List, ℕ, ap, refl, subst, arith, inl, inr}
use Rattle.std.proofs.lemmas.Bool.{iff_false}
use Rattle.common_graph.specs.Search.{Descends, HasBelow}
use Rattle.common_graph.proofs.CycleLemmas.{descent_step, descent_least}
use Rattle.common_graph.proofs.ExactLemmas.{no_cycle_high, below_next, high_next, leads_to_goal}
use Rattle.common_graph.proofs.cycle.cycle_by.Goals as goal

pub returns-then-level : goal.returns-then-level
returns-then-level c = λ exact. no_cycle_high c.args.graph.now c.args.levels.now c.args.start c.requires.holds c.requires.goal exact c.least_level_ahead-level.result c.if-level.true c.least_level_ahead-level.ensures.low

pub levels-init : goal.levels-init
levels-init c = record {
  way = (c.least_level_ahead-level.result, [], c.in_ok-push.ensures.items ∙ ap (λ (xs : List ℕ). xs ++ c.args.start ∷ []) c.new-nodes.ensures.items, (refl, refl), c.least_level_ahead-level.ensures.low);
  most = (let fits = c.least_level_ahead-level.type_inv in let away = c.if-level.false in omega arith);
  high = c.least_level_ahead-level.ensures.low;
  has = λ exact. elim c.least_level_ahead-level.ensures.has [
    | inl none ↦ absurd (c.if-level.false none)
    | inr has ↦ has
  ];
}

pub returns-in_default : goal.returns-in_default
returns-in_default c = λ exact rest cycle. let has = c.levels.invariant.has exact in c.in_default.ensures.first has.0 has.1 (omega arith) has.2

pub levels-preserved : goal.levels-preserved
levels-preserved c =
    let i = c.levels.invariant in
    let next = c.in-Some.next in
    let graph = c.args.graph.now in
    let levels = c.args.levels.now in
    record {
      way = (i.way.0, i.way.1 ++ next ∷ [], c.in_ok-push-2.ensures.items ∙ ap (λ (xs : List ℕ). xs ++ next ∷ []) i.way.2, descent_step graph levels c.args.start i.way.0 c.levels.level i.way.1 c.levels.node next c.levels-test.true i.way.3 c.in-Some.ensures.first, i.way.4);
      most = (let most = i.most in omega arith);
      high = high_next graph levels c.levels.node next c.levels.level c.requires.holds i.high c.in-Some.ensures.first;
      has = λ exact. below_next graph levels c.args.start c.requires.holds c.requires.goal exact c.levels.node next c.levels.level c.levels-test.true i.most i.high c.in-Some.ensures.first;
    }

pub returns-then-not-leads : goal.returns-then-not-leads
returns-then-not-leads c = λ exact rest cycle. absurd (
    let zero_level : c.levels.level ≡ 0 = omega arith in
    let has = subst (λ (k : ℕ). HasBelow c.args.graph.now c.args.levels.now c.levels.node k) zero_level (c.levels.invariant.has exact) in
    iff_false c.leads.ensures c.if-not-leads.true (leads_to_goal c.args.graph.now c.args.levels.now c.args.start c.requires.holds c.requires.goal exact c.levels.node has))

pub returns : goal.returns
returns c =
    let i = c.levels.invariant in
    let zero_level : c.levels.level ≡ 0 = omega arith in
    let descends = subst (λ (k : ℕ). Descends c.args.graph.now c.args.levels.now c.args.start i.way.0 i.way.1 c.levels.node k) zero_level i.way.3 in
    rw i.way.2 (refl, descent_least c.args.graph.now c.args.levels.now c.args.start c.requires.holds c.requires.goal i.way.0 i.way.1 c.levels.node i.way.4 descends (c.leads.ensures.0 c.if-not-leads.false))
