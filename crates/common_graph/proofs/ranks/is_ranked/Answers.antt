use Rattle.std.proofs.Common.{◌≡◌, ◌∙◌, ◌+◌, max, sym, subst, ℕ, Some, arith}
use Rattle.std.specs.Prelude.{slice_get}
use Rattle.std.proofs.lemmas.Bool.{eqb-true, eq-eqb, false≢true}
use Rattle.std.proofs.lemmas.Option.{same_Some}
use Rattle.common_graph.specs.Cycles.{IsRank}
use Rattle.common_graph.specs.Graph.{LeadsTo}
use Rattle.common_graph.specs.Search.{IsHeight}
use Rattle.common_graph.proofs.HeightLemmas.{height_more, height_rank, one_height, not_ranked}
use Rattle.common_graph.proofs.ranks.is_ranked.Goals as goal

pub steps-preserved : goal.steps-preserved
steps-preserved c =
    let from = c.from.ensures in
    let most = c.max-height.ensures in
    let past = c.in-Some-advance.ensures.past in
    let graph = c.args.graph.now in
    let ranks = c.args.ranks.now in
    let lower = c.in-Some-rank_of.lower in
    let is : c.max-height.result ≡ max c.steps.height (lower + 1) = omega arith in
    record {
      stands = c.in-Some-advance.ensures.stands;
      so_far = subst (λ (from : ℕ). IsHeight graph ranks c.args.node from c.max-height.result) (sym past) (height_more graph ranks c.args.node c.steps.cursor.from c.in-Some-advance.next c.steps.height lower c.max-height.result c.in-Some-advance.ensures.next (sym c.rank_of-in-Some-advance.ensures ∙ c.in-Some-rank_of.is) c.steps.invariant.so_far is);
    }

pub returns-in_default-rank_of : goal.returns-in_default-rank_of
returns-in_default-rank_of c = (
  λ never. absurd (false≢true never),
  λ ranked. absurd (not_ranked c.args.graph.now c.args.ranks.now c.args.node c.in-Some-advance.next c.in-Some-advance.ensures.next.step (sym c.rank_of-in-Some-advance.ensures ∙ c.in_default-rank_of.is) ranked),
)

pub returns : goal.returns
returns c =
    let graph = c.args.graph.now in
    let ranks = c.args.ranks.now in
    let node = c.args.node in
    let rank = height_rank graph ranks node c.steps.cursor.from c.steps.height c.in_default-advance.ensures.next c.steps.invariant.so_far in
    let has : slice_get ranks node ≡ Some c.in-Some.own = sym c.rank_of.ensures ∙ c.in-Some.is in (
      λ same.
          let e : c.from-2.result ≡ c.steps.height = eqb-true c.from-2.result c.steps.height same in
          let own : c.steps.height ≡ c.in-Some.own = sym e ∙ c.from-2.ensures in
          (c.in-Some.own, has, subst (λ (n : ℕ). IsRank (LeadsTo graph) (slice_get ranks) node n) own rank),
      λ ranked. eq-eqb c.from-2.result c.steps.height (
          let one = same_Some ranked.0 c.in-Some.own (sym ranked.1 ∙ has) in
          let low = one_height graph ranks node ranked.0 c.steps.height ranked.2 rank in
          let high = one_height graph ranks node c.steps.height ranked.0 rank ranked.2 in
          let from = c.from-2.ensures in
          omega arith),
    )
