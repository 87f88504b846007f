use Rattle.std.proofs.Common.{ℕ, arith, sym, refl, subst, length, inl, inr}
use Rattle.std.proofs.lemmas.Bool.{cases_eq, cases_lt, false≢true, iff_false}
use Rattle.std.proofs.lemmas.Option.{slice_get_past}
use Rattle.common_graph.specs.Search.{IsRanked}
use Rattle.common_graph.proofs.OneAnswer.{as_many}
use Rattle.common_graph.proofs.ranks.are_ranks.Goals as goal

pub nodes-preserved : goal.nodes-preserved
nodes-preserved c = λ node low. elim (cases_eq node c.nodes.node) [
  | inl same ↦ subst (λ (x : ℕ). IsRanked c.args.graph.now c.args.ranks.now x) (sym same) (c.is_ranked.ensures.0 c.if-not-is_ranked.false)
  | inr before ↦ c.nodes.invariant node (omega arith)
]

pub returns : goal.returns
returns c = (
  λ _. record {
    nodes = λ node is. c.nodes.invariant node (omega arith);
    others = λ node not. slice_get_past c.args.ranks.now node (let count = c.count-node-end.ensures.count in let same = c.if-ranks-count.false in let e = c.count.ensures.count in elim (cases_lt node (length c.args.ranks.now)) [
      | inl less ↦ absurd (not (omega arith))
      | inr more ↦ more
    ]);
  },
  λ _. refl,
)

-- of another length, or with a node that has not its rank
pub returns-then-ranks-count : goal.returns-then-ranks-count
returns-then-ranks-count c = (
  λ never. absurd (false≢true never),
  λ are. absurd (let many = as_many c.args.graph.now c.args.ranks.now are in let count = c.count.ensures.count in let away = c.if-ranks-count.true in omega arith),
)

pub returns-then-not-is_ranked : goal.returns-then-not-is_ranked
returns-then-not-is_ranked c = (
  λ never. absurd (false≢true never),
  λ are. absurd (let low = c.nodes-test.true in let count = c.count-node-end.ensures.count in iff_false c.is_ranked.ensures c.if-not-is_ranked.true (are.nodes c.nodes.node (omega arith))),
)
