use Rattle.std.proofs.Common.{◌∙◌, ap, arith, ℕ}
use Rattle.fabric_tables.specs.Cells.{tables_of}
use Rattle.fabric_verdict.specs.Verdict.{spot_at}
use Rattle.fabric_verdict.proofs.VerifyLemmas.{depends_at, first_at, node_low}
use Rattle.fabric_verdict.proofs.verify.rise_at.Goals as goal

pub overflow_cast-step-2 : goal.overflow_cast-step-2
overflow_cast-step-2 c = let low = node_low c.args.fabric.now (tables_of c.args.cells.now) c.args.traffic c.args.graph.now c.requires.graph c.args.ranks.now c.most-most.ensures.fabric c.args.step.node c.args.step.next c.requires.first.step in let next = low.1 in omega arith

pub witness_of-requires-clause-depends : goal.witness_of-requires-clause-depends
witness_of-requires-clause-depends c = depends_at c.args.fabric.now (tables_of c.args.cells.now) c.args.traffic c.args.graph.now c.requires.graph c.args.ranks.now c.args.step.node c.args.step.next c.requires.first c.spot_of-channel.result c.spot_of-next.result (c.spot_of-channel.ensures ∙ ap (λ (m : ℕ). spot_at m c.args.step.node) c.most-most.ensures.most) (c.spot_of-next.ensures ∙ ap (λ (m : ℕ). spot_at m c.args.step.next) c.most-most.ensures.most)

pub returns : goal.returns
returns c = first_at c.args.fabric.now (tables_of c.args.cells.now) c.args.traffic c.args.graph.now c.requires.graph c.args.ranks.now c.args.step.node c.args.step.next c.requires.first c.spot_of-channel.result c.spot_of-next.result (c.spot_of-channel.ensures ∙ ap (λ (m : ℕ). spot_at m c.args.step.node) c.most-most.ensures.most) (c.spot_of-next.ensures ∙ ap (λ (m : ℕ). spot_at m c.args.step.next) c.most-most.ensures.most) c.rank_of.result c.rank_of-2.result c.in_ok-witness.witness c.rank_of.ensures c.rank_of-2.ensures c.in_ok-witness.ensures
