use Rattle.std.proofs.Common.{◌≡◌, subst}
use Rattle.fabric_routes.proofs.CountLemmas.{count_same, count_without}
use Rattle.fabric_model.specs.declared.node.EndPort.{EndPort}
use Rattle.fabric_routes.specs.Routes.{IsSource}
use Rattle.fabric_routes.proofs.StartLemmas.{same_end}
use Rattle.fabric_counts.proofs.source.count_others.Goals as goal

pub returns-then-is_source-clause-count : goal.returns-then-is_source-clause-count
returns-then-is_source-clause-count c = (count_without EndPort (IsSource c.args.fabric.now c.args.traffic) c.args.one c.args.sources (λ source. same_end source c.args.one) (c.is_source.ensures.0 c.if-is_source.true) c.requires).1

pub returns-else-is_source-clause-count : goal.returns-else-is_source-clause-count
returns-else-is_source-clause-count c = count_same EndPort (IsSource c.args.fabric.now c.args.traffic) (λ source. IsSource c.args.fabric.now c.args.traffic source × (source ≡ c.args.one → ⊥)) c.args.sources
    (λ source is. (is, λ same. absurd (let t = c.is_source.ensures.1 (subst (IsSource c.args.fabric.now c.args.traffic) same is) in let f = c.if-is_source.false in cc)))
    (λ source one. one.0) c.requires
