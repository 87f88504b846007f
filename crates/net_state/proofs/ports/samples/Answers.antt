use Rattle.std.proofs.Common.{◌≡◌, ◌∙◌, ap, refl, arith}
use Rattle.std.proofs.lemmas.List.{length-set}
use Rattle.wire_set.specs.WireState.{place, side_at}
use Rattle.net_state.specs.Fabric.{sample_of}
use Rattle.net_state.proofs.PortLemmas.{sampled_more, all_sampled}
use Rattle.net_state.proofs.ports.samples.Goals as goal

pub ports-init : goal.ports-init
ports-init c = record { size = refl; each = λ k low. absurd (omega (arith, low)) }

pub ports-preserved : goal.ports-preserved
ports-preserved c = record {
  size = length-set c.ports.samples c.from.result c.sample_of.result ∙ c.ports.invariant.size;
  each = sampled_more (λ port. sample_of (side_at c.args.wires.now (place c.args.s port))) c.ports.samples c.ports.port c.from.result c.sample_of.result (omega arith) (omega arith) c.from.ensures c.ports.invariant.size (c.sample_of.ensures ∙ ap sample_of c.side.ensures) c.ports.invariant.each;
}

pub returns : goal.returns
returns c =
    let end : c.ports.port ≡ 13 = omega arith in
    all_sampled (λ port. sample_of (side_at c.args.wires.now (place c.args.s port))) c.ports.samples c.ports.invariant.size (λ k low. c.ports.invariant.each k (omega (arith, low, end)))
