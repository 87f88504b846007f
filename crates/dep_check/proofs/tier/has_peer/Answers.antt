use Rattle.std.proofs.Common.{refl, arith}
use Rattle.an_base.proofs.PortSetLemmas.{no_bit}
use Rattle.dep_check.specs.Tiers.{HasPeerBy}
use Rattle.dep_check.proofs.PortLemmas.{past_more}
use Rattle.dep_check.proofs.tier.has_peer.Goals as goal

pub exits-init : goal.exits-init
exits-init c = record {
  none = λ e gone step. gone (c.exits_from-left.ensures.steps e step.0 step.1);
  ports = c.exits_from-left.ensures.ports;
}

pub has_peer_by-requires-clause-exit : goal.has_peer_by-requires-clause-exit
has_peer_by-requires-clause-exit c = c.exits.invariant.ports c.lowest-exit.result c.lowest-exit.ensures.has

pub returns-then-has_peer_by : goal.returns-then-has_peer_by
returns-then-has_peer_by c = let step = c.has_peer_by.ensures.0 c.if-has_peer_by.true in (λ t. (c.lowest-exit.result, step.0, step.1, step.2), λ has. refl)

pub exits-preserved : goal.exits-preserved
exits-preserved c =
    let is = c.without-left.ensures.ports in
    record {
      none = past_more (HasPeerBy c.args.steps.now c.args.tiers.now c.args.spot) c.exits.left c.lowest-exit.result c.without-left.result is c.exits.invariant.none (λ step. absurd (let t = c.has_peer_by.ensures.1 step in let f = c.if-has_peer_by.false in cc));
      ports = λ p has. c.exits.invariant.ports p ((is p).0 has).0;
    }

pub returns : goal.returns
returns c = (λ t. absurd (cc), λ step. absurd (c.exits.invariant.none step.0 (no_bit c.exits.left step.0 (omega arith)) (step.1, step.2, step.3)))
