use Rattle.std.proofs.Common.{refl, arith, inl, inr}
use Rattle.std.proofs.lemmas.Bool.{cases_lt}
use Rattle.an_base.proofs.PortSetLemmas.{no_bit}
use Rattle.dep_check.specs.Tiers.{SinksBy, tier_at}
use Rattle.dep_check.proofs.PortLemmas.{past_more}
use Rattle.dep_check.proofs.tier.rises_from.Goals as goal

pub exits-init : goal.exits-init
exits-init c = record {
  none = λ e gone step. gone (c.exits_from-left.ensures.steps e step.0 step.1);
  ports = c.exits_from-left.ensures.ports;
}

pub sinks_by-requires-clause-exit : goal.sinks_by-requires-clause-exit
sinks_by-requires-clause-exit c = c.exits.invariant.ports c.lowest-exit.result c.lowest-exit.ensures.has

pub returns-then-sinks_by : goal.returns-then-sinks_by
returns-then-sinks_by c = let step = c.sinks_by.ensures.0 c.if-sinks_by.true in (λ t. absurd (cc), λ rises. absurd (let least = rises c.lowest-exit.result step.0 step.1 in let less = step.2 in omega arith))

pub exits-preserved : goal.exits-preserved
exits-preserved c =
    let is = c.without-left.ensures.ports in
    record {
      none = past_more (SinksBy c.args.steps.now c.args.tiers.now c.args.spot) c.exits.left c.lowest-exit.result c.without-left.result is c.exits.invariant.none (λ step. absurd (let t = c.sinks_by.ensures.1 step in let f = c.if-sinks_by.false in cc));
      ports = λ p has. c.exits.invariant.ports p ((is p).0 has).0;
    }

pub returns : goal.returns
returns c = (
  λ t e b step. elim (cases_lt (tier_at c.args.tiers.now b) (tier_at c.args.tiers.now c.args.spot)) [
    | inl less ↦ absurd (c.exits.invariant.none e (no_bit c.exits.left e (omega arith)) (b, step, less))
    | inr more ↦ more
  ],
  λ rises. refl,
)
