use Rattle.std.proofs.Common.{refl, arith}
use Rattle.an_base.proofs.PortSetLemmas.{no_bit}
use Rattle.dep_check.specs.Search.{HasNextBy}
use Rattle.dep_check.proofs.PortLemmas.{past_more}
use Rattle.dep_check.proofs.level.has_next.Goals as goal

pub exits-init : goal.exits-init
exits-init c = record {
  none = λ e gone next. gone (c.exits_from-left.ensures.steps e next.0 next.1);
  ports = c.exits_from-left.ensures.ports;
}

pub has_next_by-requires-clause-exit : goal.has_next_by-requires-clause-exit
has_next_by-requires-clause-exit c = c.exits.invariant.ports c.lowest-exit.result c.lowest-exit.ensures.has

pub returns-then-has_next_by : goal.returns-then-has_next_by
returns-then-has_next_by c = let next = c.has_next_by.ensures.0 c.if-has_next_by.true in (λ t. (c.lowest-exit.result, next.0, next.1, next.2), λ has. refl)

pub exits-preserved : goal.exits-preserved
exits-preserved c =
    let is = c.without-left.ensures.ports in
    record {
      none = past_more (HasNextBy c.args.steps.now c.args.levels.now c.args.spot c.args.has) c.exits.left c.lowest-exit.result c.without-left.result is c.exits.invariant.none (λ next. absurd (let t = c.has_next_by.ensures.1 next in let f = c.if-has_next_by.false in cc));
      ports = λ p has. c.exits.invariant.ports p ((is p).0 has).0;
    }

pub returns : goal.returns
returns c = (λ t. absurd (cc), λ next. absurd (c.exits.invariant.none next.0 (no_bit c.exits.left next.0 (omega arith)) (next.1, next.2, next.3)))
