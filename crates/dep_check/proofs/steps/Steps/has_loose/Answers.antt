use Rattle.std.proofs.Common.{◌≡◌, refl, subst, ℕ, None, arith, inl, inr}
use Rattle.std.proofs.lemmas.Bool.{cases_eq}
use Rattle.an_base.proofs.PortSetLemmas.{no_bit}
use Rattle.dep_check.specs.Tables.{wire_at}
use Rattle.dep_check.proofs.GapLemmas.{none_yes, yes_none}
use Rattle.dep_check.proofs.steps.Steps.has_loose.Goals as goal

pub ports-init : goal.ports-init
ports-init c = record { linked = λ p is gone none. gone is; within = λ p is. is }

pub returns-then-is_none : goal.returns-then-is_none
returns-then-is_none c =
    let k = c.lowest-port.result in
    let wires = c.args.self.now.wires.items in (
      λ t. (k, c.ports.invariant.within k c.lowest-port.ensures.has, none_yes c.far.result (wire_at wires (record { at = c.args.at; port = k })) c.is_none.result c.far.ensures.far c.is_none.ensures c.if-is_none.true),
      λ has. refl,
    )

pub ports-preserved : goal.ports-preserved
ports-preserved c =
    let k = c.lowest-port.result in
    let wires = c.args.self.now.wires.items in
    let is = c.without-left.ensures.ports in
    record {
      linked = λ p has gone none. elim (cases_eq p k) [
        | inl same ↦ yes_none c.far.result (wire_at wires (record { at = c.args.at; port = k })) c.is_none.result c.far.ensures.far c.is_none.ensures c.if-is_none.false (subst (λ (n : ℕ). wire_at wires (record { at = c.args.at; port = n }) ≡ None) same none)
        | inr other ↦ c.ports.invariant.linked p has (λ left. gone ((is p).1 (left, other))) none
      ];
      within = λ p has. c.ports.invariant.within p ((is p).0 has).0;
    }

pub returns : goal.returns
returns c = (λ t. absurd (cc), λ loose. absurd (c.ports.invariant.linked loose.0 loose.1 (no_bit c.ports.left loose.0 (omega arith)) loose.2))
