use Rattle.std.proofs.Common.{subst, ℕ, arith, inl, inr}
use Rattle.std.proofs.lemmas.Bool.{cases_eq, iff_false}
use Rattle.fabric_model.specs.declared.node.EndPort.TheVariants.{Switch}
use Rattle.fabric_tables.specs.Cells.{tables_of}
use Rattle.fabric_routes.specs.Witness.{ComesFor}
use Rattle.fabric_routes.proofs.WitnessLemmas.{switch_low}
use Rattle.fabric_routes.proofs.witness.first_switch.Goals as goal

pub switches-init : goal.switches-init
switches-init c = record { ready = c.requires.ready; none = λ other low. absurd (omega arith) }

pub switches-preserved : goal.switches-preserved
switches-preserved c = record {
  ready = c.comes.ensures.ready;
  none = λ other low comes. elim (cases_eq other c.switches.switch) [
    | inr before ↦ c.switches.invariant.none other (omega arith) comes
    | inl same ↦ absurd (iff_false c.comes.ensures.comes c.if-comes.false (subst (λ (e : ℕ). ComesFor c.args.fabric.now (tables_of c.args.cells.now) c.args.audience c.args.lid c.args.via (Switch e)) same comes))
  ];
}

pub returns-then-comes : goal.returns-then-comes
returns-then-comes c = record { is = c.comes.ensures.comes.0 c.if-comes.true; first = c.switches.invariant.none }

pub returns : goal.returns
returns c = λ other comes. c.switches.invariant.none other (let low = switch_low c.args.fabric.now (tables_of c.args.cells.now) c.args.audience c.args.lid c.args.via other comes in omega arith) comes
