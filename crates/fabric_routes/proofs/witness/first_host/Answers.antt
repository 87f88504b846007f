use Rattle.std.proofs.Common.{subst, ℕ, arith, inl, inr}
use Rattle.std.proofs.lemmas.Bool.{cases_eq, iff_false}
use Rattle.fabric_model.specs.declared.node.EndPort.TheVariants.{Host}
use Rattle.fabric_tables.specs.Cells.{tables_of}
use Rattle.fabric_routes.specs.Witness.{ComesFor}
use Rattle.fabric_routes.proofs.WitnessLemmas.{host_low}
use Rattle.fabric_routes.proofs.witness.first_host.Goals as goal

pub ends-init : goal.ends-init
ends-init c = record { ready = c.requires.ready; none = λ other low. absurd (omega arith) }

pub ends-preserved : goal.ends-preserved
ends-preserved c = record {
  ready = c.comes.ensures.ready;
  none = λ other low comes. elim (cases_eq other c.ends.end) [
    | inr before ↦ c.ends.invariant.none other (omega arith) comes
    | inl same ↦ absurd (iff_false c.comes.ensures.comes c.if-comes.false (subst (λ (e : ℕ). ComesFor c.args.fabric.now (tables_of c.args.cells.now) c.args.audience c.args.lid c.args.via (Host e)) same comes))
  ];
}

pub returns-then-comes-clause-first : goal.returns-then-comes-clause-first
returns-then-comes-clause-first c = record { is = c.comes.ensures.comes.0 c.if-comes.true; first = c.ends.invariant.none }

pub returns-clause-first : goal.returns-clause-first
returns-clause-first c = λ other comes. c.ends.invariant.none other (let low = host_low c.args.fabric.now (tables_of c.args.cells.now) c.args.audience c.args.lid c.args.via other comes in omega arith) comes
