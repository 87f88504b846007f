use Rattle.std.proofs.Common.{subst, refl}
use Rattle.std.proofs.lemmas.Bool.{false≢true}
use Rattle.fabric_tables.specs.Cells.{tables_of}
use Rattle.fabric_routes.specs.declared.hop.Outcome.{Outcome}
use Rattle.fabric_routes.specs.Routes.{EndsAs}
use Rattle.fabric_routes.specs.Trace.{hop_to, way}
use Rattle.fabric_routes.proofs.WitnessLemmas.{arrives_to, no_loop, no_stop}
use Rattle.fabric_routes.proofs.witness.comes.Goals as goal

pub returns-in_default-clause-comes : goal.returns-in_default-clause-comes
returns-in_default-clause-comes c = (λ e. absurd (false≢true e), λ comes. absurd (c.in_default.ensures.start comes.heard))

pub returns-in-Arrives-clause-comes : goal.returns-in-Arrives-clause-comes
returns-in-Arrives-clause-comes c = (
  λ _. arrives_to c.args.fabric.now (tables_of c.args.cells.now) c.args.audience c.args.lid c.args.via c.args.source c.in-Some.start c.in-Arrives.field-0 c.in-Some.ensures.start.0 c.in-Some.ensures.start.1 (subst (λ (o : Outcome). EndsAs (hop_to c.args.fabric.now (tables_of c.args.cells.now) (way c.args.lid c.args.via)) c.in-Some.start o) c.in-Arrives.is c.trace.ensures.ends),
  λ _. refl,
)

pub returns-in-Stops-clause-comes : goal.returns-in-Stops-clause-comes
returns-in-Stops-clause-comes c = (
  λ e. absurd (false≢true e),
  λ comes. absurd (no_stop c.args.fabric.now (tables_of c.args.cells.now) c.args.audience c.args.lid c.args.via c.args.source c.in-Some.start c.in-Stops.field-0 c.in-Some.ensures.start.1 (subst (λ (o : Outcome). EndsAs (hop_to c.args.fabric.now (tables_of c.args.cells.now) (way c.args.lid c.args.via)) c.in-Some.start o) c.in-Stops.is c.trace.ensures.ends) comes),
)

pub returns-in-Loops-clause-comes : goal.returns-in-Loops-clause-comes
returns-in-Loops-clause-comes c = (
  λ e. absurd (false≢true e),
  λ comes. absurd (no_loop c.args.fabric.now (tables_of c.args.cells.now) c.args.audience c.args.lid c.args.via c.args.source c.in-Some.start c.in-Some.ensures.start.1 (subst (λ (o : Outcome). EndsAs (hop_to c.args.fabric.now (tables_of c.args.cells.now) (way c.args.lid c.args.via)) c.in-Some.start o) c.in-Loops.is c.trace.ensures.ends) comes),
)
