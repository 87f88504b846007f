use Rattle.std.proofs.Common.{subst}
use Rattle.fabric_model.specs.declared.node.EndPort.{EndPort}
use Rattle.fabric_routes.specs.Routes.{IsSource}
use Rattle.fabric_routes.proofs.StartLemmas.{source_low}
use Rattle.fabric_routes.proofs.start.begins_at.Goals as goal

pub returns-in-Switch-clause-within : goal.returns-in-Switch-clause-within
returns-in-Switch-clause-within c = λ traffic is. source_low c.args.fabric.now traffic c.in-Switch.switch (subst (λ (e : EndPort). IsSource c.args.fabric.now traffic e) c.in-Switch.is is)
