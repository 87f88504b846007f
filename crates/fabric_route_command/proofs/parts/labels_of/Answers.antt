use Rattle.std.proofs.Common.{◌≡◌, subst, ℕ, arith}
use Rattle.fabric_model.specs.Fabric.{switch_count}
use Rattle.fabric_route_command.specs.Parts.{AreLabelsBefore}
use Rattle.fabric_route_command.proofs.JoinLemmas.{are_labels}
use Rattle.fabric_route_command.proofs.parts.labels_of.Goals as goal

pub returns-clause-labels : goal.returns-clause-labels
returns-clause-labels c =
    let last : c.switches.switch ≡ switch_count c.args.fabric.now = omega arith in
    are_labels c.args.fabric.now c.switches.labels.items (subst (λ (switch : ℕ). AreLabelsBefore c.args.fabric.now switch 0 c.switches.labels.items) last c.switches.invariant)
