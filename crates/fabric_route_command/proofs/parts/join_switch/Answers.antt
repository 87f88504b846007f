use Rattle.std.proofs.Common.{◌≡◌, ◌+◌, subst, ℕ, arith}
use Rattle.fabric_route_command.specs.Parts.{AreLabelsBefore}
use Rattle.fabric_route_command.proofs.JoinLemmas.{port_none, ports_done}
use Rattle.fabric_route_command.proofs.parts.join_switch.Goals as goal

pub ports-init : goal.ports-init
ports-init c = port_none c.args.fabric.now c.args.switch c.args.labels.now c.requires.labels

pub returns : goal.returns
returns c =
    let last : c.ports.place ≡ c.args.fabric.now.most = omega arith in
    ports_done c.args.fabric.now c.args.switch c.ports.labels (subst (λ (place : ℕ). AreLabelsBefore c.args.fabric.now c.args.switch (place + 1) c.ports.labels) last c.ports.invariant)
