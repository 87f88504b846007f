use Rattle.std.proofs.Common.{◌≡◌, ◌∙◌, sym, ap, ℕ, Some}
use Rattle.fabric_model.specs.Fabric.{start_of}
use Rattle.fabric_route_command.proofs.HostLemmas.{without_owner}
use Rattle.fabric_route_command.proofs.loads.count_senders.Goals as goal

pub returns-then-start-switch-clause-count : goal.returns-then-start-switch-clause-count
returns-then-start-switch-clause-count c =
    let begins : start_of c.args.fabric.now c.args.owner ≡ Some c.args.switch = sym c.begins_at.ensures.start ∙ c.in-Some.is ∙ ap (λ (s : ℕ). Some s) c.if-start-switch.true in
    (without_owner c.args.fabric.now c.args.owner c.args.switch c.args.hosts c.requires.hosts c.requires.owner begins).1
