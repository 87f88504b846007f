use Rattle.std.proofs.Common.{◌∙◌, ap, ℕ, List, replicate, arith}
use Rattle.fabric_route_command.proofs.HostLemmas.{all_hosts, no_hosts}
use Rattle.fabric_route_command.proofs.loads.count_hosts.Goals as goal

pub ends-init : goal.ends-init
ends-init c = no_hosts c.args.fabric.now c.in_ok-hosts.hosts.items (c.in_ok-hosts.ensures.items_if_clones_equal (λ y e. e) ∙ ap (λ (n : ℕ). let xs : List ℕ = replicate n 0 in xs) c.switches.ensures.count)

pub returns : goal.returns
returns c = all_hosts c.args.fabric.now c.ends.end c.ends.hosts.items (omega arith) (omega arith) c.ends.invariant
