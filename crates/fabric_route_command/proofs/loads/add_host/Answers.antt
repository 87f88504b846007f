use Rattle.std.proofs.Common.{◌≡◌, ◌∙◌, sym, ap, ℕ, ◌+◌, Some, None, arith, set}
use Rattle.std.proofs.lemmas.List.{get_or_default}
use Rattle.fabric_model.specs.declared.node.EndPort.TheVariants.{Host}
use Rattle.fabric_model.specs.Fabric.{start_of, switch_at}
use Rattle.fabric_route_command.proofs.HostLemmas.{host_added, host_skipped}
use Rattle.fabric_route_command.proofs.loads.add_host.Goals as goal

pub returns-in_default : goal.returns-in_default
returns-in_default c =
    let none : start_of c.args.fabric.now (Host c.args.end) ≡ None = ap switch_at (sym c.in_default.ensures.cable) in
    host_skipped c.args.fabric.now c.args.end c.args.hosts.now.items c.requires.hosts none

pub overflow_add-before : goal.overflow_add-before
overflow_add-before c =
    let few = c.requires.hosts.few c.in-Some.spot.switch in
    let size = c.requires.hosts.size in
    let within = c.in-Some.ensures.within in
    let value = c.index-before.ensures ∙ get_or_default c.args.hosts.now.items c.in-Some.spot.switch c.index-before.result.now 0 (omega arith) in
    let low = c.requires.end in
    omega arith

pub returns : goal.returns
returns c =
    let items = c.args.hosts.now.items in
    let at = c.in-Some.spot.switch in
    let size = c.requires.hosts.size in
    let within = c.in-Some.ensures.within in
    let value = c.index-before.ensures ∙ get_or_default items at c.index-before.result.now 0 (omega arith) in
    let begins : start_of c.args.fabric.now (Host c.args.end) ≡ Some at = ap switch_at (sym c.in-Some.ensures.cable) in
    host_added c.args.fabric.now c.args.end items c.requires.hosts at (set items at (c.index-before.result.now + 1)) within begins (ap (λ (n : ℕ). set items at (n + 1)) value)
