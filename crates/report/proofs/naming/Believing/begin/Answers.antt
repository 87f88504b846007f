use Rattle.std.proofs.Common.{◌≡◌, ◌∙◌, ap, refl, rules, ℕ, [], length}
use Rattle.std.specs.Prelude.{replicate}
use Rattle.net_graph.specs.Wires.{Wires}
use Rattle.report.proofs.RememberingLemmas.{nothing_kept}
use Rattle.report.proofs.naming.Believing.begin.Goals as goal

pub returns : goal.returns
returns c =
    let script = c.args.script.now in
    let count : length c.hosts.result.now ≡ length script.wires.hosts = ap length c.hosts.ensures.all ∙ ap (λ (w : Wires). length w.hosts) c.wiring.ensures.wires in
    nothing_kept script script c.new.result.items _ refl (search rules) (c.in_ok-caches.ensures ∙ ap (λ (n : ℕ). replicate n []) count)
