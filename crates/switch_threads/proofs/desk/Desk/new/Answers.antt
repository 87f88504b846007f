-- The switch begins its first life, and nothing has come.

use Rattle.std.proofs.Common.{◌∙◌, [], ap, subst, sym}
use Rattle.an_base.specs.Values.{LifeId}
use Rattle.net_graph.specs.Wires.{Wires, network}
use Rattle.switch_core.specs.Kept.{KeptOf, StandsFor}
use Rattle.net_world.specs.World.{world_after}
use Rattle.fabric_book.specs.Nets.{IsStarted, start_with}
use Rattle.switch_threads.proofs.TurnLemmas.{begun_fits}
use Rattle.switch_threads.proofs.desk.Desk.new.Goals as goal

pub returns-clause-up : goal.returns-clause-up
returns-clause-up c =
    let script = c.args.script.now in
    let life = c.life-life.ensures ∙ ap (λ (w : Wires). (network w).life c.args.s) c.wiring.ensures.wires in
    let started = subst (λ (life : LifeId). IsStarted (start_with c.of-power_on.result life) c.in_ok-started.started) life c.in_ok-started.ensures in
    let begun = begun_fits script c.args.s c.of-power_on.result c.in_ok-switch.switch.value c.wiring.ensures.kept c.requires c.of-power_on.ensures
    (subst (IsStarted (start_with c.of-power_on.result ((network script.wires).life c.args.s))) (sym c.in_ok-switch.ensures.ok) started) in
    let x = (world_after script []).switches c.args.s in
    record { keeps_up = begun; prepared = c.in_ok-papers.ensures x (subst (λ (k : KeptOf). StandsFor k x) c.in_ok-switch.ensures.ok begun.fits.1) }
