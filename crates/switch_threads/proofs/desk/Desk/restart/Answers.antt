-- The switch begins a life.

use Rattle.std.proofs.Common.{subst, sym}
use Rattle.switch_core.specs.Kept.{KeptOf, StandsFor}
use Rattle.net_world.specs.World.{world_after}
use Rattle.switch_threads.proofs.desk.Desk.restart.Goals as goal

pub returns-clause-done : goal.returns-clause-done
returns-clause-done c script history is =
    let keeps = is c.in_ok-self.field-0 c.in_ok-self.ensures in
    let x = (world_after script history).switches c.args.self.now.s in
    record { keeps_up = keeps; prepared = c.show.ensures x (subst (λ (k : KeptOf). StandsFor k x) (sym c.deref.ensures) keeps.fits.1) }
