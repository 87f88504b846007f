-- The clock of the network went on.

use Rattle.std.proofs.Common.{refl}
use Rattle.an_base.specs.declared.event.Event.TheVariants.{Tick}
use Rattle.fabric_book.proofs.NetLemmas.{may_at, net_as, net_driven}
use Rattle.fabric_book.proofs.net.Net.tick.Goals as goal

pub tick-requires : goal.tick-requires
tick-requires c = let n = c.self.inside in may_at n.book n.lost c.args.self.now c.self.view_is Tick c.requires.lawful

pub invariant_of-self : goal.invariant_of-self
invariant_of-self c =
    let n = c.self.inside in
    net_as _ _ _ _ _ _ _ _ _ (net_driven n.book Tick n.lost n.powers.items n.switches.items n.bytes.items c.self.invariant (may_at n.book n.lost c.args.self.now c.self.view_is Tick c.requires.lawful) refl)
    c.tick.ensures refl refl refl
