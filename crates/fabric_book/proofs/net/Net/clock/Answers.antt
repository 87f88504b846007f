-- A switch took its clock.

use Rattle.std.proofs.Common.{refl}
use Rattle.an_base.specs.declared.event.Event.TheVariants.{Clock}
use Rattle.fabric_book.proofs.NetLemmas.{here_at, may_at, net_as, net_below, net_own}
use Rattle.fabric_book.proofs.OwnLemmas.{clock_own}
use Rattle.fabric_book.proofs.net.Net.clock.Goals as goal

pub clock-requires-clause-lawful : goal.clock-requires-clause-lawful
clock-requires-clause-lawful c = let n = c.self.inside in may_at n.book n.lost c.args.self.now c.self.view_is (Clock c.args.s) c.requires.lawful

pub invariant_of-self : goal.invariant_of-self
invariant_of-self c =
    let n = c.self.inside in
    let lawful = may_at n.book n.lost c.args.self.now c.self.view_is (Clock c.args.s) c.requires.lawful in
    let below = net_below n.book (Clock c.args.s) c.args.s c.self.invariant.script refl lawful in
    net_as _ _ _ _ _ _ _ _ _ (net_own n.book (Clock c.args.s) n.lost n.powers.items n.switches.items n.bytes.items c.self.invariant (here_at n.book n.lost c.args.self.now c.self.view_is c.requires.here) lawful c.args.s below refl
    (λ switch buffer is. clock_own n.book.script c.self.invariant.script n.book.events c.args.s below lawful switch buffer buffer is)) c.clock.ensures refl refl refl
