-- A switch began its next life.

use Rattle.std.proofs.Common.{arith, refl, vec_capacity}
use Rattle.an_base.specs.declared.event.Event.TheVariants.{Restart}
use Rattle.fabric_book.proofs.BookLemmas.{boot_fits, has_room, kept_as, lawful_at, restart_below, restart_kept}
use Rattle.fabric_book.proofs.book.Book.restart.Goals as goal

pub restart-begun-requires-clause-boot : goal.restart-begun-requires-clause-boot
restart-begun-requires-clause-boot c =
    let b = c.self.inside in
    boot_fits b.fabric b.entries.items b.taken.items (vec_capacity b.entries) c.args.s c.self.invariant (restart_below b.fabric c.args.s c.self.invariant.script (lawful_at b.fabric b.entries.items b.taken.items (vec_capacity b.entries) c.self.invariant c.args.self.now c.self.view_is (Restart c.args.s) c.requires))

pub push_reserved-requires : goal.push_reserved-requires
push_reserved-requires c =
    let b = c.self.inside in
    let few = has_room b.fabric b.entries.items b.taken.items (vec_capacity b.entries) c.self.invariant c.args.self.now c.self.view_is (Restart c.args.s) c.requires in
    omega (arith, few, b.entries.ok.0)

pub invariant_of-self : goal.invariant_of-self
invariant_of-self c =
    let b = c.self.inside in
    let lawful = lawful_at b.fabric b.entries.items b.taken.items (vec_capacity b.entries) c.self.invariant c.args.self.now c.self.view_is (Restart c.args.s) c.requires in
    kept_as _ _ _ _ _ _ _ _ (restart_kept b.fabric b.entries.items c.args.s b.taken.items (vec_capacity b.entries) c.self.invariant (restart_below b.fabric c.args.s c.self.invariant.script lawful) lawful)
    c.restart-begun.ensures.restarted c.push_reserved.ensures.items refl c.push_reserved.ensures.capacity
