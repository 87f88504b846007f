-- A clock was taken.

use Rattle.std.proofs.Common.{◌∙◌, ap, arith, refl, sym, vec_capacity}
use Rattle.an_base.specs.declared.event.Event.TheVariants.{Clock}
use Rattle.net_state.specs.Fabric.{FabricOf, samples_of}
use Rattle.fabric_book.proofs.BookLemmas.{clock_kept, fabric_at, has_room, kept_as, lawful_at}
use Rattle.fabric_book.proofs.book.Book.clock.Goals as goal

pub clock-requires-clause-lawful : goal.clock-requires-clause-lawful
clock-requires-clause-lawful c =
    let b = c.self.inside in
    lawful_at b.fabric b.entries.items b.taken.items (vec_capacity b.entries) c.self.invariant c.args.self.now c.self.view_is (Clock c.args.s) c.requires.lawful

pub clock-requires-clause-samples : goal.clock-requires-clause-samples
clock-requires-clause-samples c =
    let b = c.self.inside in
    c.requires.samples ∙ ap (λ (f : FabricOf). samples_of f c.args.s) (sym (fabric_at b.fabric b.entries.items b.taken.items (vec_capacity b.entries) c.self.invariant c.args.self.now c.self.view_is))

pub push_reserved-requires : goal.push_reserved-requires
push_reserved-requires c =
    let b = c.self.inside in
    let few = has_room b.fabric b.entries.items b.taken.items (vec_capacity b.entries) c.self.invariant c.args.self.now c.self.view_is (Clock c.args.s) c.requires.lawful in
    omega (arith, few, b.entries.ok.0)

pub invariant_of-self : goal.invariant_of-self
invariant_of-self c =
    let b = c.self.inside in
    let lawful = lawful_at b.fabric b.entries.items b.taken.items (vec_capacity b.entries) c.self.invariant c.args.self.now c.self.view_is (Clock c.args.s) c.requires.lawful in
    kept_as _ _ _ _ _ _ _ _ (clock_kept b.fabric b.entries.items c.args.s b.taken.items (vec_capacity b.entries) c.self.invariant lawful)
    c.clock.ensures c.push_reserved.ensures.items refl c.push_reserved.ensures.capacity
