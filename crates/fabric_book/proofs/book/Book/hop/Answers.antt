-- A packet made a hop.

use Rattle.std.proofs.Common.{arith, refl, vec_capacity}
use Rattle.an_base.specs.declared.event.Event.TheVariants.{Move}
use Rattle.fabric_book.proofs.BookLemmas.{has_room, kept_as, lawful_at, move_kept, moved_told}
use Rattle.fabric_book.proofs.book.Book.hop.Goals as goal

pub hop-told-requires : goal.hop-told-requires
hop-told-requires c =
    let b = c.self.inside in
    lawful_at b.fabric b.entries.items b.taken.items (vec_capacity b.entries) c.self.invariant c.args.self.now c.self.view_is (Move c.args.packet) c.requires

pub push_reserved-requires : goal.push_reserved-requires
push_reserved-requires c =
    let b = c.self.inside in
    let few = has_room b.fabric b.entries.items b.taken.items (vec_capacity b.entries) c.self.invariant c.args.self.now c.self.view_is (Move c.args.packet) c.requires in
    omega (arith, few, b.entries.ok.0)

pub invariant_of-self : goal.invariant_of-self
invariant_of-self c =
    let b = c.self.inside in
    let lawful = lawful_at b.fabric b.entries.items b.taken.items (vec_capacity b.entries) c.self.invariant c.args.self.now c.self.view_is (Move c.args.packet) c.requires in
    kept_as _ _ _ _ _ _ _ _ (move_kept b.fabric b.entries.items c.args.packet b.taken.items (vec_capacity b.entries) c.self.invariant lawful)
    c.hop-told.ensures.moved c.push_reserved.ensures.items refl c.push_reserved.ensures.capacity

pub returns-clause-told : goal.returns-clause-told
returns-clause-told c =
    let b = c.self.inside in
    moved_told b.fabric b.entries.items b.taken.items (vec_capacity b.entries) c.self.invariant c.args.self.now c.self.view_is c.args.packet _ c.hop-told.ensures.told
