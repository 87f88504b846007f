-- A table was loaded.

use Rattle.std.proofs.Common.{arith, refl, subst, sym, vec_capacity}
use Rattle.an_base.specs.declared.event.Event.TheVariants.{Load}
use Rattle.net_world.specs.Histories.{HistoryOf, world_of}
use Rattle.net_world.specs.Turns.{IsToLoad}
use Rattle.fabric_book.proofs.BookLemmas.{has_room, kept_as, lawful_at, load_kept}
use Rattle.fabric_book.proofs.HandLemmas.{load_told}
use Rattle.fabric_book.proofs.book.Book.load_now.Goals as goal

pub push_reserved-requires : goal.push_reserved-requires
push_reserved-requires c =
    let b = c.self.inside in
    let few = has_room b.fabric b.entries.items b.taken.items (vec_capacity b.entries) c.self.invariant c.args.self.now c.self.view_is (Load c.args.s) c.requires.lawful in
    omega (arith, few, b.entries.ok.0)

pub invariant_of-self : goal.invariant_of-self
invariant_of-self c =
    let b = c.self.inside in
    kept_as _ _ _ _ _ _ _ _ (load_kept b.fabric b.entries.items c.args.s c.args.table c.args.note.now b.taken.items (vec_capacity b.entries) c.self.invariant (lawful_at b.fabric b.entries.items b.taken.items (vec_capacity b.entries) c.self.invariant c.args.self.now c.self.view_is (Load c.args.s) c.requires.lawful)
    (subst (λ (h : HistoryOf). IsToLoad (world_of h) c.args.s c.args.table c.args.note.now) (sym c.self.view_is) c.requires.load))
    c.load-told.ensures.loaded c.push_reserved.ensures.items refl c.push_reserved.ensures.capacity

pub returns-clause-told : goal.returns-clause-told
returns-clause-told c = load_told (world_of c.args.self.now) c.args.s c.args.table c.args.note.now c.load-told.result c.requires.load c.load-told.ensures.told
