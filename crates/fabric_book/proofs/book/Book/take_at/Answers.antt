-- A frame was taken.

use Rattle.std.proofs.Common.{◌∙◌, ap, arith, slice_set, vec_capacity}
use Rattle.an_base.specs.declared.event.Event.TheVariants.{Take}
use Rattle.net_state.specs.Fabric.{FabricOf, held_bytes}
use Rattle.fabric_book.specs.Kept.{IsKept}
use Rattle.fabric_book.proofs.BookLemmas.{has_room, kept_as, lawful_at, take_below, take_kept, taken_long, taken_told}
use Rattle.fabric_book.proofs.book.Book.take_at.Goals as goal

pub index_mut-requires : goal.index_mut-requires
index_mut-requires c =
    let b = c.self.inside in
    let below = take_below b.fabric c.args.s c.args.port (lawful_at b.fabric b.entries.items b.taken.items (vec_capacity b.entries) c.self.invariant c.args.self.now c.self.view_is (Take c.args.s c.args.port) c.requires) in
    let long = taken_long b.fabric b.entries.items b.taken.items (vec_capacity b.entries) c.self.invariant in
    omega (arith, c.from.ensures, below, long, b.taken.ok.0)

pub push_reserved-requires : goal.push_reserved-requires
push_reserved-requires c =
    let b = c.self.inside in
    let few = has_room b.fabric b.entries.items b.taken.items (vec_capacity b.entries) c.self.invariant c.args.self.now c.self.view_is (Take c.args.s c.args.port) c.requires in
    omega (arith, few, b.entries.ok.0)

pub invariant_of-self : goal.invariant_of-self
invariant_of-self c =
    let b = c.self.inside in
    let lawful = lawful_at b.fabric b.entries.items b.taken.items (vec_capacity b.entries) c.self.invariant c.args.self.now c.self.view_is (Take c.args.s c.args.port) c.requires in
    kept_as _ _ _ _ _ _ _ _ (take_kept b.fabric b.entries.items c.args.s c.args.port b.taken.items (vec_capacity b.entries) c.self.invariant (take_below b.fabric c.args.s c.args.port lawful) lawful)
    c.take-told.ensures.taken c.push_reserved.ensures.items (ap (λ k. slice_set b.taken.items k c.args.port) c.from.ensures) c.push_reserved.ensures.capacity

pub returns-clause-bytes : goal.returns-clause-bytes
returns-clause-bytes c =
    let kept : IsKept c.take-told.new.self c.push_reserved.new.self.items (slice_set c.self.inside.taken.items c.from.result c.args.port) (vec_capacity c.push_reserved.new.self) = invariant_of-self c in
    c.take-told.ensures.bytes ∙ ap (λ (f : FabricOf). held_bytes f c.args.s) kept.fabric_is

pub returns-clause-told : goal.returns-clause-told
returns-clause-told c =
    let b = c.self.inside in
    taken_told b.fabric b.entries.items b.taken.items (vec_capacity b.entries) c.self.invariant c.args.self.now c.self.view_is c.args.s c.args.port _ c.take-told.ensures.told
