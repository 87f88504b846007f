-- What was in hand was handled, in three parts.

use Rattle.std.proofs.Common.{◌≡◌, ◌∙◌, ◌+◌, ◌<◌, ℕ, ap, arith, refl, subst, sym, vec_capacity}
use Rattle.an_base.specs.declared.event.Event.TheVariants.{Handle}
use Rattle.net_state.specs.Effects.{ShowsOnly, all_put_out, emptied}
use Rattle.net_state.specs.Fabric.{FabricOf, StationOf, full_hands, station}
use Rattle.net_state.specs.declared.hand.Hand.TheVariants as hand
use Rattle.fabric_book.proofs.BookLemmas.{handled_kept, handled_lawful, handled_only, handled_port, handled_room, has_room, kept_as, three_parts}
use Rattle.fabric_book.proofs.book.Book.handle.Goals as goal

pub show-requires-clause-room : goal.show-requires-clause-room
show-requires-clause-room c =
    let b = c.self.inside in
    let is : c.put_all.new.fabric ≡ record (emptied c.args.s b.fabric) { wires = all_put_out c.args.s c.args.frames.now (emptied c.args.s b.fabric).wires } = c.put_all.ensures.put ∙ ap (λ (f : FabricOf). record f { wires = all_put_out c.args.s c.args.frames.now f.wires }) c.release.ensures in
    subst (λ (f : FabricOf). f.events + full_hands f < f.script.limits.events) (sym is) (handled_room b.fabric b.entries.items b.taken.items (vec_capacity b.entries) c.self.invariant c.args.self.now c.self.view_is c.args.s c.requires.within c.args.frames.now c.args.note.now c.args.spent c.requires.done)

pub show-requires-clause-port : goal.show-requires-clause-port
show-requires-clause-port c =
    let b = c.self.inside in
    handled_port b.fabric b.entries.items b.taken.items (vec_capacity b.entries) c.self.invariant c.args.self.now c.self.view_is c.args.s c.requires.within c.args.frames.now c.args.note.now c.args.spent c.requires.done c.hand-hand.result
    (c.hand-hand.ensures ∙ ap (λ (x : StationOf). x.hand) c.station.ensures)

pub show-requires-clause-only : goal.show-requires-clause-only
show-requires-clause-only c = λ (port : ℕ) (frame : c.hand-hand.result ≡ hand.Frame port).
    let b = c.self.inside in
    let is : c.put_all.new.fabric ≡ record (emptied c.args.s b.fabric) { wires = all_put_out c.args.s c.args.frames.now (emptied c.args.s b.fabric).wires } = c.put_all.ensures.put ∙ ap (λ (f : FabricOf). record f { wires = all_put_out c.args.s c.args.frames.now f.wires }) c.release.ensures in
    subst (λ (f : FabricOf). ShowsOnly port (station f c.args.s).note c.args.note.now) (sym is)
    (handled_only b.fabric b.entries.items b.taken.items (vec_capacity b.entries) c.self.invariant c.args.self.now c.self.view_is c.args.s c.requires.within c.args.frames.now c.args.note.now c.args.spent c.requires.done c.hand-hand.result port
    (c.hand-hand.ensures ∙ ap (λ (x : StationOf). x.hand) c.station.ensures) frame)

pub push_reserved-requires : goal.push_reserved-requires
push_reserved-requires c =
    let b = c.self.inside in
    let few = has_room b.fabric b.entries.items b.taken.items (vec_capacity b.entries) c.self.invariant c.args.self.now c.self.view_is (Handle c.args.s) (handled_lawful b.fabric b.entries.items b.taken.items (vec_capacity b.entries) c.self.invariant c.args.self.now c.self.view_is c.args.s c.requires.within c.args.frames.now c.args.note.now c.args.spent c.requires.done) in
    omega (arith, few, b.entries.ok.0)

pub invariant_of-self : goal.invariant_of-self
invariant_of-self c =
    let b = c.self.inside in
    kept_as _ _ _ _ _ _ _ _ (handled_kept b.fabric b.entries.items b.taken.items (vec_capacity b.entries) c.self.invariant c.args.self.now c.self.view_is c.args.s c.requires.within c.args.frames.now c.args.note.now c.args.spent c.requires.done)
    (three_parts b.fabric _ _ _ c.args.s c.args.frames.now c.args.note.now c.args.spent c.release.ensures c.put_all.ensures.put c.show.ensures) c.push_reserved.ensures.items refl c.push_reserved.ensures.capacity
