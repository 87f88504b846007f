use Rattle.std.proofs.Common.{◌≡◌, ◌∙◌, ap, sym, subst, arith, ℕ, List, length, set, ◌++◌, ◌∷◌, []}
use Rattle.std.specs.Prelude.{vec_capacity}
use Rattle.fcfc_router.specs.declared.router.Slot.{Slot}
use Rattle.fcfc_router.specs.Shown.{IsIndex}
use Rattle.fcfc_router.proofs.ShownLemmas.{index_asked}
use Rattle.fcfc_router.proofs.router.Router.ask_set.Goals as goal

pub invariant_of-self : goal.invariant_of-self
invariant_of-self c =
    let before = c.self.invariant in
    let made = c.make_room.ensures in
    let room = before.room in
    let kept = before.kept in
    let places = made.places in
    let same = made.capacity in
    let free = made.free in
    let after : IsIndex c.self.inside.most (vec_capacity c.make_room.new.slots) c.make_room.new.slots.items c.make_room.new.tree = record {
      room = omega arith;
      used = omega arith;
      kept = omega arith;
      sets = made.sets;
    } in
    let at : c.len-place.result ≡ length c.make_room.new.slots.items = omega (arith, c.len-place.ensures) in
    let index = index_asked c.self.inside.most (vec_capacity c.make_room.new.slots) (vec_capacity c.push.new.self) c.args.packet c.args.ports c.make_room.new.slots.items c.make_room.new.tree after free c.in-Ok.ensures.capacity in
    let tree : set c.make_room.new.tree (length c.make_room.new.slots.items) c.args.ports ≡ c.put.new.self = ap (λ (place : ℕ). set c.make_room.new.tree place c.args.ports) (sym at) ∙ sym c.put.ensures in
    let slots : c.make_room.new.slots.items ++ (record { packet = c.args.packet; ports = c.args.ports } ∷ []) ≡ c.push.new.self.items = sym c.in-Ok.ensures.items in
    subst (λ (xs : List Slot). IsIndex c.self.inside.most (vec_capacity c.push.new.self) xs c.put.new.self) slots (
    subst (λ (xs : List ℕ). IsIndex c.self.inside.most (vec_capacity c.push.new.self) (c.make_room.new.slots.items ++ (record { packet = c.args.packet; ports = c.args.ports } ∷ [])) xs) tree index)
