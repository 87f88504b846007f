-- A switch handled what it had in hand.

use Rattle.std.proofs.Common.{◌∙◌, ◌++◌, ◌∷◌, ◌<◌, ℕ, List, [], ap, arith, length, refl, slice_index_or, slice_set, subst, sym}
use Rattle.std.proofs.lemmas.List.{length-set}
use Rattle.an_base.specs.declared.event.Event.TheVariants.{Handle}
use Rattle.net_world.specs.Histories.{HistoryOf, world_of}
use Rattle.fabric_book.specs.Nets.{IsSwitchKept}
use Rattle.fabric_book.proofs.NetLemmas.{here_at, here_kept, may_at, net_as, net_below, net_lost_either, net_switched, same_item}
use Rattle.fabric_book.proofs.net.Net.handle.Goals as goal
use Rattle.fabric_book.proofs.net.Net.handle.Goals.{After-from-place}

-- the switch is one of the script
below : (c : goal.After-from-place) → c.args.s < length c.self.inside.book.script.wires.switches
below c =
    let n = c.self.inside in
    net_below n.book (Handle c.args.s) c.args.s c.self.invariant.script refl (may_at n.book n.lost c.args.self.now c.self.view_is (Handle c.args.s) c.requires.lawful)

pub index_mut-requires : goal.index_mut-requires
index_mut-requires c =
    omega (arith, c.from-place.ensures, below (goal.at.index_mut-requires c).After-from-place, c.self.invariant.switch_count, c.self.inside.switches.ok.0)

pub index-requires : goal.index-requires
index-requires c =
    omega (arith, c.from-place.ensures, below (goal.at.index-requires c).After-from-place, c.self.invariant.buffer_count, c.self.inside.bytes.ok.0)

pub handle_at-requires-clause-kept : goal.handle_at-requires-clause-kept
handle_at-requires-clause-kept c =
    let n = c.self.inside in
    let s = c.args.s in
    let low = below (goal.at.handle_at-requires-clause-kept c).After-from-place in
    subst (λ (xs : List ℕ). IsSwitchKept (world_of n.book) s c.index_mut.result.now xs) (sym c.bytes.ensures.all)
    (here_kept n.book n.lost n.powers.items n.switches.items n.bytes.items c.self.invariant (here_at n.book n.lost c.args.self.now c.self.view_is c.requires.here) s low c.index_mut.result.now c.index.result.now
    (c.index_mut.ensures.value ∙ ap (λ k. slice_index_or n.switches.items k c.index_mut.result.now) c.from-place.ensures)
    (c.index.ensures ∙ ap (λ k. slice_index_or n.bytes.items k c.index.result.now) c.from-place.ensures))

pub invariant_of-self : goal.invariant_of-self
invariant_of-self c =
    let n = c.self.inside in
    net_lost_either n.book c.handle_at.new.book (Handle c.args.s) n.lost n.powers.items n.switches.items (slice_set n.switches.items c.from-place.result c.handle_at.new.switch) n.bytes.items c.self.invariant
    (may_at n.book n.lost c.args.self.now c.self.view_is (Handle c.args.s) c.requires.lawful) c.in_err-handle_at.ensures.lost (length-set n.switches.items c.from-place.result c.handle_at.new.switch)

pub invariant_of-self-2 : goal.invariant_of-self-2
invariant_of-self-2 c =
    let n = c.self.inside in
    let s = c.args.s in
    let one = c.handle_at.new.switch in
    let lawful = may_at n.book n.lost c.args.self.now c.self.view_is (Handle c.args.s) c.requires.lawful in
    let low = below (goal.at.invariant_of-self-2 c).After-from-place in
    let much : c.args.s < length n.bytes.items = omega (arith, low, c.self.invariant.buffer_count) in
    let kept = subst (λ (h : HistoryOf). IsSwitchKept (world_of h) c.args.s c.handle_at.new.switch c.bytes.result.now) c.in_ok-handle_at.ensures.came c.in_ok-handle_at.ensures.kept in
    net_as _ _ _ _ _ _ _ _ _ (net_switched n.book (Handle s) n.lost n.powers.items n.switches.items n.bytes.items c.self.invariant (here_at n.book n.lost c.args.self.now c.self.view_is c.requires.here) lawful s one low refl
    (λ switch buffer is _. subst (λ (xs : List ℕ). IsSwitchKept (world_of (record n.book { events = n.book.events ++ Handle c.args.s ∷ [] })) c.args.s c.handle_at.new.switch xs)
    (c.bytes.ensures.all ∙ same_item n.bytes.items s c.index.result.now buffer much (c.index.ensures ∙ ap (λ k. slice_index_or n.bytes.items k c.index.result.now) c.from-place.ensures) is) kept))
    c.in_ok-handle_at.ensures.came refl (ap (λ k. slice_set n.switches.items k one) c.from-place.ensures) refl
