-- A switch loaded the table that was due.

use Rattle.std.proofs.Common.{◌∙◌, ◌<◌, [], ap, arith, length, refl, slice_index_or, slice_set, subst}
use Rattle.std.proofs.lemmas.List.{get_or_default, length-set}
use Rattle.an_base.specs.declared.event.Event.TheVariants.{Load}
use Rattle.net_world.specs.Histories.{HistoryOf, world_of}
use Rattle.fabric_book.specs.Nets.{IsSwitchKept}
use Rattle.fabric_book.proofs.NetLemmas.{here_at, here_kept, may_at, net_as, net_below, net_lost_either, net_switched}
use Rattle.fabric_book.proofs.net.Net.load.Goals as goal

pub index_mut-requires : goal.index_mut-requires
index_mut-requires c =
    let n = c.self.inside in
    let below = net_below n.book (Load c.args.s) c.args.s c.self.invariant.script refl (may_at n.book n.lost c.args.self.now c.self.view_is (Load c.args.s) c.requires.lawful) in
    let many = c.self.invariant.switch_count in
    omega (arith, c.from.ensures, below, many, n.switches.ok.0)

pub load_at-requires-clause-kept : goal.load_at-requires-clause-kept
load_at-requires-clause-kept c =
    let n = c.self.inside in
    let s = c.args.s in
    let below = net_below n.book (Load s) s c.self.invariant.script refl (may_at n.book n.lost c.args.self.now c.self.view_is (Load s) c.requires.lawful) in
    let many = c.self.invariant.buffer_count in
    let much : c.args.s < length n.bytes.items = omega (arith, below, many) in (
      slice_index_or n.bytes.items s [],
      here_kept n.book n.lost n.powers.items n.switches.items n.bytes.items c.self.invariant (here_at n.book n.lost c.args.self.now c.self.view_is c.requires.here) s below c.index_mut.result.now (slice_index_or n.bytes.items s [])
          (c.index_mut.ensures.value ∙ ap (λ k. slice_index_or n.switches.items k c.index_mut.result.now) c.from.ensures)
          (get_or_default n.bytes.items s [] (slice_index_or n.bytes.items s []) much),
    )

pub invariant_of-self : goal.invariant_of-self
invariant_of-self c =
    let n = c.self.inside in
    net_lost_either n.book c.load_at.new.book (Load c.args.s) n.lost n.powers.items n.switches.items (slice_set n.switches.items c.from.result c.load_at.new.switch) n.bytes.items c.self.invariant
    (may_at n.book n.lost c.args.self.now c.self.view_is (Load c.args.s) c.requires.lawful) c.in_err-load_at.ensures.lost (length-set n.switches.items c.from.result c.load_at.new.switch)

pub invariant_of-self-2 : goal.invariant_of-self-2
invariant_of-self-2 c =
    let n = c.self.inside in
    let s = c.args.s in
    let one = c.load_at.new.switch in
    let here = here_at n.book n.lost c.args.self.now c.self.view_is c.requires.here in
    let lawful = may_at n.book n.lost c.args.self.now c.self.view_is (Load c.args.s) c.requires.lawful in
    let below = net_below n.book (Load c.args.s) c.args.s c.self.invariant.script refl lawful in
    net_as _ _ _ _ _ _ _ _ _ (net_switched n.book (Load s) n.lost n.powers.items n.switches.items n.bytes.items c.self.invariant here lawful s one below refl
    (λ switch buffer is _. subst (λ (h : HistoryOf). IsSwitchKept (world_of h) c.args.s c.load_at.new.switch buffer) c.in_ok-load_at.ensures.came
    (c.in_ok-load_at.ensures.kept buffer (here_kept n.book n.lost n.powers.items n.switches.items n.bytes.items c.self.invariant here s below c.index_mut.result.now buffer
    (c.index_mut.ensures.value ∙ ap (λ k. slice_index_or n.switches.items k c.index_mut.result.now) c.from.ensures) is))))
    c.in_ok-load_at.ensures.came refl (ap (λ k. slice_set n.switches.items k one) c.from.ensures) refl
