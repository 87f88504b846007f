-- A switch began its next life.

use Rattle.net_state.specs.declared.line.Line.{Line}
use Rattle.std.proofs.Common.{◌≡◌, ◌∙◌, ◌++◌, ◌∷◌, ◌<◌, [], ap, arith, length, refl, slice_index_or, slice_set, subst}
use Rattle.std.proofs.lemmas.Result.{on_ok_weaker}
use Rattle.an_base.specs.declared.event.Event.TheVariants.{Restart}
use Rattle.net_world.specs.Histories.{world_of}
use Rattle.fabric_book.specs.Nets.{IsStarted, PowerOf, history_of, start_with}
use Rattle.fabric_book.proofs.NetLemmas.{here_at, may_at, net_as, net_below, net_lost_on, net_switched, power_here, power_long}
use Rattle.fabric_book.proofs.OwnLemmas.{restart_own}
use Rattle.fabric_book.proofs.TellLemmas.{restart_told}
use Rattle.fabric_book.proofs.net.Net.restart.Goals as goal
use Rattle.fabric_book.proofs.net.Net.restart.Goals.{After-from-place}

-- the switch is one of the script
below : (c : goal.After-from-place) → c.args.s < length c.self.inside.book.script.wires.switches
below c =
    let n = c.self.inside in
    net_below n.book (Restart c.args.s) c.args.s c.self.invariant.script refl (may_at n.book n.lost c.args.self.now c.self.view_is (Restart c.args.s) c.requires.lawful)

pub index-power-requires : goal.index-power-requires
index-power-requires c =
    let n = c.self.inside in
    let many = power_long n.book n.lost n.powers.items n.switches.items n.bytes.items c.self.invariant in
    omega (arith, c.from-place.ensures, below (goal.at.index-power-requires c).After-from-place, many, n.powers.ok.0)

pub index_mut-requires : goal.index_mut-requires
index_mut-requires c =
    omega (arith, c.from-place.ensures, below (goal.at.index_mut-requires c).After-from-place, c.self.invariant.switch_count, c.self.inside.switches.ok.0)

pub invariant_of-self : goal.invariant_of-self
invariant_of-self c =
    let n = c.self.inside in
    net_as _ _ _ _ _ _ _ _ _ (net_lost_on n.book (Restart c.args.s) n.lost n.powers.items n.switches.items n.switches.items n.bytes.items n.bytes.items c.self.invariant
    (may_at n.book n.lost c.args.self.now c.self.view_is (Restart c.args.s) c.requires.lawful) refl refl) c.restart-life.ensures.restarted refl refl refl

pub invariant_of-self-2 : goal.invariant_of-self-2
invariant_of-self-2 c =
    let n = c.self.inside in
    let s = c.args.s in
    let one = c.in_ok-self-inside.field-0 in
    let lawful = may_at n.book n.lost c.args.self.now c.self.view_is (Restart c.args.s) c.requires.lawful in
    let low = below (goal.at.invariant_of-self-2 c).After-from-place in
    let from = power_here n.book n.lost n.powers.items n.switches.items n.bytes.items c.self.invariant s low c.index-power.result.now (c.index-power.ensures ∙ ap (λ k. slice_index_or n.powers.items k c.index-power.result.now) c.from-place.ensures) in
    let begins = subst (λ (p : PowerOf). IsStarted (start_with p c.restart-life.result.0) c.in_ok-self-inside.field-0) from c.in_ok-self-inside.ensures in
    net_as _ _ _ _ _ _ _ _ _ (net_switched n.book (Restart s) n.lost n.powers.items n.switches.items n.bytes.items c.self.invariant (here_at n.book n.lost c.args.self.now c.self.view_is c.requires.here) lawful s one low refl
    (λ switch buffer _ is. restart_own n.book.script c.self.invariant.script n.book.events s low lawful switch one buffer c.restart-life.result.0 is c.restart-life.ensures.life begins))
    c.restart-life.ensures.restarted refl (ap (λ k. slice_set n.switches.items k one) c.from-place.ensures) refl

pub returns-clause-told : goal.returns-clause-told
returns-clause-told c =
    on_ok_weaker c.push.result (λ (more : c.push.new.self ≡ c.args.lines.now ++ c.restart-life.result.1 ∷ []). restart_told (world_of (history_of c.args.self.now)) c.args.s c.args.lines.now c.push.new.self (more ∙ ap (λ (x : Line). c.args.lines.now ++ x ∷ []) c.restart-life.ensures.told)) c.push.ensures.ok
