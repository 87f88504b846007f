-- A switch whose hand is empty took its next work.

use Rattle.std.proofs.Common.{◌≡◌, ◌<◌, ◌∙◌, ap, arith, false, length, refl, slice_index_or, slice_set, subst, sym}
use Rattle.net_state.specs.Fabric.{is_full_at}
use Rattle.net_state.specs.declared.work.Work.TheVariants as work
use Rattle.net_world.specs.Histories.{HistoryOf, fabric_of}
use Rattle.fabric_book.proofs.NetLemmas.{book_at, here_at, net_as, power_long, within_at}
use Rattle.fabric_book.proofs.WorkLemmas.{clock_taken, frame_taken, life_lost, life_taken, none_taken, work_some, work_view}
use Rattle.fabric_book.proofs.net.Net.take_work.Goals as goal
use Rattle.fabric_book.proofs.net.Net.take_work.Goals.{After-take-work}

-- the switch is one of the script, nothing is lost, and its hand is empty
below : (c : goal.After-take-work) → c.args.s < length c.self.inside.book.script.wires.switches
below c = within_at c.self.inside.book c.self.inside.lost c.args.self.now c.self.view_is c.args.s c.requires.within

here : (c : goal.After-take-work) → c.self.inside.lost ≡ false
here c = here_at c.self.inside.book c.self.inside.lost c.args.self.now c.self.view_is c.requires.here

empty : (c : goal.After-take-work) → is_full_at (fabric_of c.self.inside.book) c.args.s ≡ false
empty c = subst (λ (h : HistoryOf). is_full_at (fabric_of h) c.args.s ≡ false) (sym (book_at c.self.inside.book c.self.inside.lost c.args.self.now c.self.view_is)) c.requires.empty

pub index-power-requires : goal.index-power-requires
index-power-requires c =
    let n = c.self.inside in
    let low = below (goal.at.index-power-requires c).After-take-work in
    let many = power_long n.book n.lost n.powers.items n.switches.items n.bytes.items c.self.invariant in
    omega (arith, c.from-place.ensures, low, many, n.powers.ok.0)

pub invariant_of-self : goal.invariant_of-self
invariant_of-self c =
    let n = c.self.inside in
    let s = c.args.s in
    let t = (goal.at.invariant_of-self c).After-take-work in
    net_as _ _ _ _ _ _ _ _ _ (none_taken n.book n.lost n.powers.items n.switches.items n.bytes.items c.self.invariant (here t) s (below t) (empty t) c.take-work.result.0 c.take-work.new.self c.take-work.new.out c.take-work.ensures.script c.take-work.result.1 c.take-work.ensures.work c.in-Nothing.why c.in-Nothing.is) refl refl refl (ap (λ k. slice_set n.bytes.items k c.take-work.new.out) c.from-place.ensures)

pub invariant_of-self-in-Clock : goal.invariant_of-self-in-Clock
invariant_of-self-in-Clock c =
    let n = c.self.inside in
    let s = c.args.s in
    let t = (goal.at.invariant_of-self-in-Clock c).After-take-work in
    net_as _ _ _ _ _ _ _ _ _ (clock_taken n.book n.lost n.powers.items n.switches.items n.bytes.items c.self.invariant (here t) s (below t) (empty t) c.take-work.result.0 c.take-work.new.self c.take-work.new.out c.take-work.ensures.script c.take-work.result.1 c.take-work.ensures.work c.in-Clock.now c.in-Clock.samples c.in-Clock.is) refl refl refl (ap (λ k. slice_set n.bytes.items k c.take-work.new.out) c.from-place.ensures)

pub invariant_of-self-in-Frame : goal.invariant_of-self-in-Frame
invariant_of-self-in-Frame c =
    let n = c.self.inside in
    let s = c.args.s in
    let t = (goal.at.invariant_of-self-in-Frame c).After-take-work in
    net_as _ _ _ _ _ _ _ _ _ (frame_taken n.book n.lost n.powers.items n.switches.items n.bytes.items c.self.invariant (here t) s (below t) (empty t) c.take-work.result.0 c.take-work.new.self c.take-work.new.out c.take-work.ensures.script c.take-work.result.1 c.take-work.ensures.work c.in-Frame.port c.in-Frame.is) refl refl refl (ap (λ k. slice_set n.bytes.items k c.take-work.new.out) c.from-place.ensures)

pub invariant_of-self-in_err-self-inside-in-Restart : goal.invariant_of-self-in_err-self-inside-in-Restart
invariant_of-self-in_err-self-inside-in-Restart c =
    let n = c.self.inside in
    let s = c.args.s in
    let t = (goal.at.invariant_of-self-in_err-self-inside-in-Restart c).After-take-work in
    net_as _ _ _ _ _ _ _ _ _ (life_lost n.book n.lost n.powers.items n.switches.items n.bytes.items c.self.invariant (here t) s (below t) (empty t) c.take-work.result.0 c.take-work.new.self c.take-work.new.out c.take-work.ensures.script c.take-work.result.1 c.take-work.ensures.work c.in-Restart.life n.switches.items c.in-Restart.is refl) refl refl refl (ap (λ k. slice_set n.bytes.items k c.take-work.new.out) c.from-place.ensures)

pub invariant_of-self-in-Restart : goal.invariant_of-self-in-Restart
invariant_of-self-in-Restart c =
    let n = c.self.inside in
    let s = c.args.s in
    let t = (goal.at.invariant_of-self-in-Restart c).After-take-work in
    net_as _ _ _ _ _ _ _ _ _ (life_taken n.book n.lost n.powers.items n.switches.items n.bytes.items c.self.invariant (here t) s (below t) (empty t) c.take-work.result.0 c.take-work.new.self c.take-work.new.out c.take-work.ensures.script c.take-work.result.1 c.take-work.ensures.work c.in-Restart.life c.index-power.result.now c.in_ok-self-inside-in-Restart.field-0 c.in-Restart.is
    (c.index-power.ensures ∙ ap (λ k. slice_index_or n.powers.items k c.index-power.result.now) c.from-place.ensures) c.in_ok-self-inside-in-Restart.ensures) refl refl (ap (λ k. slice_set n.switches.items k c.in_ok-self-inside-in-Restart.field-0) c.from-place.ensures) (ap (λ k. slice_set n.bytes.items k c.take-work.new.out) c.from-place.ensures)

pub returns-in-Nothing-clause-taken : goal.returns-in-Nothing-clause-taken
returns-in-Nothing-clause-taken c =
    work_view c.self.inside.book c.self.inside.lost c.args.self.now c.self.view_is c.args.s c.take-work.result.0 c.take-work.new.self c.take-work.new.out c.take-work.result.1 _ c.take-work.ensures.script c.take-work.ensures.work refl

pub returns-in-Nothing-clause-some : goal.returns-in-Nothing-clause-some
returns-in-Nothing-clause-some c =
    work_some c.self.inside.book c.self.inside.lost c.args.self.now c.self.view_is c.args.s c.take-work.result.0 (work.Nothing c.in-Nothing.why) c.take-work.new.out c.take-work.result.1 c.take-work.new.self.events c.take-work.ensures.work c.in-Nothing.is

pub returns-in_ok-self-inside-in-Restart-clause-taken : goal.returns-in_ok-self-inside-in-Restart-clause-taken
returns-in_ok-self-inside-in-Restart-clause-taken c =
    work_view c.self.inside.book c.self.inside.lost c.args.self.now c.self.view_is c.args.s c.take-work.result.0 c.take-work.new.self c.take-work.new.out c.take-work.result.1 _ c.take-work.ensures.script c.take-work.ensures.work (sym (here (goal.at.returns-in_ok-self-inside-in-Restart-clause-taken c).After-take-work))

pub returns-in_ok-self-inside-in-Restart-clause-some : goal.returns-in_ok-self-inside-in-Restart-clause-some
returns-in_ok-self-inside-in-Restart-clause-some c =
    work_some c.self.inside.book c.self.inside.lost c.args.self.now c.self.view_is c.args.s c.take-work.result.0 (work.Restart c.in-Restart.life) c.take-work.new.out c.take-work.result.1 c.take-work.new.self.events c.take-work.ensures.work c.in-Restart.is

pub returns-in-Clock-clause-taken : goal.returns-in-Clock-clause-taken
returns-in-Clock-clause-taken c =
    work_view c.self.inside.book c.self.inside.lost c.args.self.now c.self.view_is c.args.s c.take-work.result.0 c.take-work.new.self c.take-work.new.out c.take-work.result.1 _ c.take-work.ensures.script c.take-work.ensures.work refl

pub returns-in-Clock-clause-some : goal.returns-in-Clock-clause-some
returns-in-Clock-clause-some c =
    work_some c.self.inside.book c.self.inside.lost c.args.self.now c.self.view_is c.args.s c.take-work.result.0 (work.Clock c.in-Clock.now c.in-Clock.samples) c.take-work.new.out c.take-work.result.1 c.take-work.new.self.events c.take-work.ensures.work c.in-Clock.is

pub returns-in-Frame-clause-taken : goal.returns-in-Frame-clause-taken
returns-in-Frame-clause-taken c =
    work_view c.self.inside.book c.self.inside.lost c.args.self.now c.self.view_is c.args.s c.take-work.result.0 c.take-work.new.self c.take-work.new.out c.take-work.result.1 _ c.take-work.ensures.script c.take-work.ensures.work refl

pub returns-in-Frame-clause-some : goal.returns-in-Frame-clause-some
returns-in-Frame-clause-some c =
    work_some c.self.inside.book c.self.inside.lost c.args.self.now c.self.view_is c.args.s c.take-work.result.0 (work.Frame c.in-Frame.port) c.take-work.new.out c.take-work.result.1 c.take-work.new.self.events c.take-work.ensures.work c.in-Frame.is
