-- The driver made a step.

use Rattle.std.specs.Prelude.{refl}
use Rattle.std.proofs.Common.{◌∙◌, ◌++◌, ap, subst, sym}
use Rattle.net_state.specs.declared.work.Drive.{Drive}
use Rattle.net_world.specs.declared.ask.Ask.TheVariants as ask
use Rattle.net_world.specs.declared.ask.Slip.{Slip}
use Rattle.switch_threads.specs.Workers.{IsDriving}
use Rattle.switch_threads.proofs.AskLemmas.{drive_fit, replies_drive}
use Rattle.switch_threads.proofs.TurnLemmas.{answered, drive_step, end_after, tells_that}
use Rattle.switch_threads.proofs.driver.Driver.step.Goals as goal

pub call-requires-clause-fit : goal.call-requires-clause-fit
call-requires-clause-fit g c =
    let d = c.self.inside in
    drive_fit d.seat.1 d.end d.account c.in-Some.slip c.self.invariant.0

pub unreachable-requires-in_default-call : goal.unreachable-requires-in_default-call
unreachable-requires-in_default-call g c =
    let d = c.self.inside in
    let is = c.self.invariant.0 in
    let after = c.call.new.seat.1 in
    let called = c.call.ensures.called in
    replies_drive is.script (d.seat.1.seen ++ called.between) c.call.result after.seen (answered d.seat.1 after (ask.Drive c.in-Some.slip) c.call.result called is.script is.begun) c.in_default-call.not-Drive

pub invariant_of-self : goal.invariant_of-self
invariant_of-self g c =
    let d = c.self.inside in
    let after = c.call.new.seat.1 in
    let new = c.tell.new.self in
    let slip = c.in-Drive.slip in (
      subst (λ (did : Drive). IsDriving after (end_after did d.end) new) (ap (λ (s : Slip). s.drive) (sym c.deref-2.ensures) ∙ c.in-Did.is)
          (drive_step d.seat.1 after d.end d.account new c.in-Some.slip slip c.self.invariant.0 c.in-Drive.ensures.called
          (tells_that d.account new c.deref.result.now.told slip.value.told (ap (λ (s : Slip). s.told) c.deref.ensures) c.tell.ensures)),
      refl,
    )

pub invariant_of-self-in-Waits : goal.invariant_of-self-in-Waits
invariant_of-self-in-Waits g c =
    let d = c.self.inside in
    let after = c.call.new.seat.1 in
    let new = c.tell.new.self in
    let slip = c.in-Drive.slip in (
      subst (λ (did : Drive). IsDriving after (end_after did d.end) new) (ap (λ (s : Slip). s.drive) (sym c.deref-2.ensures) ∙ c.in-Waits.is)
          (drive_step d.seat.1 after d.end d.account new c.in-Some.slip slip c.self.invariant.0 c.in-Drive.ensures.called
          (tells_that d.account new c.deref.result.now.told slip.value.told (ap (λ (s : Slip). s.told) c.deref.ensures) c.tell.ensures)),
      refl,
    )

pub invariant_of-self-in-Ended : goal.invariant_of-self-in-Ended
invariant_of-self-in-Ended g c =
    let d = c.self.inside in
    let after = c.call.new.seat.1 in
    let new = c.tell.new.self in
    let slip = c.in-Drive.slip in (
      subst (λ (did : Drive). IsDriving after (end_after did d.end) new) (ap (λ (s : Slip). s.drive) (sym c.deref-2.ensures) ∙ c.in-Ended.is)
          (drive_step d.seat.1 after d.end d.account new c.in-Some.slip slip c.self.invariant.0 c.in-Drive.ensures.called
          (tells_that d.account new c.deref.result.now.told slip.value.told (ap (λ (s : Slip). s.told) c.deref.ensures) c.tell.ensures)),
      refl,
    )
