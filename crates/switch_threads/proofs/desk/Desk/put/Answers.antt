-- What came of what was in hand was put.

use Rattle.std.proofs.Common.{◌+◌, ◌++◌, subst}
use Rattle.std.specs.List.{flat_map}
use Rattle.std.specs.Prelude.{option_to_list}
use Rattle.net_world.specs.Accounts.{placed}
use Rattle.net_world.specs.declared.ask.Ask.TheVariants as ask
use Rattle.net_world.specs.declared.ask.Reply.TheVariants as reply
use Rattle.fabric_book.specs.Accounts.{IsAccount, with_lines}
use Rattle.net_world.specs.declared.ask.Parcel.{Parcel}
use Rattle.switch_threads.specs.declared.desk.Pending.TheVariants as pending
use Rattle.switch_threads.proofs.AskLemmas.{put_fit, replies_put}
use Rattle.switch_threads.proofs.StayLemmas.{at_place}
use Rattle.switch_threads.proofs.TurnLemmas.{answered, calls_differ, number_stays, put_keeps, put_note, put_tells, start_stays}
use Rattle.switch_threads.proofs.desk.Desk.put.Goals as goal

pub call-requires-clause-fit : goal.call-requires-clause-fit
call-requires-clause-fit g c =
    let desk = c.args.self.now in
    let step = c.requires.step in
    put_fit c.args.seat.now.1 desk.s desk.power_on desk.switch.value c.args.papers.parcel (at_place c.args.seat.now.1 desk c.args.papers pending.Put step) step.fits.prepared.0 step.fits.prepared.2

pub unreachable-requires : goal.unreachable-requires
unreachable-requires g c =
    let desk = c.args.self.now in
    let step = c.requires.step in
    let view = c.args.seat.now.1 in
    let after = c.call.new.seat.1 in
    let parcel = c.args.papers.parcel in
    let called = c.call.ensures.called in
    replies_put step.script (view.seen ++ called.between) desk.s parcel.value c.call.result after.seen
    (answered view after (ask.Put desk.s parcel) c.call.result called step.script step.begun) c.in_default.not-Put

pub returns-clause-called : goal.returns-clause-called
returns-clause-called g c =
    let desk = c.args.self.now in
    let view = c.args.seat.now.1 in
    let after = c.call.new.seat.1 in
    let parcel = c.args.papers.parcel in
    (c.call.ensures.turnstile, calls_differ view after (ask.Put desk.s parcel) c.call.result (c.call.ensures.called))

pub returns-clause-step : goal.returns-clause-step
returns-clause-step g c =
    let desk = c.args.self.now in
    let step = c.requires.step in
    let view = c.args.seat.now.1 in
    let after = c.call.new.seat.1 in
    let parcel = c.args.papers.parcel in
    let back = c.in-Put.parcel in
    let new = c.tell_handled.new.self.account in
    let place = at_place view desk c.args.papers pending.Put step in
    let called = c.in-Put.ensures.called in
    let asked = ask.Put desk.s parcel in
    let answer = reply.Put back in
    record {
      script = step.script;
      begun = start_stays view after asked answer called step.script step.begun;
      number = number_stays view after asked answer called (desk.s + 1) step.number;
      fits = record {
        keeps_up = put_keeps view after desk.s desk.power_on desk.switch.value parcel back place called;
        prepared = put_note view after desk.s desk.power_on desk.switch.value parcel back place called desk.tale step.fits.prepared;
      };
      told = put_tells view after desk.s desk.power_on desk.switch.value parcel back place called desk.tale step.fits.prepared desk.tale.account new
          (λ told before. subst (λ (p : Parcel). IsAccount (with_lines (placed p.event (desk.tale.lines ++ flat_map option_to_list p.puts.items)) told) new) c.deref.ensures (c.tell_handled.ensures told before))
          step.told;
    }
