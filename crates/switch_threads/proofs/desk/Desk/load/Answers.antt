-- A table was to be loaded, and was or not.

use Rattle.std.specs.Prelude.{refl}
use Rattle.std.specs.Box.{with_value}
use Rattle.std.proofs.Common.{◌∙◌, ◌+◌, ◌++◌, List, ap, subst, sym}
use Rattle.an_base.specs.Rows.{RowOf}
use Rattle.net_state.specs.Lawful.{is_barred}
use Rattle.net_world.specs.World.{world_after}
use Rattle.net_world.specs.declared.ask.Ask.TheVariants as ask
use Rattle.net_world.specs.declared.ask.Reply.TheVariants as reply
use Rattle.fabric_book.specs.Accounts.{IsAccount, with_load}
use Rattle.net_world.specs.declared.ask.Parcel.{Parcel}
use Rattle.switch_threads.specs.Workers.{IsUpTo}
use Rattle.switch_threads.specs.declared.desk.Pending.TheVariants as pending
use Rattle.switch_threads.proofs.AskLemmas.{load_fit, replies_load}
use Rattle.switch_threads.proofs.StayLemmas.{at_place}
use Rattle.switch_threads.proofs.TurnLemmas.{answered, calls_differ, load_keeps, load_prepared, load_tells, number_stays, start_stays, written_on}
use Rattle.switch_threads.proofs.desk.Desk.load.Goals as goal

pub call-requires-clause-fit : goal.call-requires-clause-fit
call-requires-clause-fit g c =
    let desk = c.args.self.now in
    let view = c.args.seat.now.1 in
    let now = c.deref_mut.result.now in
    let step = written_on view desk c.args.papers c.args.sheet now c.deref_mut.ensures.value c.requires.step in
    let sheet = with_value c.args.sheet now in
    let given = with_value c.args.sheet (record now { note = c.write_note.new.to }) in
    load_fit view desk.s desk.power_on desk.switch.value sheet given (at_place view desk c.args.papers (pending.Load sheet) step) refl
    (c.write_note.ensures ∙ ap (λ (p : Parcel). p.done.note) c.deref.ensures ∙ step.fits.prepared.0)

pub unreachable-requires : goal.unreachable-requires
unreachable-requires g c =
    let desk = c.args.self.now in
    let view = c.args.seat.now.1 in
    let now = c.deref_mut.result.now in
    let step = written_on view desk c.args.papers c.args.sheet now c.deref_mut.ensures.value c.requires.step in
    let after = c.call.new.seat.1 in
    let given = with_value c.args.sheet (record now { note = c.write_note.new.to }) in
    let called = c.call.ensures.called in
    replies_load (is_barred (world_after step.script (view.seen ++ called.between)).fabric) step.script (view.seen ++ called.between) desk.s given c.call.result after.seen
    (answered view after (ask.Load desk.s given) c.call.result called step.script step.begun) c.in_default.not-Loaded c.in_default.not-NotNow

pub returns-in-Loaded-clause-called : goal.returns-in-Loaded-clause-called
returns-in-Loaded-clause-called g c =
    let view = c.args.seat.now.1 in
    let after = c.call.new.seat.1 in
    let given = with_value c.args.sheet (record c.deref_mut.result.now { note = c.write_note.new.to }) in
    (c.call.ensures.turnstile, calls_differ view after (ask.Load c.args.self.now.s given) c.call.result c.call.ensures.called)

pub returns-in-Loaded-clause-step : goal.returns-in-Loaded-clause-step
returns-in-Loaded-clause-step g c =
    let desk = c.args.self.now in
    let view = c.args.seat.now.1 in
    let now = c.deref_mut.result.now in
    let step = written_on view desk c.args.papers c.args.sheet now c.deref_mut.ensures.value c.requires.step in
    let after = c.call.new.seat.1 in
    let sheet = with_value c.args.sheet now in
    let given = with_value c.args.sheet (record now { note = c.write_note.new.to }) in
    let answer = reply.Loaded c.in-Loaded.told in
    let new = c.tell_load.new.self.account in
    let place = at_place view desk c.args.papers (pending.Load sheet) step in
    let called = c.in-Loaded.ensures.called in
    record {
      script = step.script;
      begun = start_stays view after (ask.Load desk.s given) answer called step.script step.begun;
      number = number_stays view after (ask.Load desk.s given) answer called (desk.s + 1) step.number;
      fits = subst (IsUpTo step.script after.seen _ _) (sym c.requires.pending) (record {
        keeps_up = load_keeps view after desk.s desk.power_on desk.switch.value sheet given answer refl place called pending.Work refl;
        prepared = load_prepared view after desk.s desk.power_on desk.switch.value sheet given answer refl place called c.args.papers.parcel.value desk.tale step.fits.prepared pending.Work refl;
      });
      told = load_tells view after desk.s desk.power_on desk.switch.value sheet given answer refl place called desk.tale.account new
          (λ told before. subst (λ (rows : List RowOf). IsAccount (with_load c.in-Loaded.told rows told) new) step.fits.prepared.1 (c.tell_load.ensures told before)) step.told;
    }

pub returns-in-NotNow-clause-called : goal.returns-in-NotNow-clause-called
returns-in-NotNow-clause-called g c =
    let view = c.args.seat.now.1 in
    let after = c.call.new.seat.1 in
    let given = with_value c.args.sheet (record c.deref_mut.result.now { note = c.write_note.new.to }) in
    (c.call.ensures.turnstile, calls_differ view after (ask.Load c.args.self.now.s given) c.call.result c.call.ensures.called)

pub returns-in-NotNow-clause-step : goal.returns-in-NotNow-clause-step
returns-in-NotNow-clause-step g c =
    let desk = c.args.self.now in
    let view = c.args.seat.now.1 in
    let now = c.deref_mut.result.now in
    let step = written_on view desk c.args.papers c.args.sheet now c.deref_mut.ensures.value c.requires.step in
    let after = c.call.new.seat.1 in
    let sheet = with_value c.args.sheet now in
    let given = with_value c.args.sheet (record now { note = c.write_note.new.to }) in
    let back = c.in-NotNow.sheet in
    let answer = reply.NotNow back in
    let place = at_place view desk c.args.papers (pending.Load sheet) step in
    let called = c.in-NotNow.ensures.called in
    record {
      script = step.script;
      begun = start_stays view after (ask.Load desk.s given) answer called step.script step.begun;
      number = number_stays view after (ask.Load desk.s given) answer called (desk.s + 1) step.number;
      fits = record {
        keeps_up = load_keeps view after desk.s desk.power_on desk.switch.value sheet given answer refl place called (pending.Load back) refl;
        prepared = load_prepared view after desk.s desk.power_on desk.switch.value sheet given answer refl place called c.args.papers.parcel.value desk.tale step.fits.prepared (pending.Load back) refl;
      };
      told = load_tells view after desk.s desk.power_on desk.switch.value sheet given answer refl place called desk.tale.account desk.tale.account (λ told before. before) step.told;
    }
