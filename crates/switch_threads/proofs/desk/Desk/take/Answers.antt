-- Work was asked for, and done.

use Rattle.std.proofs.Common.{◌++◌, ap}
use Rattle.net_world.specs.declared.ask.Ask.TheVariants as ask
use Rattle.net_world.specs.declared.ask.Letter.{Letter}
use Rattle.switch_threads.specs.declared.desk.Pending.TheVariants as pending
use Rattle.switch_threads.proofs.AskLemmas.{replies_take, take_fit}
use Rattle.switch_threads.proofs.StayLemmas.{at_place}
use Rattle.switch_threads.proofs.TurnLemmas.{answered, calls_differ, take_step, tells_that}
use Rattle.switch_threads.proofs.desk.Desk.take.Goals as goal

pub call-requires-clause-fit : goal.call-requires-clause-fit
call-requires-clause-fit g c =
    let desk = c.args.self.now in
    let papers = c.args.papers in
    take_fit c.args.seat.now.1 desk.s desk.power_on desk.switch.value papers.letter (at_place c.args.seat.now.1 desk papers pending.Work c.requires.step)

pub unreachable-requires : goal.unreachable-requires
unreachable-requires g c =
    let desk = c.args.self.now in
    let papers = c.args.papers in
    let step = c.requires.step in
    let view = c.args.seat.now.1 in
    let after = c.call.new.seat.1 in
    let called = c.call.ensures.called in
    replies_take step.script (view.seen ++ called.between) desk.s c.call.result after.seen (answered view after (ask.Take desk.s papers.letter) c.call.result called step.script step.begun) c.in_default.not-Take

pub returns-clause-called : goal.returns-clause-called
returns-clause-called g c =
    let desk = c.args.self.now in
    let papers = c.args.papers in
    let view = c.args.seat.now.1 in
    let after = c.call.new.seat.1 in
    (c.call.ensures.turnstile, calls_differ view after (ask.Take desk.s papers.letter) c.call.result (c.call.ensures.called))

pub returns-clause-step : goal.returns-clause-step
returns-clause-step g c =
    let desk = c.args.self.now in
    let papers = c.args.papers in
    let view = c.args.seat.now.1 in
    let after = c.call.new.seat.1 in
    let called = c.in-Take.ensures.called in
    let tale = record desk.tale { account = c.tell.new.self } in
    let took = take_step view after desk papers c.in-Take.letter tale c.requires.pending c.requires.step called
    (tells_that desk.tale.account tale.account c.deref.result.now.told c.in-Take.letter.value.told (ap (λ (l : Letter). l.told) c.deref.ensures) c.tell.ensures) in
    record {
      script = took.script;
      begun = took.begun;
      number = took.number;
      fits = c.after_take-next.ensures took.script after.seen (record desk { tale = tale }) took.fits;
      told = took.told;
    }
