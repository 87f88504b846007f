use Rattle.std.proofs.Common.{rules, ◌∙◌, ap, refl, true, false, Err}
use Rattle.switch_c.specs.Calls.{BringsNone, KeepsCount, samples_of}
use Rattle.switch_c.proofs.ClockLemmas.{clock_taken}
use Rattle.switch_c.proofs.instance.Instance.clock.Goals as goal

pub returns-in-Ok : goal.returns-in-Ok
returns-in-Ok c = record {
  over = search rules;
  taken = search rules;
  done = λ _. clock_taken BringsNone c.args.now c.samples_of.result (samples_of c.args.up c.args.hosts) false c.args.self.now (record { switch = c.clock.new.self; out = c.clock.new.out; given = 0; loaded = c.args.self.now.loaded; lost = c.args.self.now.lost }) c.samples_of.ensures c.in-Ok.ensures.ok refl c.clock.ensures.start c.clock.ensures.works c.in-Ok.ensures.carried refl (c.is_over.ensures.lost c.if-is_over.false);
  spent = search rules;
  lost = search rules;
}

pub returns-in-Err-EpochsSpent : goal.returns-in-Err-EpochsSpent
returns-in-Err-EpochsSpent c = record {
  over = search rules;
  taken = search rules;
  done = search rules;
  spent = λ _. clock_taken KeepsCount c.args.now c.samples_of.result (samples_of c.args.up c.args.hosts) true c.args.self.now (record { switch = c.clock.new.self; out = c.clock.new.out; given = 0; loaded = c.args.self.now.loaded; lost = c.args.self.now.lost }) c.samples_of.ensures (λ switch stands. c.clock.ensures.spent switch stands (c.in-Err-EpochsSpent.is ∙ ap Err c.in-Err-EpochsSpent.field-0-is)) refl c.clock.ensures.start c.clock.ensures.works (c.clock.ensures.none_more (c.in-Err-EpochsSpent.is ∙ ap Err c.in-Err-EpochsSpent.field-0-is)) refl (c.is_over.ensures.lost c.if-is_over.false);
  lost = search rules;
}
