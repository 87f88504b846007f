use Rattle.std.proofs.Common.{◌≡◌, ◌∙◌, ◌+◌, arith, sym, subst, suc, true, false}
use Rattle.std.proofs.lemmas.Bool.{false≢true}
use Rattle.switch_core.specs.Steps.{Step, all_resent, joins, sampled_by}
use Rattle.switch_core.specs.Stands.{Does, Done, Stands, probed}
use Rattle.switch_core.proofs.ChangeLemmas.{change_told, changed, spent_now, stands_spent, unchanged}
use Rattle.switch_core.proofs.SpentLemmas.{clock_spends}
use Rattle.switch_core.proofs.StandsLemmas.{does_then}
use Rattle.switch_core.proofs.control.Control.clock.Goals as goal

pub returns-then-not-is_change_due-clause-clocks : goal.returns-then-not-is_change_due-clause-clocks
returns-then-not-is_change_due-clause-clocks c s stands =
    let old = c.args.self.now in
    let middle = c.sample.new.self in
    let next = sampled_by c.args.now c.args.samples.now s in
    let told = change_told old middle c.args.now c.args.samples.now s c.good_links-before.result c.is_change_due.result stands c.good_links-before.ensures c.is_change_due.ensures (c.in_ok-sample.ensures s stands).0 in
    let step = unchanged s next (sym told ∙ c.if-not-is_change_due.true) in
    let done = subst (λ step. Done c.resend_all.new.self c.args.out.now c.resend_all.new.out step) (sym step.1)
    (does_then (probed c.args.now c.args.samples.now) (λ s. all_resent s.card.links s) old middle c.resend_all.new.self c.args.out.now c.sample.new.out c.resend_all.new.out c.in_ok-sample.ensures c.in_ok-resend_all.ensures s stands) in
    record { spends = sym step.0; stands = done.0; out = λ no. done.1 }

pub returns-then-self-clause-clocks : goal.returns-then-self-clause-clocks
returns-then-self-clause-clocks c s stands =
    let middle = c.sample.new.self in
    let next = sampled_by c.args.now c.args.samples.now s in
    let is = (c.in_ok-sample.ensures s stands).0 in
    let told = change_told c.args.self.now middle c.args.now c.args.samples.now s c.good_links-before.result c.is_change_due.result stands c.good_links-before.ensures c.is_change_due.ensures is in
    let step = spent_now s next (sym told ∙ c.if-not-is_change_due.false) (sym is.epoch ∙ c.if-self.true) in
    record {
      spends = sym step.0;
      stands = subst (λ (step : Step). Stands (record middle { spent = true }) step.switch) (sym step.1) (stands_spent middle next is);
      out = λ no. absurd (false≢true (sym no));
    }

pub returns-clause-clocks : goal.returns-clause-clocks
returns-clause-clocks c s stands =
    let old = c.args.self.now in
    let middle = c.sample.new.self in
    let next = sampled_by c.args.now c.args.samples.now s in
    let is = (c.in_ok-sample.ensures s stands).0 in
    let told = change_told old middle c.args.now c.args.samples.now s c.good_links-before.result c.is_change_due.result stands c.good_links-before.ensures c.is_change_due.ensures is in
    let step = changed s next (sym told ∙ c.if-not-is_change_due.false) (λ same. c.if-self.false (is.epoch ∙ same)) in
    let join : Does (λ s. joins (suc s.epoch) s) middle c.join.new.self c.sample.new.out c.join.new.out = λ t stands_now.
    let e : middle.epoch + 1 ≡ suc t.epoch = omega (arith, stands_now.epoch) in
    subst (λ n. Done c.join.new.self c.sample.new.out c.join.new.out (joins n t)) e (c.in_ok-join.ensures t stands_now) in
    let done = subst (λ step. Done c.join.new.self c.args.out.now c.join.new.out step) (sym step.1)
    (does_then (probed c.args.now c.args.samples.now) (λ s. joins (suc s.epoch) s) old middle c.join.new.self c.args.out.now c.sample.new.out c.join.new.out c.in_ok-sample.ensures join s stands) in
    record { spends = sym step.0; stands = done.0; out = λ no. done.1 }

pub returns-then-not-is_change_due-clause-spent : goal.returns-then-not-is_change_due-clause-spent
returns-then-not-is_change_due-clause-spent c = clock_spends c.args.now c.args.samples.now c.args.self.now c.resend_all.new.self c.args.out.now c.resend_all.new.out false c.requires.room (returns-then-not-is_change_due-clause-clocks c)

pub returns-clause-spent : goal.returns-clause-spent
returns-clause-spent c = clock_spends c.args.now c.args.samples.now c.args.self.now c.join.new.self c.args.out.now c.join.new.out false c.requires.room (returns-clause-clocks c)
