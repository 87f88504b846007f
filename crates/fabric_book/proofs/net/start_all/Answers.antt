-- One more switch is started.

use Rattle.std.proofs.Common.{◌≡◌, ◌∙◌, ap, arith, length, slice_index_or, subst}
use Rattle.std.proofs.lemmas.List.{length_push}
use Rattle.an_base.specs.Values.{LifeId}
use Rattle.switch_core.specs.Kept.{KeptOf}
use Rattle.fabric_book.specs.Nets.{IsStarted, start_with}
use Rattle.fabric_book.proofs.StartLemmas.{started_more}
use Rattle.fabric_book.proofs.net.start_all.Goals as goal

pub switches-preserved : goal.switches-preserved
switches-preserved c =
    let old = c.switches.switches.items in
    let one = c.in_ok-start.field-0 in
    let from = c.index-powers-from.result in
    let items = ap (length {A = KeptOf}) c.in_ok-push.ensures.items in
    let more = length_push c.switches.switches.items c.in_ok-start.field-0 in
    let begun = subst (λ (life : LifeId). IsStarted (start_with c.index-powers-from.result life) c.in_ok-start.field-0) c.life.ensures c.in_ok-start.ensures in (
      omega (arith, items, more, c.switches.invariant.0),
      started_more c.args.powers.now c.args.wiring.now c.switches.s old c.push.new.self.items from one (omega (arith, c.count-count.ensures.count)) c.switches.invariant.0
          (c.index-powers-from.is ∙ ap (λ k. slice_index_or c.args.powers.now k from) c.from-in-switches.ensures) begun c.in_ok-push.ensures.items c.switches.invariant.1,
    )

pub returns : goal.returns
returns c =
    let all : c.switches.s ≡ length c.args.wiring.now.switches = omega (arith, c.count-count.ensures.count) in
    record { count = c.switches.invariant.0 ∙ all; each = λ place below. c.switches.invariant.1 place (omega (arith, below, all)) }
