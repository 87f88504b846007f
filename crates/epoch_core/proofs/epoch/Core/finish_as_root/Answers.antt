use Rattle.std.proofs.Common.{◌∙◌, sym, ap, length}
use Rattle.std.specs.Prelude.{is_some}
use Rattle.epoch_core.specs.StandsFor.{CoreOf}
use Rattle.epoch_core.proofs.SettleLemmas.{on_ok_with, finishes_as_root}
use Rattle.switch_numbering.proofs.Differing.{length-numbering}
use Rattle.epoch_core.proofs.epoch.Core.finish_as_root.Goals as goal

pub new-requires : goal.new-requires
new-requires c = sym (ap length c.in_ok-numbers.ensures ∙ length-numbering c.in_ok-entries.entries)

pub returns : goal.returns
returns c =
    on_ok_with c.finish_with.result c.finish_with.ensures.core c.finish_with.ensures.sends
    (λ is passes. finishes_as_root c.args.self.now c.finish_with.new.self c.in_ok-entries.entries c.in_ok-numbers.numbers c.new.result c.args.sends.now c.finish_with.new.sends
    (ap (λ (o : CoreOf). is_some o.finish) (sym c.self.view_is) ∙ sym c.is_some.ensures ∙ c.if-is_some.false)
    c.in_ok-entries.ensures c.in_ok-numbers.ensures c.new.ensures is passes)
