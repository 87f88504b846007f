use Rattle.std.proofs.Common.{◌∙◌, ap, sym, List}
use Rattle.an_base.specs.declared.event.Event.{Event}
use Rattle.net_state.specs.declared.ending.Ending.{Ending}
use Rattle.net_world.proofs.SoloLemmas.{one_run}
use Rattle.net_gen.specs.Summary.{summary_text}
use Rattle.net_gen.proofs.law.one_summary.Goals as goal

pub returns : goal.returns
returns c = λ script text other one two.
    let same = one_run script one.history two.history one.end two.end one.run two.run in
    one.says
    ∙ ap (λ (h : List Event). summary_text script h one.end) same.0
    ∙ ap (λ (end : Ending). summary_text script two.history end) same.1
    ∙ sym two.says
