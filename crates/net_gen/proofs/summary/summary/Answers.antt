use Rattle.std.proofs.Common.{◌∙◌}
use Rattle.std.proofs.lemmas.Result.{IfOk-weaker}
use Rattle.net_gen.proofs.RunLemmas.{summary_is}
use Rattle.net_gen.proofs.summary.summary.Goals as goal

pub returns-clause-summary : goal.returns-clause-summary
returns-clause-summary c =
    let all = c.in_ok-all.all in
    let kept = c.in_ok-all.ensures in
    IfOk-weaker c.line_of_run.result _ _
    (λ text says. record { history = all.run.journal; end = all.run.end; run = kept.solo; says = says ∙ summary_is c.args.script.now all.run.journal all.run.end all.told all.tick kept.told kept.tick })
    c.line_of_run.ensures.line
