use Rattle.std.proofs.Common.{sym, subst}
use Rattle.net_script.specs.Scripts.{ScriptOf}
use Rattle.report.specs.Retellings.{IsRetelling}
use Rattle.report.proofs.RetellingLemmas.{retelling_first}
use Rattle.report.proofs.retelling.retold.Goals as goal

pub tell-requires-clause-first : goal.tell-requires-clause-first
tell-requires-clause-first c =
    let new = c.in_ok-retelling.retelling in
    let begun = c.in_ok-retelling.ensures in
    subst (λ (s : ScriptOf). IsRetelling s _ c.args.journal.now new.telling.course new.left.items new.text.items) (sym begun.script)
    (retelling_first c.args.script.now c.args.journal.now c.args.end c.args.accounts.now new.telling.course new.left.items new.text.items begun.come.kept c.requires.legal c.requires.accounts begun.come.course_is begun.left begun.text)
