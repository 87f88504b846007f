use Rattle.std.proofs.Common.{sym, subst, ℕ, arith}
use Rattle.std.proofs.lemmas.List.{length_push}
use Rattle.journal.specs.Ready.{AreLinesOf}
use Rattle.journal.proofs.ReadyLemmas.{each_more}
use Rattle.journal.proofs.printer.ready_lines.Goals as goal

pub switches-preserved : goal.switches-preserved
switches-preserved c =
    let script = c.args.script.now in
    let ready = c.switches.ready.items in
    let lines = c.in_ok-lines.lines in
    let count = c.switches.invariant.0 in
    let more = length_push ready lines in
    let last = subst (λ (node : ℕ). AreLinesOf script node lines) (sym count) c.in_ok-lines.ensures in
    rw c.in_ok-push.ensures.items (omega arith, each_more (AreLinesOf script) ready lines c.switches.invariant.1 last)
