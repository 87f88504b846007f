use Rattle.std.proofs.Common.{◌∙◌, ap, arith, false, get_or, sym, ℕ, ◌+◌}
use Rattle.fabric_repair_commands.proofs.LidLemmas.{new_flagged, old_flagged}
use Rattle.fabric_repair_commands.proofs.rows.flag.Goals as goal

pub returns-then-flags-lid-clause-flagged : goal.returns-then-flags-lid-clause-flagged
returns-then-flags-lid-clause-flagged c rows count had =
    let flags = c.args.flags.now in
    old_flagged rows c.args.row flags count (count + 0) (omega arith) (ap (λ (lid : ℕ). get_or flags lid false) (sym c.from-lid.ensures) ∙ c.if-flags-lid.true) had

pub returns-clause-flagged : goal.returns-clause-flagged
returns-clause-flagged c rows count had = new_flagged rows c.args.row c.args.flags.now count c.from-lid.result c.from-lid.ensures (let size = had.size in omega arith) c.if-flags-lid.false had
