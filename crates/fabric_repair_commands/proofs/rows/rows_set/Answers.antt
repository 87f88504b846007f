use Rattle.std.proofs.Common.{◌∙◌, ap, sym, List, ◌++◌}
use Rattle.fabric_tables.specs.Cells.{tables_of}
use Rattle.fabric_judge_commands.proofs.RankLemmas.{flat_range_more}
use Rattle.fabric_repair_commands.specs.declared.rows.SetRow.{SetRow}
use Rattle.fabric_repair_commands.specs.Repairs.{rows_for}
use Rattle.fabric_repair_commands.proofs.rows.rows_set.Goals as goal

pub switches-preserved : goal.switches-preserved
switches-preserved c =
    let rows = rows_for c.args.fabric.now (tables_of c.args.given.now) (tables_of c.args.made.now) in
    c.in_ok-push_rows.ensures
    ∙ ap (λ (all : List SetRow). all ++ rows c.switches.switch) c.switches.invariant
    ∙ sym (flat_range_more rows c.switches.switch)
