use Rattle.std.proofs.Common.{◌∙◌, ap, sym, List, ◌++◌, append_assoc}
use Rattle.std.specs.List.{flat_map, range_with_len}
use Rattle.fabric_tables.specs.Cells.{tables_of}
use Rattle.fabric_judge_commands.proofs.RankLemmas.{flat_range_more}
use Rattle.fabric_repair_commands.specs.declared.rows.SetRow.{SetRow}
use Rattle.fabric_repair_commands.specs.Repairs.{row_at}
use Rattle.fabric_repair_commands.proofs.rows.push_rows.Goals as goal

pub lids-preserved : goal.lids-preserved
lids-preserved c =
    let rows = row_at c.args.fabric.now (tables_of c.args.given.now) (tables_of c.args.made.now) c.args.switch in
    let old = c.args.rows.now.items in
    c.in_ok-push_row.ensures
    ∙ ap (λ (all : List SetRow). all ++ rows c.lids.lid) c.lids.invariant
    ∙ append_assoc old (flat_map rows (range_with_len 0 c.lids.lid)) (rows c.lids.lid)
    ∙ ap (λ (all : List SetRow). old ++ all) (sym (flat_range_more rows c.lids.lid))
