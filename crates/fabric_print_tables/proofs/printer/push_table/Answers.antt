use Rattle.std.proofs.Common.{◌∙◌, ap, arith, ◌*◌}
use Rattle.fabric_model.specs.Fabric.{switch_with}
use Rattle.fabric_tables.specs.Cells.{tables_of}
use Rattle.fabric_print_tables.proofs.KnownLemmas.{switch_known}
use Rattle.fabric_print_tables.proofs.StepLemmas.{end_printed, head_printed, on_ok}
use Rattle.fabric_print_tables.proofs.printer.push_table.Goals as goal

pub returns : goal.returns
returns c =
    let fabric = c.args.fabric.now in
    let cells = c.args.cells.now in
    let tables = tables_of cells in
    let known = ap (switch_with fabric) c.guid-guid.ensures ∙ switch_known fabric c.args.switch c.requires.fabric c.requires.switch in
    let past = c.push_rows.ensures.past in
    on_ok (λ is had. end_printed fabric tables c.push_rows.new.text.items c.push_end.new.text.items c.args.switch (64 * cells.blocks) c.saturating_sub.result past (omega arith) is
    (c.in_ok-push_rows.ensures.printed fabric (head_printed fabric tables c.args.text.now.items c.push_head.new.text.items c.args.switch c.guid-guid.result (omega arith) known c.in_ok-push_head.ensures had))) c.push_end.result c.push_end.ensures
