use Rattle.std.proofs.Common.{map}
use Rattle.fabric_print.proofs.RowLemmas.{same_lines}
use Rattle.fabric_repair_commands.specs.Reports.{set_row}
use Rattle.fabric_repair_commands.proofs.ReportLemmas.{report_is}
use Rattle.fabric_repair_commands.proofs.report.print_report.Goals as goal

pub returns : goal.returns
returns c = report_is c.args.report.now c.new-text.result.items c.push_line.new.text.items c.push_repaired.new.text.items c.push_counts.new.text.items c.push_measures.new.text.items c.push_measures-2.new.text.items c.push_better.new.text.items c.push_set.new.text.items c.as_bytes.result.now c.new-text.ensures.items c.as_bytes.ensures c.in_ok-push_line.ensures c.in_ok-push_repaired.ensures c.in_ok-push_counts.ensures c.in_ok-push_measures.ensures c.in_ok-push_measures-2.ensures c.in_ok-push_better.ensures (same_lines (map set_row) _ c.args.report.now.rows.items _ _ c.deref.ensures.value c.in_ok-push_set.ensures)
