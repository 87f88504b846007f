use Rattle.std.proofs.Common.{map}
use Rattle.std.proofs.lemmas.Result.{on_ok_weaker}
use Rattle.fabric_print.specs.Answers.{cycle_rows, lost_rows, name_row}
use Rattle.fabric_print.proofs.RowLemmas.{answer_is, same_lines}
use Rattle.fabric_print.proofs.printer.push_answer.Goals as goal

pub returns : goal.returns
returns c = on_ok_weaker c.push_rows.result (λ names. answer_is c.args.answer.now c.args.text.now.items c.push_row.new.text.items c.push_read.new.text.items c.push_judged.new.text.items c.push_routes.new.text.items c.push_channels.new.text.items c.push_cycle.new.text.items c.push_lost.new.text.items c.push_unset.new.text.items c.push_rows.new.text.items c.as_bytes.result.now c.as_bytes.ensures.value
    c.in_ok-push_row.ensures c.in_ok-push_read.ensures c.in_ok-push_judged.ensures c.in_ok-push_routes.ensures c.in_ok-push_channels.ensures (same_lines cycle_rows _ c.args.answer.now.cycle.items _ _ c.deref.ensures.value c.in_ok-push_cycle.ensures) (same_lines (lost_rows c.args.answer.now.losses) _ c.args.answer.now.lost.items _ _ c.deref-2.ensures.value c.in_ok-push_lost.ensures) c.in_ok-push_unset.ensures (same_lines (map name_row) _ c.args.answer.now.names.items _ _ c.deref-3.ensures.value names)) c.push_rows.ensures
