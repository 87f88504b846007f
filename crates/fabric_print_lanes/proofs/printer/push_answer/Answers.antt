use Rattle.std.proofs.Common.{map}
use Rattle.std.proofs.lemmas.Result.{on_ok_weaker}
use Rattle.fabric_print.specs.Answers.{cycle_rows_by, name_row}
use Rattle.fabric_print.proofs.RowLemmas.{same_lines}
use Rattle.fabric_print_lanes.specs.LaneAnswers.{lane_channel_row, lane_lost_rows, note_rows}
use Rattle.fabric_print_lanes.proofs.LaneRowLemmas.{answer_is}
use Rattle.fabric_print_lanes.proofs.printer.push_answer.Goals as goal

pub returns : goal.returns
returns c = on_ok_weaker c.push_rows.result (λ names. answer_is c.args.answer.now c.args.text.now.items c.push_row.new.text.items c.push_read.new.text.items c.push_judged.new.text.items c.push_routes.new.text.items c.push_silent.new.text.items c.push_mute.new.text.items c.push_channels.new.text.items c.push_cycle.new.text.items c.push_note.new.text.items c.push_lost.new.text.items c.push_unset.new.text.items c.push_rows.new.text.items c.as_bytes.result.now c.as_bytes.ensures.value
    c.in_ok-push_row.ensures c.in_ok-push_read.ensures c.in_ok-push_judged.ensures c.in_ok-push_routes.ensures c.in_ok-push_silent.ensures c.in_ok-push_mute.ensures c.in_ok-push_channels.ensures (same_lines (cycle_rows_by lane_channel_row) _ c.args.answer.now.cycle.items _ _ c.deref.ensures.value c.in_ok-push_cycle.ensures) (same_lines (note_rows c.args.answer.now.asked.levels) _ c.args.answer.now.cycle.items _ _ c.deref-2.ensures.value c.in_ok-push_note.ensures) (same_lines (lane_lost_rows c.args.answer.now.losses) _ c.args.answer.now.lost.items _ _ c.deref-3.ensures.value c.in_ok-push_lost.ensures) c.in_ok-push_unset.ensures (same_lines (map name_row) _ c.args.answer.now.names.items _ _ c.deref-4.ensures.value names)) c.push_rows.ensures
