use Rattle.std.proofs.Common.{map}
use Rattle.std.proofs.lemmas.Result.{on_ok_weaker}
use Rattle.fabric_print.specs.Answers.{name_row}
use Rattle.fabric_print.proofs.RowLemmas.{same_lines}
use Rattle.fabric_between_command.specs.Lines.{loop_rows}
use Rattle.fabric_between_command.proofs.LineLemmas.{between_is}
use Rattle.fabric_between_command.proofs.lines.push_between.Goals as goal

pub returns : goal.returns
returns c = on_ok_weaker c.push_rows.result (λ names. between_is c.args.answer.now c.args.text.now.items c.push_row.new.text.items c.push_read.new.text.items c.push_new.new.text.items c.push_channels.new.text.items c.push_loop.new.text.items c.push_unset.new.text.items c.push_rows.new.text.items
    c.in_ok-push_row.ensures c.in_ok-push_read.ensures c.in_ok-push_new.ensures c.in_ok-push_channels.ensures (same_lines (loop_rows c.args.answer.now.looped) _ c.args.answer.now.cycle.items _ _ c.deref.ensures.value c.in_ok-push_loop.ensures) c.in_ok-push_unset.ensures (same_lines (map name_row) _ c.args.answer.now.names.items _ _ c.deref-2.ensures.value names)) c.push_rows.ensures
