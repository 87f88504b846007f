use Rattle.journal.proofs.ReadLemmas.{text_parts}
use Rattle.journal.proofs.printer.print.Goals as goal

pub returns : goal.returns
returns c = text_parts c.args.script.now c.args.journal.now c.as_slice-events.result.now c.in_ok-text.text.items c.push_line.new.text.items c.push_events.new.text.items c.push_line-2.new.text.items c.in_ok-text.ensures.items c.in_ok-push_line.ensures c.as_slice-events.ensures c.in_ok-push_events.ensures c.in_ok-push_line-2.ensures
