use Rattle.row_text.proofs.RowLemmas.{row_pieces}
use Rattle.row_text.proofs.row.push_row_line.Goals as goal

pub returns : goal.returns
returns c = row_pieces c.args.script.now c.args.life c.args.rows.now c.args.entry c.args.text.now.items c.extend_from_slice.new.self.items c.push_life.new.text.items c.extend_from_slice-2.new.self.items c.push.new.text.items c.push_rows.new.text.items c.extend_from_slice-3.new.self.items c.in_ok-extend_from_slice.ensures.items c.in_ok-push_life.ensures c.in_ok-extend_from_slice-2.ensures.items c.in_ok-push.ensures c.in_ok-push_rows.ensures c.in_ok-extend_from_slice-3.ensures.items
