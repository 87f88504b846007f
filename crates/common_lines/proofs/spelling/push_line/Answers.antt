use Rattle.std.proofs.Common.{arith}
use Rattle.common_lines.proofs.LineTextLemmas.{line_more}
use Rattle.common_lines.proofs.spelling.push_line.Goals as goal

pub words-preserved : goal.words-preserved
words-preserved c = line_more c.args.words.now c.words.i _ c.args.text.now.items c.words.text.items c.push_space.new.text.items c.extend_from_slice.new.self.items (omega arith) c.words.invariant c.in_ok-push_space.ensures c.in_ok-extend_from_slice.ensures.items
