use Rattle.common_lines.proofs.LineLemmas.{first_position}
use Rattle.table_script.proofs.table_words.first_mark.Goals as goal

pub returns : goal.returns
returns c = first_position 35 c.args.line.now c.memchr.result c.memchr.ensures
