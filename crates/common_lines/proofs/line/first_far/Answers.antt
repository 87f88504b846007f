use Rattle.common_lines.proofs.LineLemmas.{first_position}
use Rattle.common_lines.proofs.line.first_far.Goals as goal

pub returns : goal.returns
returns c = first_position c.args.byte c.args.bytes.now c.memchr.result c.memchr.ensures
