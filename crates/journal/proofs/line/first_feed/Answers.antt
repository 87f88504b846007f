use Rattle.common_lines.proofs.LineLemmas.{first_position}
use Rattle.journal.proofs.line.first_feed.Goals as goal

pub returns : goal.returns
returns c = first_position 10 c.args.bytes.now c.memchr.result c.memchr.ensures
