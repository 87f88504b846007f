use Rattle.std.proofs.Common.{arith}
use Rattle.net_gen.proofs.CommentLemmas.{comment_is}
use Rattle.net_gen.proofs.summary.push_line.Goals as goal

pub returns-clause-comment : goal.returns-clause-comment
returns-clause-comment c = comment_is c.args.end.now c.args.tally.tick c.args.events c.args.tally.delivered c.args.tally.dropped (omega arith) (omega arith) (omega arith) (omega arith)
