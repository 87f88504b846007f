use Rattle.std.proofs.Common.{◌∙◌, arith}
use Rattle.fabric_read_ranks.proofs.RankLemmas.{by_four, by_two}
use Rattle.fabric_read_ranks.proofs.line.said_by.Goals as goal

pub returns-in-len2 : goal.returns-in-len2
returns-in-len2 c = c.said_by_two.ensures ∙ by_two c.args.words.now _ (omega (arith, c.in-len2.len_at_least, c.in-len2.len_below))

pub returns-in-len4 : goal.returns-in-len4
returns-in-len4 c = c.said_by_four.ensures ∙ by_four c.args.words.now _ (omega (arith, c.in-len4.len_at_least, c.in-len4.len_below))
