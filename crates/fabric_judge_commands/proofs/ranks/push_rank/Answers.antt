use Rattle.std.proofs.Common.{arith}
use Rattle.fabric_judge_commands.proofs.RankLemmas.{low_place, some_ports}
use Rattle.fabric_judge_commands.proofs.ranks.push_rank.Goals as goal

pub overflow_cast-place : goal.overflow_cast-place
overflow_cast-place c = let low = low_place c.args.fabric.now c.args.place c.most.ensures.fabric c.requires in omega arith

pub spot_of-spot-requires-clause-some : goal.spot_of-spot-requires-clause-some
spot_of-spot-requires-clause-some c = let some = some_ports c.args.fabric.now c.args.place c.requires in omega (arith, c.most.ensures.most)
