use Rattle.std.proofs.Common.{suc, arith}
use Rattle.fabric_verdict.proofs.PacketLemmas.{comes_free}
use Rattle.fabric_verdict.proofs.RankLemmas.{rank_of, ranks_fall}
use Rattle.fabric_verdict.proofs.law.some_packet_can_move.Goals as goal

pub returns : goal.returns
returns c fabric tables traffic ranks room queue channel has some stand full = comes_free fabric tables traffic (rank_of fabric ranks) (ranks_fall fabric tables traffic ranks has) room queue some stand (suc (rank_of fabric ranks channel)) channel (omega arith) full
