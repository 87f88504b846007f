use Rattle.std.proofs.Common.{suc, arith}
use Rattle.fabric_verdict.proofs.RankLemmas.{rank_of}
use Rattle.fabric_mixtures.proofs.PacketLemmas.{comes_free, ranks_fall}
use Rattle.fabric_mixtures.proofs.law.some_packet_can_move.Goals as goal

pub returns : goal.returns
returns c fabric old new ranks looked_up room queue channel has mixed some stand full = comes_free fabric old new (rank_of fabric ranks) (ranks_fall fabric old new ranks has) looked_up mixed room queue some stand (suc (rank_of fabric ranks channel)) channel (omega arith) full
