use Rattle.fabric_verdict.proofs.ArriveLemmas.{arrive_soon}
use Rattle.fabric_verdict.proofs.RankLemmas.{rank_of, ranks_fall, ranks_low}
use Rattle.fabric_verdict.proofs.law.routes_arrive_soon.Goals as goal

pub returns : goal.returns
returns c fabric tables traffic ranks most lid source has low kept sends = arrive_soon fabric tables traffic (rank_of fabric ranks) (ranks_fall fabric tables traffic ranks has) kept most (ranks_low fabric ranks most low) lid source sends
