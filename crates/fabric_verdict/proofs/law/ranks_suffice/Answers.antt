use Rattle.common_graph.proofs.RankLemmas.{fall_no_cycle}
use Rattle.fabric_routes.specs.Routes.{DependsOn}
use Rattle.fabric_verdict.proofs.law.ranks_suffice.Goals as goal

pub returns : goal.returns
returns c fabric tables traffic rank fall = fall_no_cycle (DependsOn fabric tables traffic) rank fall
