use Rattle.std.proofs.Common.{map, subst}
use Rattle.std.proofs.lemmas.Bool.{not-false}
use Rattle.common_graph.proofs.OneAnswer.{no_both}
use Rattle.fabric_routes.specs.Found.{channel_of}
use Rattle.fabric_routes.specs.Routes.{DependsOn}
use Rattle.fabric_verdict.specs.Verdict.{IsVerdict, channel_cmp, spots_in}
use Rattle.fabric_route_command.proofs.route.passes.Goals as goal

pub returns-in-Ranks-clause-no : goal.returns-in-Ranks-clause-no
returns-in-Ranks-clause-no c fabric tables traffic judgement fails none arrive = c.one_answer.ensures.arrive fabric tables traffic arrive (judgement.stops.0 (not-false c.args.judged.now.stops fails))

pub returns-in-Cycle-clause-no : goal.returns-in-Cycle-clause-no
returns-in-Cycle-clause-no c fabric tables traffic judgement fails none arrive =
    let found = subst (IsVerdict fabric tables traffic) c.in-Cycle.is judgement.verdict in
    no_both channel_cmp (DependsOn fabric tables traffic) (map channel_of (spots_in c.in-Cycle.channels.items)) found.least none
