use Rattle.fabric_lane_verdict.proofs.LawLemmas.{depends_more, passes_more, sends_greater}
use Rattle.fabric_lane_verdict.proofs.law.fewer_routes_fewer_lane_dependencies.Goals as goal

pub returns-clause-depends : goal.returns-clause-depends
returns-clause-depends c fabric tables lanes one other levels channel next less depends = depends_more fabric tables lanes one other levels levels
    (sends_greater fabric tables lanes one other levels (λ lid source sends. c.fewer_routes_fewer_dependencies.ensures.sends fabric tables one other lid source less sends)) channel next depends

pub returns-clause-pass : goal.returns-clause-pass
returns-clause-pass c fabric tables lanes one other levels less none arrive = passes_more fabric tables lanes one other levels levels
    (sends_greater fabric tables lanes one other levels (λ lid source sends. c.fewer_routes_fewer_dependencies.ensures.sends fabric tables one other lid source less sends)) none arrive
