use Rattle.fabric_verdict.proofs.TrafficLemmas.{depends_too, passes_too, sends_too}
use Rattle.fabric_verdict.proofs.law.fewer_routes_fewer_dependencies.Goals as goal

pub returns-clause-sends : goal.returns-clause-sends
returns-clause-sends c fabric tables one other lid source low sends = sends_too fabric tables one other low lid source sends

pub returns-clause-depends : goal.returns-clause-depends
returns-clause-depends c fabric tables one other channel next low depends = depends_too fabric tables one other low channel next depends

pub returns-clause-passes : goal.returns-clause-passes
returns-clause-passes c fabric tables one other low none arrive = passes_too fabric tables one other low none arrive
