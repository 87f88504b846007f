use Rattle.fabric_lane_verdict.proofs.LawLemmas.{all_arrive, no_lane_cycle, one_lane}
use Rattle.fabric_lane_verdict.proofs.law.one_lane_suffices.Goals as goal

pub returns-clause-depends : goal.returns-clause-depends
returns-clause-depends c fabric tables lanes traffic levels channel next depends = one_lane fabric tables lanes traffic levels channel next depends

pub returns-clause-cycle : goal.returns-clause-cycle
returns-clause-cycle c fabric tables lanes traffic levels none = no_lane_cycle fabric tables lanes traffic levels none

pub returns-clause-arrive : goal.returns-clause-arrive
returns-clause-arrive c fabric tables lanes traffic levels arrive none = all_arrive fabric tables lanes traffic levels arrive none
