use Rattle.fabric_lane_verdict.specs.LaneVerdict.{any_level}
use Rattle.fabric_lane_verdict.proofs.LawLemmas.{among_any, depends_more, passes_more, sends_among}
use Rattle.fabric_lane_verdict.proofs.law.more_levels_more_dependencies.Goals as goal

pub returns-clause-depends : goal.returns-clause-depends
returns-clause-depends c fabric tables lanes traffic levels others channel next among depends = depends_more fabric tables lanes traffic traffic levels others (sends_among fabric tables lanes traffic levels others among) channel next depends

pub returns-clause-pass : goal.returns-clause-pass
returns-clause-pass c fabric tables lanes traffic levels others among none arrive = passes_more fabric tables lanes traffic traffic levels others (sends_among fabric tables lanes traffic levels others among) none arrive

pub returns-clause-any : goal.returns-clause-any
returns-clause-any c fabric tables lanes traffic levels none arrive = passes_more fabric tables lanes traffic traffic levels any_level (sends_among fabric tables lanes traffic levels any_level (among_any levels)) none arrive
