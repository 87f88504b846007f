use Rattle.fabric_lane_tables.specs.PathLevels.{told_levels}
use Rattle.fabric_lane_tables.proofs.InUseLemmas.{filled_given}
use Rattle.fabric_lane_tables.proofs.in_use.given_by.Goals as goal

pub returns-in-Some-clause-given : goal.returns-in-Some-clause-given
returns-in-Some-clause-given c = rw c.in-Some.is (filled_given (told_levels c.args.told) c.in-Some.level (rw c.in-Some.is at c.requires))
