use Rattle.fabric_read_lanes.proofs.LevelsLaws.{one_text, one_fault, not_both, either}
use Rattle.fabric_read_lanes.proofs.level_law.text_or_fault.Goals as goal

pub returns-clause-one_text : goal.returns-clause-one_text
returns-clause-one_text c = one_text

pub returns-clause-one_fault : goal.returns-clause-one_fault
returns-clause-one_fault c = one_fault

pub returns-clause-not_both : goal.returns-clause-not_both
returns-clause-not_both c = not_both

pub returns-clause-either : goal.returns-clause-either
returns-clause-either c = either
