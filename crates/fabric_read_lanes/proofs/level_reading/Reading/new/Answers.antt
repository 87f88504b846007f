use Rattle.fabric_read_lanes.specs.declared.level_reading.Part.TheVariants.{Start}
use Rattle.fabric_read_lanes.proofs.level_reading.Reading.new.Goals as goal

pub returns-clause-none : goal.returns-clause-none
returns-clause-none c i = record { part = Start; levels = λ source lid. c.in_ok-new.ensures.none source lid i }
