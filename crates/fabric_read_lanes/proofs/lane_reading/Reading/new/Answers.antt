use Rattle.fabric_read_lanes.specs.declared.lane_reading.Part.TheVariants.{Start}
use Rattle.fabric_read_lanes.proofs.lane_reading.Reading.new.Goals as goal

pub returns-clause-none : goal.returns-clause-none
returns-clause-none c i = record { part = Start; rows = λ switch entry port. c.in_ok-new.ensures.none switch entry port i }
