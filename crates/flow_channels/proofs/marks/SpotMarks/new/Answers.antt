use Rattle.flow_channels.proofs.SpotMarkLemmas.{no_parts, no_spots}
use Rattle.flow_channels.proofs.marks.SpotMarks.new.Goals as goal

pub invariant_of-result : goal.invariant_of-result
invariant_of-result c = no_parts

pub returns : goal.returns
returns c = no_spots
