use Rattle.link_settling.proofs.Directions.{all_acknowledged}
use Rattle.link_settling.proofs.session_laws.bodies_are_acknowledged.Goals as goal

pub returns : goal.returns
returns c = all_acknowledged
