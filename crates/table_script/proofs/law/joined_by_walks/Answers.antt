use Rattle.table_script.proofs.WalkJoined.{joined_by_walks}
use Rattle.table_script.proofs.law.joined_by_walks.Goals as goal

pub returns : goal.returns
returns c = joined_by_walks
