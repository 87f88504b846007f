use Rattle.table_build.proofs.WayLaws.{stays_down}
use Rattle.table_build.proofs.law.down_stays_down.Goals as goal

pub returns : goal.returns
returns c = λ es any x y p z q graph begins e. stays_down es any x y p z q graph begins e
