use Rattle.table_build.proofs.WayLaws.{nearer}
use Rattle.table_build.proofs.law.exits_are_nearer.Goals as goal

pub returns : goal.returns
returns c = λ es up x y p z q n graph begins e shortest. nearer es up x y p z q n graph begins e shortest
