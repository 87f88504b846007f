use Rattle.table_build.proofs.WayLaws.{shortest_exit}
use Rattle.table_build.proofs.law.a_shortest_way_has_an_exit.Goals as goal

pub returns : goal.returns
returns c = λ es any up x y n other shortest. shortest_exit es any up x y n other shortest
