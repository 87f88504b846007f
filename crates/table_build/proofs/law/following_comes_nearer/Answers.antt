use Rattle.table_build.proofs.WayLaws.{follow_nearer}
use Rattle.table_build.proofs.law.following_comes_nearer.Goals as goal

pub returns : goal.returns
returns c = λ es y x entry z out n ps graph follows shortest. follow_nearer es y x entry z out n ps graph follows shortest
