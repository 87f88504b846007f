use Rattle.table_build.proofs.WayLaws.{follow_way}
use Rattle.table_build.proofs.law.following_is_a_way.Goals as goal

pub returns : goal.returns
returns c = λ es any y x entry z out ps graph follows. follow_way es any y x entry z out ps graph follows
