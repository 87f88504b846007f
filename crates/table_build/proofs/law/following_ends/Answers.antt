use Rattle.table_build.proofs.LengthLaws.{follow_short}
use Rattle.table_build.proofs.law.following_ends.Goals as goal

pub returns : goal.returns
returns c = λ es any y x entry z out ps graph low follows. follow_short es any y x entry z out ps graph low follows
