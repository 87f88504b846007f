use Rattle.table_build.proofs.LengthLaws.{follow_exit}
use Rattle.table_build.proofs.law.following_goes_on.Goals as goal

pub returns : goal.returns
returns c = λ es any y x z out ps graph tree low low' follows other. follow_exit es any y x z out ps graph tree low low' follows other
