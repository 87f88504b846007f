use Rattle.table_build.proofs.WayLaws.{follow_way}
use Rattle.table_build.proofs.LengthLaws.{follow_comes, follow_done, follow_least, follow_short}
use Rattle.table_build.proofs.law.following_reaches.Goals as goal

pub returns-clause-reached : goal.returns-clause-reached
returns-clause-reached c = λ es any y x z out ps graph tree low low' follows. follow_comes es any x y graph tree low low' z out ps follows

pub returns-clause-ended : goal.returns-clause-ended
returns-clause-ended c = λ es any y x z out ps graph tree low low' follows none. follow_done es any x y graph tree low low' z out ps follows none

pub returns-clause-legal : goal.returns-clause-legal
returns-clause-legal c = λ es any y x out ps graph low follows. (follow_way es any y x 0 y out ps graph follows, follow_short es any y x 0 y out ps graph low follows)

pub returns-clause-shortest : goal.returns-clause-shortest
returns-clause-shortest c = λ es y x out ps graph tree low low' follows. follow_least es x y out ps graph tree low low' follows
