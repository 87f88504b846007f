use Rattle.table_build.proofs.TreeRoutes.{joined}
use Rattle.table_build.proofs.law.members_are_joined.Goals as goal

pub returns : goal.returns
returns c = λ es x y graph tree low low'. joined es x y graph tree low low'
