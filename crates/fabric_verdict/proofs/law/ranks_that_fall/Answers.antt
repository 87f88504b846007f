use Rattle.fabric_verdict.proofs.RankLemmas.{none_rises, told_fall}
use Rattle.fabric_verdict.proofs.law.ranks_that_fall.Goals as goal

pub returns-clause-given : goal.returns-clause-given
returns-clause-given c fabric tables traffic ranks = told_fall fabric tables traffic ranks

pub returns-clause-accepted : goal.returns-clause-accepted
returns-clause-accepted c fabric tables traffic ranks found falls is = none_rises fabric tables traffic ranks found.rise falls is.rise
