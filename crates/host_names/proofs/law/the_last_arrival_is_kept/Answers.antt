use Rattle.host_names.proofs.KeptLaws.{kept_is_last, kept_or_full}
use Rattle.host_names.proofs.law.the_last_arrival_is_kept.Goals as goal

pub returns-clause-last : goal.returns-clause-last
returns-clause-last c = kept_is_last

pub returns-clause-all : goal.returns-clause-all
returns-clause-all c = kept_or_full
