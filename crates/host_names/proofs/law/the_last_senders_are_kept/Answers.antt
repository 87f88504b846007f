use Rattle.host_names.proofs.KeptLaws.{after_is_kept}
use Rattle.host_names.proofs.law.the_last_senders_are_kept.Goals as goal

pub returns : goal.returns
returns c = after_is_kept
