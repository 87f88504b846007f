use Rattle.epoch_core.proofs.LawLemmas.{sent-went_out}
use Rattle.epoch_core.proofs.law.what_went_out_was_sent.Goals as goal

pub returns : goal.returns
returns c = sent-went_out
