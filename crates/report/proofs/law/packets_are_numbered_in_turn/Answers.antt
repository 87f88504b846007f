use Rattle.report.proofs.BeliefLemmas.{sent_in_turn}
use Rattle.report.proofs.law.packets_are_numbered_in_turn.Goals as goal

pub returns : goal.returns
returns c = sent_in_turn
