use Rattle.report.proofs.BeliefLemmas.{as_many_beliefs, belief_at_send}
use Rattle.report.proofs.law.each_send_is_a_choice.Goals as goal

pub returns-clause-choice : goal.returns-clause-choice
returns-clause-choice c = belief_at_send

pub returns-clause-count : goal.returns-clause-count
returns-clause-count c = as_many_beliefs
