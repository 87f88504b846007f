use Rattle.net_game.proofs.LivesLemmas.{lives_few, present}
use Rattle.net_game.proofs.law.a_script_has_few_lives.Goals as goal

pub returns-clause-few : goal.returns-clause-few
returns-clause-few c = lives_few

pub returns-clause-present : goal.returns-clause-present
returns-clause-present c = present
