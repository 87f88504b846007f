use Rattle.switch_game.proofs.Members.{not_behind, present_not_behind}
use Rattle.switch_game.proofs.law.no_member_is_behind.Goals as goal

pub returns-clause-finished : goal.returns-clause-finished
returns-clause-finished c = not_behind

pub returns-clause-present : goal.returns-clause-present
returns-clause-present c = present_not_behind
