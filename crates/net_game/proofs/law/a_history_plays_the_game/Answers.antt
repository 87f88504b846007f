use Rattle.net_game.proofs.PlayLemmas.{history_plays, history_goes_on, history_agrees}
use Rattle.net_game.proofs.GoneLemmas.{gone_rests}
use Rattle.net_game.proofs.law.a_history_plays_the_game.Goals as goal

pub returns-clause-run : goal.returns-clause-run
returns-clause-run c = history_plays

pub returns-clause-later : goal.returns-clause-later
returns-clause-later c = history_goes_on

pub returns-clause-agrees : goal.returns-clause-agrees
returns-clause-agrees c = history_agrees

pub returns-clause-gone : goal.returns-clause-gone
returns-clause-gone c = gone_rests
