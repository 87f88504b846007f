use Rattle.net_game.proofs.MomentLemmas.{good_met}
use Rattle.net_game.proofs.law.a_good_link_leads_to_who_was_there.Goals as goal

pub returns : goal.returns
returns c = good_met
