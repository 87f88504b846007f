use Rattle.flood_text.proofs.FloodLaws.{told_reaches_all}
use Rattle.flood_text.proofs.law.each_member_gets_one_copy.Goals as goal

pub returns : goal.returns
returns c = told_reaches_all
