use Rattle.flood_text.proofs.FloodLaws.{one_flood_text}
use Rattle.flood_text.proofs.law.one_flood_text.Goals as goal

pub returns : goal.returns
returns c = one_flood_text
