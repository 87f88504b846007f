use Rattle.frame_region.proofs.PieceLemmas.{pieces_join}
use Rattle.frame_region.proofs.law.pieces_are_the_bytes.Goals as goal

pub returns : goal.returns
returns c = pieces_join
