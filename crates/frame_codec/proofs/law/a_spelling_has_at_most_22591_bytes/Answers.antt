use Rattle.frame_codec.proofs.Lengths.{spelling_length}
use Rattle.frame_codec.proofs.law.a_spelling_has_at_most_22591_bytes.Goals as goal

pub returns : goal.returns
returns c = spelling_length
