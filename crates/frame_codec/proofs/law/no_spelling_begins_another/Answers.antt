use Rattle.frame_codec.proofs.Decoding.{no_more}
use Rattle.frame_codec.proofs.law.no_spelling_begins_another.Goals as goal

pub returns : goal.returns
returns c = no_more
