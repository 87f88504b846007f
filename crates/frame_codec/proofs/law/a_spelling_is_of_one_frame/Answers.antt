use Rattle.frame_codec.proofs.Decoding.{one_frame}
use Rattle.frame_codec.proofs.law.a_spelling_is_of_one_frame.Goals as goal

pub returns : goal.returns
returns c = one_frame
