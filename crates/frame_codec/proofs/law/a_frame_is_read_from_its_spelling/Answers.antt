use Rattle.frame_codec.proofs.Decoding.{frame_again}
use Rattle.frame_codec.proofs.law.a_frame_is_read_from_its_spelling.Goals as goal

pub returns : goal.returns
returns c = frame_again
