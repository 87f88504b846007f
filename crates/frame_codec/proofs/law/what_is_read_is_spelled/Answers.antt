use Rattle.frame_codec.proofs.Decoding.{read_is_spelled}
use Rattle.frame_codec.proofs.law.what_is_read_is_spelled.Goals as goal

pub returns : goal.returns
returns c = read_is_spelled
