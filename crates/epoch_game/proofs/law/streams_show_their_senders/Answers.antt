use Rattle.epoch_game.proofs.StreamLemmas.{has_streams}
use Rattle.epoch_game.proofs.law.streams_show_their_senders.Goals as goal

pub returns : goal.returns
returns c = has_streams
