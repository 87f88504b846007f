use Rattle.flow_channels.specs.Sets.{AreInTurn}
use Rattle.flow_channels.proofs.exits.starts_in_turn.Given as goal

-- the starts so far
abbrev pub invariant-spots : goal.invariant-spots
invariant-spots l = AreInTurn l.place l.starts.items
