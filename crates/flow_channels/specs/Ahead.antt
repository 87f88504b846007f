-- What the first packet of a channel does at the far side.
use Rattle.std.specs.Prelude.{◌==◌, Option, Some, None, if◌then◌else◌}
use Rattle.dep_check.specs.declared.channel.Channel.{Channel}
use Rattle.flow_channels.specs.declared.board.Ahead.{Ahead}
use Rattle.flow_channels.specs.declared.board.Ahead.TheVariants.{Rests, Arrives, Asks}
use Rattle.flow_channels.specs.Flows.{PacketOf}

-- what the first packet does, if there are a far side and a first packet: it arrives if the far side is its target,
-- otherwise it asks there
abbrev pub ahead_of : Option Channel → Option PacketOf → Ahead
ahead_of None first = Rests
ahead_of (Some end) None = Rests
ahead_of (Some end) (Some packet) = if end.at == packet.to then Arrives else Asks end

-- the far side, if the packet asks there
abbrev pub asks_of : Ahead → Option Channel
asks_of Rests = None
asks_of Arrives = None
asks_of (Asks end) = Some end
