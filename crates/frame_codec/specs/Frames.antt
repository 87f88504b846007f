-- The values that are frames: each number is in its range, and each list in its order.
use Rattle.std.specs.Prelude.{◌≡◌, ◌≢◌, ℕ, ◌<◌, ◌≤◌, ◌^◌, List, length, All}
pub use Rattle.an_base.specs.Values.{IsCounted, IsWithin}
use Rattle.an_base.specs.Values.{LifeId, EndId, Place, PeerAt, EntryOf, PosOf, TopoOf}
use Rattle.an_base.specs.Order.{PortsRise, LivesRise}
use Rattle.an_base.specs.Numbers.{AreNumbers}
use Rattle.an_base.specs.Frames.{CarryOf}
use Rattle.an_base.specs.declared.body.Body.{Body}
use Rattle.an_base.specs.declared.body.Body.TheVariants.{Pos, Answer, Stable, Topo}
use Rattle.an_base.specs.declared.frame.Frame.{Frame}
use Rattle.an_base.specs.declared.frame.Frame.TheVariants.{Carry, Ack, Probe, Reply}
use Rattle.an_base.specs.declared.limits.TheConstants.{PORTS, LAST_PORT, MOST_LEVEL, MOST_NUMBER}
use Rattle.an_base.specs.declared.limits.TheConstants.{MOST_SWITCHES}
use Rattle.frame_codec.specs.Spelling.{spelling}

pub record IsLife (life : LifeId) : Type 0 where
  pub uid : life.uid < 2 ^ 48
  pub boot : IsCounted life.boot

pub record IsEnd (end : EndId) : Type 0 where
  pub life : IsLife end.life
  pub port : IsWithin 1 LAST_PORT end.port

pub record IsPosition (place : Place) : Type 0 where
  pub root : IsLife place.root
  pub level : IsWithin 0 MOST_LEVEL place.level
  pub parent : IsLife place.parent
  pub port : IsWithin 0 LAST_PORT place.port

pub record IsLink (link : PeerAt) : Type 0 where
  pub port : IsWithin 1 LAST_PORT link.port
  pub peer : IsEnd link.peer

-- at most one link for each port, in ascending order of port
pub record AreLinks (links : List PeerAt) : Type 0 where
  pub most : length links ≤ PORTS
  pub each : All IsLink links
  pub rising : PortsRise links

pub record IsEntry (entry : EntryOf) : Type 0 where
  pub life : IsLife entry.life
  pub position : IsPosition entry.position
  pub proposed : IsWithin 1 MOST_NUMBER entry.proposed
  pub links : AreLinks entry.links

-- at least one entry and at most 126, in ascending order of life
pub record AreEntries (entries : List EntryOf) : Type 0 where
  pub count : IsWithin 1 MOST_SWITCHES (length entries)
  pub each : All IsEntry entries
  pub rising : LivesRise entries

pub record IsPos (told : PosOf) : Type 0 where
  pub version : IsCounted told.version
  pub root : IsLife told.root
  pub level : IsWithin 0 MOST_LEVEL told.level

-- entries, and a different number for each
pub record IsTopo (topo : TopoOf) : Type 0 where
  pub entries : AreEntries topo.entries
  pub numbers : AreNumbers topo.numbers
  pub as_many : length topo.entries ≡ length topo.numbers

abbrev pub IsBody : Body → Type 0
IsBody (Pos told) = IsPos told
IsBody (Answer answer) = IsCounted answer.version
IsBody (Stable entries) = AreEntries entries
IsBody (Topo topo) = IsTopo topo

pub record IsCarry (carry : CarryOf) : Type 0 where
  pub epoch : carry.epoch < 2 ^ 64
  pub from : IsEnd carry.from
  pub to : IsEnd carry.to
  pub number : IsCounted carry.number
  pub body : IsBody carry.body

abbrev pub IsFrame : Frame → Type 0
IsFrame (Carry carry) = IsCarry carry
IsFrame (Ack epoch from to accepted) = (epoch < 2 ^ 64) × IsEnd from × IsEnd to × (accepted < 2 ^ 32)
IsFrame (Probe from nonce) = IsEnd from × (nonce < 2 ^ 64)
IsFrame (Reply from to nonce) = IsEnd from × IsEnd to × (nonce < 2 ^ 64)

-- no frame has this encoding
abbrev pub IsNoFrame : List ℕ → Type 0
IsNoFrame bytes = (frame : Frame) → IsFrame frame → spelling frame ≢ bytes
