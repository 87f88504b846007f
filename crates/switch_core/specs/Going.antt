-- What a switch sends: bodies and acknowledgements of the sessions of its current epoch, probes, and replies to
-- probes.

use Rattle.std.specs.Prelude.{◌≡◌, ℕ, ◌-◌, ◌≤◌, slice_get, Some, true}
use Rattle.an_base.specs.Values.{EndId}
use Rattle.an_base.specs.Frames.{CarryOf}
use Rattle.an_base.specs.declared.frame.Frame.{Frame}
use Rattle.an_base.specs.declared.frame.Frame.TheVariants.{Carry, Ack, Probe, Reply}
use Rattle.ordered_link.specs.Receiving.{last}
use Rattle.port_monitor.specs.Ports.{speaks}
use Rattle.switch_core.specs.Switch.{SwitchOf, end_at, port_of}
use Rattle.switch_core.specs.Steps.{Sent, peer_among}

-- `carry` has the body that was pushed with its number in the session at `port`, and goes from this end to the other
-- end of the port's link
pub record IsCarriedBy (switch : SwitchOf) (port : ℕ) (carry : CarryOf) : Type 0 where
  pub epoch : carry.epoch ≡ switch.epoch
  pub from : carry.from ≡ end_at switch port
  pub to : peer_among switch.card.links port ≡ Some carry.to
  pub least : 1 ≤ carry.number
  pub body : slice_get (switch.sendings port).pushed (carry.number - 1) ≡ Some carry.body

-- an acknowledgement of at most the bodies that were accepted in the session at `port`
pub record IsAckedBy (switch : SwitchOf) (port epoch : ℕ) (from to : EndId) (number : ℕ) : Type 0 where
  pub epoch_is : epoch ≡ switch.epoch
  pub from_is : from ≡ end_at switch port
  pub to_is : peer_among switch.card.links port ≡ Some to
  pub few : number ≤ last (switch.receivings port)

-- the last probe of `port`, which probes its far end
pub record IsProbeBy (switch : SwitchOf) (port : ℕ) (from : EndId) (nonce : ℕ) : Type 0 where
  pub from_is : from ≡ end_at switch port
  pub asks : speaks (port_of switch port).phase ≡ true
  pub last : nonce ≡ (port_of switch port).far.nonce

-- a reply to some probe that came on `port`, which answers probes
pub record IsReplyBy (switch : SwitchOf) (port : ℕ) (from : EndId) : Type 0 where
  pub from_is : from ≡ end_at switch port
  pub answers : speaks (port_of switch port).phase ≡ true

-- the frame can go out on `port`, by its kind
abbrev pub IsFrameOf : SwitchOf → ℕ → Frame → Type 0
IsFrameOf switch port (Carry carry) = IsCarriedBy switch port carry
IsFrameOf switch port (Ack epoch from to number) = IsAckedBy switch port epoch from to number
IsFrameOf switch port (Probe from nonce) = IsProbeBy switch port from nonce
IsFrameOf switch port (Reply from to nonce) = IsReplyBy switch port from

-- `out` goes out on a port that speaks to a switch, and has a frame that can go out there
pub record IsSentBy (switch : SwitchOf) (out : Sent) : Type 0 where
  pub port_speaks : speaks (port_of switch out.port).phase ≡ true
  pub frame : IsFrameOf switch out.port out.frame
