-- What the two ends of a link see of the world: the cut of a history into ticks, for one link.

use Rattle.std.specs.Prelude.{◌≡◌, ◌+◌, ◌==◌, ◌&&◌, ℕ, suc, nat_lt, not, List, [], ◌++◌, Bool, true, false, if◌then◌else◌}
use Rattle.std.specs.List.{list_any}
use Rattle.std.specs.Option.{option_map_or}
use Rattle.an_base.specs.Values.{EndId}
use Rattle.an_base.specs.declared.frame.Frame.{Frame}
use Rattle.an_base.specs.declared.frame.Frame.TheVariants.{Carry, Ack, Probe, Reply}
use Rattle.connectivity.specs.Connections.{is_end, is_same_end}
use Rattle.ordered_link.specs.Receiving.{untouched}
use Rattle.ordered_link.specs.Sending.{unused}
use Rattle.port_monitor.specs.Histories.{History}
use Rattle.frame_codec.specs.Reading.{frame_of}
use Rattle.wire_set.specs.WireState.{place, wire_at, hand_of}
use Rattle.switch_core.specs.Switch.{SwitchOf, end_at, port_of}
use Rattle.switch_core.specs.Steps.{peer_among}
use Rattle.link_settling.specs.Links.{Ticks}
use Rattle.link_settling.specs.Moments.{EndRun, EndView, tick_begins}
use Rattle.link_settling.specs.Directions.{Direction, Starts}
use Rattle.link_settling.specs.Directions as direction
use Rattle.net_state.specs.declared.hand.Hand.{Hand}
use Rattle.net_state.specs.declared.hand.Hand.TheVariants as hand
use Rattle.net_state.specs.Fabric.{FabricOf, station, clock_due_at}
use Rattle.net_world.specs.World.{WorldOf}

-- two ports at the ends of a link: `port` of the switch at index `place`, the near end, and the far one
pub record LinkOf : Type 0 where
  pub place : ℕ
  pub port : ℕ
  pub far_place : ℕ
  pub far_port : ℕ

-- the same link from its other end
abbrev pub turned : LinkOf → LinkOf
turned link =
    record { place = link.far_place; port = link.far_port; far_place = link.place; far_port = link.port }

-- the switch at the near end of a link and the switch at the far end, and these two ends, by their lives
abbrev pub here : WorldOf → LinkOf → SwitchOf
here world link = world.switches link.place

abbrev pub there : WorldOf → LinkOf → SwitchOf
there world link = world.switches link.far_place

abbrev pub end_here : WorldOf → LinkOf → EndId
end_here world link = end_at (here world link) link.port

abbrev pub end_there : WorldOf → LinkOf → EndId
end_there world link = end_at (there world link) link.far_port

-- a frame that came by this port is in hand
abbrev pub came_by : ℕ → Hand → Bool
came_by port hand.Empty = false
came_by port (hand.Clock now samples) = false
came_by port (hand.Frame other) = other == port

-- the bytes under way to a port: those on the wire into it, and those in hand that came by it
abbrev pub under_way_to : FabricOf → ℕ → ℕ → List (List ℕ)
under_way_to fabric at port =
    wire_at fabric.wires (place at port)
    ++ (if came_by port (station fabric at).hand then hand_of fabric.wires at else [])

-- the bytes form a frame of the kind that `test` accepts
abbrev pub is_such : (Frame → Bool) → List ℕ → Bool
is_such test bytes = option_map_or test (frame_of bytes) false

-- some bytes under way to the far end form such a frame
abbrev pub is_some_under_way : (Frame → Bool) → WorldOf → LinkOf → Bool
is_some_under_way test world link =
    list_any (is_such test) (under_way_to world.fabric link.far_place link.far_port)

-- `is_probe` and `is_reply`: a frame is the probe of this number from an end, or the reply to that probe.
-- `is_carry` and `is_ack`: a frame is the body of this number in a session of an epoch, or its acknowledgement.
abbrev pub is_probe : EndId → ℕ → Frame → Bool
is_probe from nonce (Probe sender number) = is_same_end sender from && (number == nonce)
is_probe from nonce other = false

abbrev pub is_reply : EndId → EndId → ℕ → Frame → Bool
is_reply from to nonce (Reply sender asked number) =
    is_same_end sender from && is_same_end asked to && (number == nonce)
is_reply from to nonce other = false

abbrev pub is_carry : ℕ → EndId → EndId → ℕ → Frame → Bool
is_carry epoch from to number (Carry carry) =
    (carry.epoch == epoch) && is_same_end carry.from from && is_same_end carry.to to
    && (carry.number == number)
is_carry epoch from to number other = false

abbrev pub is_ack : ℕ → EndId → EndId → ℕ → Frame → Bool
is_ack epoch from to number (Ack of sender asked acked) =
    (of == epoch) && is_same_end sender from && is_same_end asked to && (acked == number)
is_ack epoch from to number other = false

-- a clock is in hand
abbrev pub is_clock : Hand → Bool
is_clock hand.Empty = false
is_clock (hand.Clock now samples) = true
is_clock (hand.Frame port) = false

-- the switch at index `place` has handled its clock of this tick: the clock is neither due nor in hand
abbrev pub has_clocked : FabricOf → ℕ → Bool
has_clocked fabric place = not (clock_due_at fabric place) && not (is_clock (station fabric place).hand)

-- the number of the last probe of this end
abbrev pub nonce_here : WorldOf → LinkOf → ℕ
nonce_here world link = (port_of (here world link) link.port).far.nonce

-- what this end sees of the tick
abbrev pub view : WorldOf → LinkOf → EndView
view world link = record {
  here = (here world link).ports link.port;
  there = (there world link).ports link.far_port;
  has_clocked = has_clocked world.fabric link.place;
  far_has_clocked = has_clocked world.fabric link.far_place;
  probe = is_some_under_way (is_probe (end_here world link) (nonce_here world link)) world link;
  reply =
      is_some_under_way (is_reply (end_there world link) (end_here world link) (nonce_here world link)) world
      (turned link);
}

-- this end has a session with the far end, as it is now
abbrev pub is_session : WorldOf → LinkOf → Bool
is_session world link = is_end (peer_among (here world link).card.links link.port) (end_there world link)

-- what the far end received counts in its session with this end, if the far end is not in a lower epoch
abbrev pub is_received_here : WorldOf → LinkOf → Bool
is_received_here world link =
    is_session world (turned link) && not (nat_lt (there world link).epoch (here world link).epoch)

-- the direction from this end to the far one: what is sent, received and under way in their session; `late` is
-- 3 once this end has handled its clock of this tick
abbrev pub way : WorldOf → LinkOf → Direction
way world link = record {
  now = world.fabric.tick;
  late = if has_clocked world.fabric link.place then 3 else 4;
  epoch = (here world link).epoch;
  far_epoch = (there world link).epoch;
  sending = if is_session world link then (here world link).sendings link.port else unused;
  receiving = if is_received_here world link then (there world link).receivings link.far_port else untouched;
  carry = λ number.
      is_some_under_way
      (is_carry (here world link).epoch (end_here world link) (end_there world link) number)
      world link;
  ack = λ number.
      is_some_under_way
      (is_ack (here world link).epoch (end_there world link) (end_here world link) number) world
      (turned link);
}

-- The cut: `ticks` ticks have ended after the tick `last`, in each of which both ends did what a tick without a
-- loss requires; so far they also do in the tick under way.
pub record IsCut (last : ℕ) (world : WorldOf) (link : LinkOf) : Type 0 where
  pub ticks : ℕ
  pub at_here : History
  pub at_there : History
  pub time : world.fabric.tick ≡ last + suc ticks
  pub before : Ticks (end_here world link) (end_there world link) ticks at_here at_there
  pub run_here :
      EndRun (end_here world link) (end_there world link) (tick_begins at_here at_there) (view world link)
  pub run_there :
      EndRun (end_there world link) (end_here world link) (tick_begins at_there at_here)
      (view world (turned link))

-- Since the two lives began, what was sent from here to there was a run of this direction.
pub record IsRun (base : ℕ) (world : WorldOf) (link : LinkOf) : Type 0 where
  pub first : Direction
  pub starts : Starts first
  pub run : direction.Run base first (way world link)
