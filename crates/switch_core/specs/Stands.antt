-- What is kept of a switch represents its history, and the effects of the parts of its code.

use Rattle.std.specs.Prelude.{◌≡◌, ℕ, ◌+◌, ◌^◌, ◌<◌, ◌≤◌, List, [], ◌∷◌, ◌++◌, length, map, Option, Some, None, is_some, drop, Bool, true, false}
use Rattle.an_base.specs.Values.{EndId}
use Rattle.an_base.specs.declared.body.Body.{Body}
use Rattle.an_base.specs.declared.port.Sample.{Sample}
use Rattle.an_base.specs.declared.limits.TheConstants.{MOST_NUMBER}
use Rattle.port_monitor.specs.Histories.{IsAfter}
use Rattle.ordered_link.specs.Sending.{Sending}
use Rattle.ordered_link.specs.Session.{put_out}
use Rattle.ordered_link.specs.Receiving.{Receiving, last, verdict, accepted_by, is_acknowledged, follow_all}
use Rattle.epoch_core.specs.Log.{CardOf, OnPort, Log, on_port}
use Rattle.epoch_core.specs.StandsFor.{CoreOf, StandsFor}
use Rattle.switch_core.specs.declared.session.Sessions.{Sessions}
use Rattle.switch_core.specs.declared.control.Control.{Control}
use Rattle.switch_core.specs.Sessions.{AreSessions}
use Rattle.switch_core.specs.Switch.{SwitchOf, at_port}
use Rattle.switch_core.specs.Steps.{Step, carried_to, receives, all_added, log_with, ack_to, sampled_by, probes, accepts, is_spent_by, clocked}
use Rattle.switch_core.specs.Sound.{IsSoundBy}
use Rattle.switch_core.specs.Bytes.{BytesOut, all_spelled}

-- `core` represents the bodies in `log`, accepted in the epoch joined with `card`
pub record HasCore (core : CoreOf) (card : CardOf) (log : Log) : Type 0 where
  pub stands : StandsFor core log
  pub joined_with : core.card ≡ card

-- a core is kept if and only if the epoch was joined, and it then represents the bodies in `log`
abbrev pub HasJoined : Option CoreOf → Bool → CardOf → Log → Type 0
HasJoined None joined card log = joined ≡ false
HasJoined (Some core) joined card log = (joined ≡ true) × HasCore core card log

-- `control` represents `switch`: it has what is kept of the history of `switch`
pub record Stands (control : Control) (switch : SwitchOf) : Type 0 where
  pub life : control.life ≡ switch.life
  pub any : control.any ≡ switch.any
  pub monitor : control.monitor.life ≡ switch.life
  pub ports : IsAfter control.monitor switch.ports
  pub epoch : control.epoch ≡ switch.epoch
  pub joined : HasJoined control.core switch.joined switch.card switch.log
  pub links : control.links ≡ switch.card.links
  pub sessions : AreSessions control.sessions switch.sendings switch.receivings
  pub number : control.number ≡ switch.number
  pub load_due : control.load_due ≡ switch.load_due
  pub tick : control.tick ≡ switch.tick
  pub spent : control.spent ≡ switch.spent

-- `new` represents the switch after the step, and the step's frames were appended to what goes out
abbrev pub Done : Control → List BytesOut → List BytesOut → Step → Type 0
Done new before after step = Stands new step.switch × (after ≡ before ++ all_spelled step.frames)

-- whatever switch `old` represented, `new` represents it after `change`, and the frames of that were appended
abbrev pub Does : (SwitchOf → Step) → Control → Control → List BytesOut → List BytesOut → Type 0
Does change old new before after =
    (switch : SwitchOf) → Stands old switch → Done new before after (change switch)

-- whatever switch `old` represented, `new` represents it after `change`, by which no frame goes out
abbrev pub Becomes : (SwitchOf → SwitchOf) → Control → Control → Type 0
Becomes change old new = (switch : SwitchOf) → Stands old switch → Stands new (change switch)

-- in the session of each port there are numbers left for these bodies
pub record HasNumbers (control : Control) (items : List OnPort) : Type 0 where
  pub switch : SwitchOf
  pub stands : Stands control switch
  pub numbers : (port : ℕ) → length (switch.sendings port).pushed + length (on_port port items) ≤ 2 ^ 31

-- the number that the switch proposes is 1 to 126
pub record MayJoin (control : Control) : Type 0 where
  pub switch : SwitchOf
  pub stands : Stands control switch
  pub least : 1 ≤ switch.number
  pub most : switch.number ≤ MOST_NUMBER

-- at most eight bodies are outstanding at each port
pub record HasWindows (control : Control) : Type 0 where
  pub switch : SwitchOf
  pub stands : Stands control switch
  pub windows : (port : ℕ) → length (switch.sendings port).sent ≤ 8

-- only the buffer changed
abbrev pub IsSame : Control → Control → Type 0
IsSame old new = new ≡ record old { buffer = new.buffer }

-- outstanding body `number` of the session at `port` went out
abbrev pub Carries : Control → ℕ → EndId → ℕ → List BytesOut → List BytesOut → Type 0
Carries control port peer number before after =
    (switch : SwitchOf) → Stands control switch
    → after ≡ before
    ++ all_spelled (map (carried_to switch port peer) (put_out (switch.sendings port) (Some number)))

-- there is a core, which has versions left for a window of bodies
abbrev pub HasAccepting : Option CoreOf → Type 0
HasAccepting core = (found : CoreOf) × (core ≡ Some found) × (found.version + 8 ≤ 2 ^ 30)

-- body `number` came to the session at `port`, and the bodies that this accepted added what they add
pub record ReceivesBody (port number : ℕ) (body : Body) (old new : Control) (before after : List OnPort)
    (answer : Bool) : Type 0 where
  pub stands : (switch : SwitchOf) → Stands old switch → Stands new (receives port number body switch)
  pub sends : (switch : SwitchOf) → Stands old switch
      → after ≡ before
      ++ all_added switch.card port (accepted_by number body (switch.receivings port)) switch.log
  pub acknowledged : (switch : SwitchOf) → Stands old switch
      → answer ≡ is_acknowledged (verdict number body (switch.receivings port))
  pub joined : is_some new.core ≡ true

-- the bodies that are accepted by a wanted body which a receiver has taken: that body, and the held ones after it
abbrev pub in_turn : Body → Receiving → List Body
in_turn body receiving = body ∷ drop (last receiving) (follow_all 7 receiving).accepted

-- a wanted body and the held ones after it were accepted in the core and in the session of `port`, and the bodies
-- that they add were appended to what is to be pushed
pub record AcceptsInTurn (port : ℕ) (body : Body) (old new : CoreOf)
    (old_sessions new_sessions : Sessions) (before after : List OnPort) : Type 0 where
  pub core : (log : Log) (sendings : ℕ → Sending) (receivings : ℕ → Receiving) → StandsFor old log
      → AreSessions old_sessions sendings receivings
      → StandsFor new (log_with port (in_turn body (receivings port)) log)
  pub sessions : (sendings : ℕ → Sending) (receivings : ℕ → Receiving)
      → AreSessions old_sessions sendings receivings
      → AreSessions new_sessions sendings (at_port port (follow_all 7 (receivings port)) receivings)
  pub card : new.card ≡ old.card
  pub sends : (log : Log) (sendings : ℕ → Sending) (receivings : ℕ → Receiving) → StandsFor old log
      → AreSessions old_sessions sendings receivings
      → after ≡ before ++ all_added old.card port (in_turn body (receivings port)) log

-- the step that sends the acknowledgement of what was accepted at a port
abbrev pub answered : ℕ → EndId → SwitchOf → Step
answered port peer switch =
    record { switch = switch; frames = ack_to switch port peer (last (switch.receivings port)) ∷ [] }

-- the step that samples each port, and sends the probes
abbrev pub probed : ℕ → List Sample → SwitchOf → Step
probed now samples switch =
    record { switch = sampled_by now samples switch; frames = probes (sampled_by now samples switch) }

-- `control` represents a switch after `works` clock events and frames, `carried` of them with a body in its epoch
pub record HasState (works carried : ℕ) (control : Control) : Type 0 where
  pub switch : SwitchOf
  pub stands : Stands control switch
  pub sound : IsSoundBy works carried switch

-- the epochs of the switch are not spent, and its numbers are far from their limits
pub record HasRoom (control : Control) : Type 0 where
  pub works : ℕ
  pub carried : ℕ
  pub switch : SwitchOf
  pub few : works < 2 ^ 60
  pub few_carried : carried < 2 ^ 28
  pub working : switch.spent ≡ false
  pub stands : Stands control switch
  pub sound : IsSoundBy works carried switch

-- the switch after it has accepted a wanted body at `port`, and the held ones after it
abbrev pub accepting : ℕ → Body → SwitchOf → SwitchOf
accepting port body switch =
    accepts port (in_turn body (switch.receivings port))
    (record switch { receivings = at_port port (follow_all 7 (switch.receivings port)) switch.receivings })

-- a wanted body and the held ones after it were accepted at `port`, and the bodies that they add were appended to what
-- is to be pushed
pub record Accepts (port : ℕ) (body : Body) (old new : Control) (before after : List OnPort) : Type 0 where
  pub stands : (switch : SwitchOf) → Stands old switch → Stands new (accepting port body switch)
  pub sends : (switch : SwitchOf) → Stands old switch
      → after ≡ before ++ all_added switch.card port (in_turn body (switch.receivings port)) switch.log
  pub joined : is_some new.core ≡ true

-- a clock event came to `switch`, and `spent` says whether a change is due for which no epoch is left; if one is, the
-- frames are to be dropped
pub record IsClocked (now : ℕ) (samples : List Sample) (switch : SwitchOf) (new : Control)
    (before after : List BytesOut) (spent : Bool) : Type 0 where
  pub spends : spent ≡ is_spent_by switch (sampled_by now samples switch)
  pub stands : Stands new (clocked now samples switch).switch
  pub out : spent ≡ false → after ≡ before ++ all_spelled (clocked now samples switch).frames

-- a clock event came to each switch that `old` represented, and `spent` says whether a change is due for which no epoch
-- is left
abbrev pub Clocks : ℕ → List Sample → Control → Control → List BytesOut → List BytesOut → Bool → Type 0
Clocks now samples old new before after spent =
    (switch : SwitchOf) → Stands old switch → IsClocked now samples switch new before after spent
