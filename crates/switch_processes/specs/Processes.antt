-- Processes with a switch each: what each did in its own order, and what happened before what.

use Rattle.std.specs.Prelude.{◌≡◌, ◌<◌, ◌≤◌, ℕ, List, [], ◌∷◌, Some, nat_lt, true, false, if◌then◌else◌, Contains}
use Rattle.an_base.specs.Values.{LifeId, TopoOf}
use Rattle.an_base.specs.declared.frame.Frame.{Frame}
use Rattle.an_base.specs.declared.port.Sample.{Sample}
use Rattle.epoch_game.specs.Slice.{Earlier}
use Rattle.switch_core.specs.Switch.{SwitchOf, started, finish_of}
use Rattle.switch_core.specs.Steps.{Step, clocked, framed, loaded, still}
use Rattle.switch_game.specs.Network.{PowerOn, frames_of}

-- What a process does with its switch: a clock with a sample of each port, a frame that comes in by a port, or the
-- load of a table.
pub data Call : Type 0 where
  Clocks : (now : ℕ) (samples : List Sample) → Call
  Hears : (port : ℕ) (frame : Frame) → Call
  Loads : (number : ℕ) → Call

-- what a call makes of the switch, and the frames that go out
abbrev pub called : Call → SwitchOf → Step
called (Clocks now samples) switch = clocked now samples switch
called (Hears port frame) switch = framed port frame switch
called (Loads number) switch = still (loaded number switch)

-- A switch takes clocks and frames while its epochs are not spent, frames by the ports 1 to 12, and a load that is
-- due.
abbrev pub Takes : SwitchOf → Call → Type 0
Takes switch (Clocks now samples) = switch.spent ≡ false
Takes switch (Hears port frame) = (switch.spent ≡ false) × (1 ≤ port) × (port ≤ 12)
Takes switch (Loads number) = switch.load_due ≡ true

-- The switch of a process after its calls. A process is one life of a switch; its local order is the list of its
-- calls, the newest first.
abbrev pub switch_after : PowerOn → LifeId → List Call → SwitchOf
switch_after on life [] = started life (on.epoch life) (on.had life) (on.any life)
switch_after on life (call ∷ before) = (called call (switch_after on life before)).switch

-- an event: a process makes a call, after those that it made before
pub record Event : Type 0 where
  pub life : LifeId
  pub call : Call
  pub before : List Call

-- an event is one of those of processes that did all this
abbrev pub IsOf : (LifeId → List Call) → Event → Type 0
IsOf did event = Earlier (event.call ∷ event.before) (did event.life)

-- the frames that go out by an event
abbrev pub frames_out : PowerOn → Event → List Frame
frames_out on event = frames_of (called event.call (switch_after on event.life event.before)).frames

-- What a network of processes can do: each frame that comes in has an event that sent it. A frame can come in many
-- times, or never, in any order and by any port.
pub record IsRun (lives : List LifeId) (on : PowerOn) (did : LifeId → List Call) (sending : Event → Event)
    : Type 0 where
  -- only these lives do anything
  pub among : (event : Event) → IsOf did event → Contains lives event.life
  -- each call is one that the switch takes
  pub taken : (event : Event) → IsOf did event → Takes (switch_after on event.life event.before) event.call
  -- each frame that comes in went out by an event
  pub sent : (event : Event) (port : ℕ) (frame : Frame) → IsOf did event → event.call ≡ Hears port frame
      → IsOf did (sending event) × Contains (frames_out on (sending event)) frame

-- Lamport's relation: an event happens before the later ones of its process, the sending of a frame before its
-- arrival, and, by transitivity, an event before whatever a later one happens before.
pub data HappensBefore (sending : Event → Event) : Event → Event → Type 0 where
  local : (event later : Event) → event.life ≡ later.life → Earlier (event.call ∷ event.before) later.before
      → HappensBefore sending event later
  message : (event : Event) (port : ℕ) (frame : Frame) → event.call ≡ Hears port frame
      → HappensBefore sending (sending event) event
  chain : (event between later : Event) → HappensBefore sending event between
      → HappensBefore sending between later → HappensBefore sending event later

-- no event happens before itself
abbrev pub HasNoCycle : (LifeId → List Call) → (Event → Event) → Type 0
HasNoCycle did sending = (event : Event) → IsOf did event → HappensBefore sending event event → ⊥

-- times at which the events can have been: they rise in each process, and from the sending of a frame to its
-- arrival
pub record AreTimes (did : LifeId → List Call) (sending : Event → Event) (time : Event → ℕ) : Type 0 where
  pub local : (event later : Event) → IsOf did later → event.life ≡ later.life
      → Earlier (event.call ∷ event.before) later.before → time event < time later
  pub message : (event : Event) (port : ℕ) (frame : Frame) → IsOf did event → event.call ≡ Hears port frame
      → time (sending event) < time event

-- A consistent cut: a point in time of each process, such that what has come in by then has gone out by then.
pub record IsConsistentCut (did cut : LifeId → List Call) (sending : Event → Event) : Type 0 where
  pub moments : (life : LifeId) → Earlier (cut life) (did life)
  pub sent : (event : Event) (port : ℕ) (frame : Frame) → IsOf cut event → event.call ≡ Hears port frame
      → IsOf cut (sending event)

-- those calls of a life that it has made by a time
abbrev pub made_by : (Event → ℕ) → ℕ → LifeId → List Call → List Call
made_by time now life [] = []
made_by time now life (call ∷ before) =
    if nat_lt now (time (record { life = life; call = call; before = before }))
    then made_by time now life before
    else call ∷ before

-- `life` has joined `epoch` at some point in time of its own
pub record HasJoined (on : PowerOn) (did : LifeId → List Call) (life : LifeId) (epoch : ℕ) : Type 0 where
  pub moment : List Call
  pub earlier : Earlier moment (did life)
  pub joined : (switch_after on life moment).joined ≡ true
  pub epoch_is : (switch_after on life moment).epoch ≡ epoch

-- only `members` have joined the epoch
abbrev pub IsJoinedBy : List LifeId → PowerOn → (LifeId → List Call) → ℕ → Type 0
IsJoinedBy members on did epoch = (life : LifeId) → HasJoined on did life epoch → Contains members life

-- the lives are those of switches with these identifiers
abbrev pub AreLivesOf : List ℕ → List LifeId → Type 0
AreLivesOf uids lives = (life : LifeId) → Contains lives life → Contains uids life.uid

-- Switches resume where they were: a later life of a switch is started with an epoch that is not below the last one
-- of each of its earlier lives.
abbrev pub GoOn : List LifeId → PowerOn → (LifeId → List Call) → Type 0
GoOn lives on did = (life next : LifeId) → Contains lives life → Contains lives next → life.uid ≡ next.uid
    → life.boot < next.boot → (switch_after on life (did life)).epoch ≤ on.epoch next

-- `life` has finished `epoch` with `topology` at some point in time of its own
pub record HasFinished (on : PowerOn) (did : LifeId → List Call) (life : LifeId) (epoch : ℕ)
    (topology : TopoOf) : Type 0 where
  pub moment : List Call
  pub earlier : Earlier moment (did life)
  pub epoch_is : (switch_after on life moment).epoch ≡ epoch
  pub finish : finish_of (switch_after on life moment) ≡ Some topology
