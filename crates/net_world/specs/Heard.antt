-- What an event makes a switch do, and which frames were sent.

use Rattle.std.specs.Prelude.{◌≡◌, ℕ, List, [], ◌∷◌, ◌++◌, Option, Some, None, true, Contains, map}
use Rattle.an_base.specs.Values.{LifeId, TopoOf}
use Rattle.an_base.specs.declared.event.Event.{Event}
use Rattle.an_base.specs.declared.event.Event.TheVariants.{Handle, Load, Restart}
use Rattle.an_base.specs.declared.frame.Frame.{Frame}
use Rattle.net_script.specs.Scripts.{ScriptOf}
use Rattle.frame_codec.specs.Reading.{frame_of}
use Rattle.switch_core.specs.Switch.{finish_of}
use Rattle.switch_core.specs.Steps.{Sent}
use Rattle.net_state.specs.declared.hand.Hand.{Hand}
use Rattle.net_state.specs.declared.hand.Hand.TheVariants as hand
use Rattle.table_build.specs.Made.{number_in}
use Rattle.net_world.specs.Acts.{Act, Starts, Clocks, Hears, Loads, acted, hears}
use Rattle.net_state.specs.Fabric.{station, held_bytes}
use Rattle.net_state.specs.Lawful.{is_lawful}
use Rattle.net_world.specs.World.{WorldOf, world_after, next_life}

-- an act, and the index of its switch
pub record ActAt : Type 0 where
  pub place : ℕ
  pub act : Act

abbrev pub at_place : ℕ → Act → ActAt
at_place place act = record { place = place; act = act }

-- the act of a switch that handles what it holds, if it holds something
abbrev pub handles_as : Hand → List ℕ → List Act
handles_as hand.Empty bytes = []
handles_as (hand.Clock now samples) bytes = Clocks now samples ∷ []
handles_as (hand.Frame port) bytes = hears port (frame_of bytes) ∷ []

-- the act of a switch that loads the table of the topology that it finished with, if it has finished
abbrev pub loads_as : Option TopoOf → LifeId → List Act
loads_as None life = []
loads_as (Some topo) life = Loads (number_in topo life) ∷ []

-- the act of a lawful event, if it has one
abbrev pub acts_of : WorldOf → Event → List ActAt
acts_of world (Handle place) =
    map (at_place place) (handles_as (station world.fabric place).hand (held_bytes world.fabric place))
acts_of world (Load place) =
    map (at_place place) (loads_as (finish_of (world.switches place)) (world.switches place).life)
acts_of world (Restart place) = at_place place (Starts (next_life place world)) ∷ []
acts_of world event = []

-- some switch sent the frame by a lawful event of the history
pub record WasSent (script : ScriptOf) (history : List Event) (frame : Frame) : Type 0 where
  pub before : List Event
  pub event : Event
  pub later : List Event
  pub parts : history ≡ before ++ event ∷ later
  pub lawful : is_lawful (world_after script before).fabric event ≡ true
  pub act : ActAt
  pub acts : acts_of (world_after script before) event ≡ act ∷ []
  pub sent : Sent
  pub is_frame : sent.frame ≡ frame
  pub goes_out : Contains (acted act.act ((world_after script before).switches act.place)).frames sent

-- every frame that a switch can handle after the history was sent by some switch before
abbrev pub IsHeard : ScriptOf → List Event → Type 0
IsHeard script history = (place port : ℕ) (frame : Frame)
    → acts_of (world_after script history) (Handle place) ≡ at_place place (Hears port frame) ∷ []
    → WasSent script history frame
