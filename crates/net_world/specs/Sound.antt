-- The invariant of every world that is reached.

use Rattle.std.specs.Prelude.{◌≡◌, ◌+◌, ◌==◌, ◌<◌, ◌≤◌, ℕ, List, length, take, All, Some, IfSome, Bool, true, false, if◌then◌else◌}
use Rattle.std.specs.List.{sum_by}
use Rattle.an_base.specs.Values.{TopoOf}
use Rattle.an_base.specs.declared.event.Event.{Event}
use Rattle.an_base.specs.declared.event.Event.TheVariants.{Restart}
use Rattle.net_script.specs.declared.command.Command.{Command}
use Rattle.net_script.specs.Scripts.{ScriptOf}
use Rattle.switch_core.specs.Switch.{SwitchOf, finish_of, note_of}
use Rattle.switch_core.specs.declared.switch.TableFor.{TableFor}
use Rattle.net_state.specs.declared.hand.Hand.{Hand}
use Rattle.net_state.specs.declared.hand.Hand.TheVariants as hand
use Rattle.net_state.specs.Fabric.{FabricOf, StationOf, station, life_of}
use Rattle.net_state.specs.Fits.{Fits}
use Rattle.net_state.specs.Lawful.{is_lawful}
use Rattle.net_world.specs.World.{WorldOf, table_for}

-- what a switch holds is of this tick: a clock event, or a frame that came in on an external port of a switch that is
-- not spent and has had its clock event; and if it has had it, its last tick is this one
abbrev pub HandFits : ℕ → ℕ → SwitchOf → Hand → Type 0
HandFits tick clock switch hand.Empty = clock ≡ tick + 1 → switch.tick ≡ tick
HandFits tick clock switch (hand.Clock now samples) = (now ≡ tick) × (clock ≡ tick + 1)
HandFits tick clock switch (hand.Frame port) =
    (1 ≤ port) × (port ≤ 12) × (switch.tick ≡ tick) × (switch.spent ≡ false) × (clock ≡ tick + 1)

-- the station shows the switch, which is in one of its lives, and its next clock event is due at the next tick or
-- before
pub record IsPlaceSound (script : ScriptOf) (tick place : ℕ) (at : StationOf)
    (switch : SwitchOf) : Type 0 where
  pub note : at.note ≡ note_of switch
  pub spent : at.spent ≡ switch.spent
  pub life : switch.life ≡ life_of script place switch.life.boot
  pub any : switch.any ≡ script.any_routes
  pub boot : 1 ≤ switch.life.boot
  pub clock : at.clock ≤ tick + 1
  pub fits : HandFits tick at.clock switch at.hand

-- the station of the switch at index `place` is sound
abbrev pub IsSoundAt : ScriptOf → WorldOf → ℕ → Type 0
IsSoundAt script world place =
    IsPlaceSound script world.fabric.tick place (station world.fabric place) (world.switches place)

-- the stations of all switches are sound
abbrev pub ArePlacesSound : ScriptOf → WorldOf → Type 0
ArePlacesSound script world =
    (place : ℕ) → place < length script.wires.switches → IsSoundAt script world place

-- whether the event restarts the switch at index `place`
abbrev pub is_restart_at : ℕ → Event → Bool
is_restart_at place (Restart other) = place == other
is_restart_at place event = false

-- the number of commands that restart the switch at index `place`
abbrev pub restarts_at : ℕ → List Command → ℕ
restarts_at place commands = sum_by (λ command. if is_restart_at place command.event then 1 else 0) commands

-- the boot of the switch at index `place` is 1, plus the number of its restarts that are done
abbrev pub HasBoot : ScriptOf → WorldOf → ℕ → Type 0
HasBoot script world place =
    (world.switches place).life.boot ≡ 1 + restarts_at place (take world.fabric.done script.commands)

-- a table in use is that of the topology that the current life has finished with in its current epoch
pub record IsTableInUse (switch : SwitchOf) (used : TableFor) : Type 0 where
  pub topo : TopoOf
  pub finished : finish_of switch ≡ Some topo
  pub table : used ≡ table_for topo switch

-- the table in use at index `place`, if there is one, is that of the topology that its switch has finished with
abbrev pub HasTable : WorldOf → ℕ → Type 0
HasTable world place = IfSome (station world.fabric place).table (IsTableInUse (world.switches place))

-- the invariant: the fabric keeps its invariant, and its stations show the switches
pub record IsSoundWorld (script : ScriptOf) (world : WorldOf) : Type 0 where
  pub stays : world.fabric.script ≡ script
  pub fits : Fits world.fabric
  pub places : ArePlacesSound script world
  pub boots : (place : ℕ) → HasBoot script world place
  pub tables : (place : ℕ) → place < length script.wires.switches → HasTable world place

-- some event is lawful next
pub record HasNext (fabric : FabricOf) : Type 0 where
  pub event : Event
  pub lawful : is_lawful fabric event ≡ true

-- each of these events is lawful next
abbrev pub AllMayCome : FabricOf → List Event → Type 0
AllMayCome fabric events = All (λ event. is_lawful fabric event ≡ true) events

-- a number that a switch can have
abbrev pub IsNumber : ℕ → Type 0
IsNumber number = (1 ≤ number) × (number ≤ 126)

-- the topology has one number for each entry, each from 1 to 126
pub record TopoFits (topo : TopoOf) : Type 0 where
  pub within : All IsNumber topo.numbers
  pub as_many : length topo.numbers ≡ length topo.entries
