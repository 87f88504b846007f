-- The storage of a `Fabric`. No public clause uses this module.

use Rattle.std.specs.Prelude.{◌≡◌, ℕ, List, [], length, Option}
use Rattle.net_graph.specs.declared.wiring.SwitchAt.{SwitchAt}
use Rattle.net_graph.specs.declared.wiring.LinkAt.{LinkAt}
use Rattle.net_graph.specs.declared.wiring.HostOn.{HostOn}
use Rattle.net_script.specs.declared.command.Command.{Command}
use Rattle.net_script.specs.declared.setting.Limits.{Limits}
use Rattle.net_script.specs.Scripts.{ScriptOf, IsScript}
use Rattle.wire_set.specs.WireState.{WiresOf}
use Rattle.host_traffic.specs.Packets.{TrafficOf}
use Rattle.net_state.specs.declared.past.Past.{Past}
use Rattle.net_state.specs.Fabric.{FabricOf}
use Rattle.net_state.specs.Fits.{Fits}
use Rattle.net_state.specs.Tallies.{StationsOf}

-- these are the parts of the script that a run reads
pub record IsPlanOf (script : ScriptOf) (switches : List SwitchAt) (links : List LinkAt)
    (hosts : List HostOn) (commands : List Command) (epoch : ℕ) (pace : Option ℕ)
    (limits : Limits) : Type 0 where
  pub is_script : IsScript script
  pub switches_are : switches ≡ script.wires.switches
  pub links_are : links ≡ script.wires.links
  pub hosts_are : hosts ≡ script.wires.hosts
  pub commands_are : commands ≡ script.commands
  pub epoch_is : epoch ≡ script.epoch
  pub pace_is : pace ≡ script.pace
  pub limits_are : limits ≡ script.limits

-- the fabric of these parts, without packets and events
abbrev pub fabric_of_parts : ScriptOf → WiresOf → StationsOf → FabricOf
fabric_of_parts script wires stations = record {
  script = script;
  tick = stations.tick;
  wires = wires;
  stations = stations.items;
  packets = [];
  sent = 0;
  done = 0;
  since = 0;
  events = 0;
}

-- the fabric of these parts, with packets and events
abbrev pub fabric_of_all : ScriptOf → WiresOf → StationsOf → TrafficOf → ℕ → Past → FabricOf
fabric_of_all script wires stations traffic sent past =
    record (fabric_of_parts script wires stations) {
      packets = traffic.packets;
      sent = sent;
      done = past.done;
      since = past.since;
      events = past.events;
    }

-- the invariant of a `Fabric`: that of every fabric, and room for as many packets as there are commands
pub record IsKept (fabric : FabricOf) (traffic : TrafficOf) : Type 0 where
  pub fits : Fits fabric
  pub most : traffic.most ≡ length fabric.script.commands
