use Rattle.std.specs.Prelude.{◌≡◌, ◌≢◌, ◌<◌, ◌≤◌, ◌+◌, ◌^◌, ℕ, Bool, true, false, List, [], ◌∷◌, ◌++◌, length}
use Rattle.std.specs.Prelude.{All, AllPairs, Option, Some, None, count_by, IfSome, Contains}
use Rattle.std.specs.List.Sorted.{IsNonDecreasingBy}
use Rattle.an_base.specs.declared.limits.TheConstants.{MOST_SWITCHES}
use Rattle.net_graph.specs.declared.wiring.SwitchAt.{SwitchAt}
use Rattle.net_graph.specs.declared.wiring.LinkAt.{LinkAt}
use Rattle.net_graph.specs.declared.wiring.HostOn.{HostOn}
use Rattle.net_graph.specs.Wires.{Wires, IsWired, IsSwitch, IsLink, IsHost, uids, used_ports, a_end, b_end}
use Rattle.net_graph.specs.Wires.{host_end}
use Rattle.net_names.specs.Words.{IsName}
use Rattle.net_script.specs.declared.setting.TheConstants.{DEFAULT_TICKS, DEFAULT_EVENTS, DEFAULT_BLOCKS}
use Rattle.net_script.specs.declared.setting.Setting.{Setting}
use Rattle.net_script.specs.declared.setting.Setting.TheVariants.{Ticks, Events, Blocks, Epoch, Pace}
use Rattle.net_script.specs.declared.command.Command.{Command}
use Rattle.net_script.specs.Commands.{IsCommand, is_restart, last_time}
use Rattle.net_script.specs.declared.setting.Limits.{Limits}

-- Scripts, and their invariant.

-- A script: the wiring, the names of its switches and hosts in order, and the commands in order. Then the settings: the
-- epoch in which switches start, the pace, the limits, and whether tables have all legal routes.
pub record ScriptOf : Type 0 where
  pub wires : Wires
  pub switch_names : List (List ℕ)
  pub names_of_hosts : List (List ℕ)
  pub commands : List Command
  pub epoch : ℕ
  pub pace : Option ℕ
  pub limits : Limits
  pub any_routes : Bool

-- the names of switches and hosts, which share one set
abbrev pub names_of : ScriptOf → List (List ℕ)
names_of script = script.switch_names ++ script.names_of_hosts

-- the number of restarts among commands
unfoldable pub restarts_of : List Command → ℕ
restarts_of commands = count_by (λ command. is_restart command.event) commands

-- the number of lives of switches: one for each switch and each restart
abbrev pub lives_of : ScriptOf → ℕ
lives_of script = length script.wires.switches + restarts_of script.commands

-- the ranges of limits
pub record IsLimits (limits : Limits) : Type 0 where
  pub ticks : limits.ticks ≤ 1000000
  pub events_least : 2 ≤ limits.events
  pub events_most : limits.events ≤ 16000000
  pub blocks_least : 1 ≤ limits.blocks
  pub blocks_most : limits.blocks ≤ 1048576

-- the range of a pace
abbrev pub IsPace : Option ℕ → Type 0
IsPace pace = IfSome pace (λ number. (1 ≤ number) × (number ≤ 1000000))

-- the invariant of every script
pub record IsScript (script : ScriptOf) : Type 0 where
  pub wired : IsWired script.wires
  pub switch_count : length script.switch_names ≡ length script.wires.switches
  pub host_count : length script.names_of_hosts ≡ length script.wires.hosts
  pub switch_names : All IsName script.switch_names
  pub names_of_hosts : All IsName script.names_of_hosts
  pub names_apart : AllPairs (λ one other. one ≢ other) (names_of script)
  pub command_count : length script.commands ≤ 10000
  pub commands : All (IsCommand script.wires) script.commands
  pub times : IsNonDecreasingBy (λ command. command.time) script.commands
  pub lives : lives_of script ≤ MOST_SWITCHES
  pub epoch : script.epoch < 2 ^ 64
  pub pace : IsPace script.pace
  pub limits : IsLimits script.limits

-- the script of a text without lines between the first and the last
abbrev pub empty_script : ScriptOf
empty_script =
    record {
      wires = record { switches = []; links = []; hosts = [] };
      switch_names = [];
      names_of_hosts = [];
      commands = [];
      epoch = 0;
      pace = None;
      limits = record { ticks = DEFAULT_TICKS; events = DEFAULT_EVENTS; blocks = DEFAULT_BLOCKS };
      any_routes = false;
    }

-- `script` with the switch `added`, called `name`
abbrev pub with_switch : ScriptOf → List ℕ → SwitchAt → ScriptOf
with_switch script name added =
    record script {
      wires = record script.wires { switches = script.wires.switches ++ added ∷ [] };
      switch_names = script.switch_names ++ name ∷ [];
    }

-- `script` with the link `added`
abbrev pub with_link : ScriptOf → LinkAt → ScriptOf
with_link script added =
    record script { wires = record script.wires { links = script.wires.links ++ added ∷ [] } }

-- `script` with the host `added`, called `name`
abbrev pub with_host : ScriptOf → List ℕ → HostOn → ScriptOf
with_host script name added =
    record script {
      wires = record script.wires { hosts = script.wires.hosts ++ added ∷ [] };
      names_of_hosts = script.names_of_hosts ++ name ∷ [];
    }

-- `script` with one more command
abbrev pub with_command : ScriptOf → Command → ScriptOf
with_command script command = record script { commands = script.commands ++ command ∷ [] }

-- `script` with a setting at `number`
abbrev pub with_setting : ScriptOf → Setting → ℕ → ScriptOf
with_setting script Ticks number = record script { limits = record script.limits { ticks = number } }
with_setting script Events number = record script { limits = record script.limits { events = number } }
with_setting script Blocks number = record script { limits = record script.limits { blocks = number } }
with_setting script Epoch number = record script { epoch = number }
with_setting script Pace number = record script { pace = Some number }

-- `name` is a name that is new in `script`
pub record IsNewName (script : ScriptOf) (name : List ℕ) : Type 0 where
  pub is_name : IsName name
  pub is_new : ¬ Contains (names_of script) name

-- `script` can get the switch `added`, called `name`
pub record CanAddSwitch (script : ScriptOf) (name : List ℕ) (added : SwitchAt) : Type 0 where
  pub new_name : IsNewName script name
  pub switch : IsSwitch added
  pub uid_new : ¬ Contains (uids script.wires) added.uid
  pub room : lives_of script < MOST_SWITCHES

-- `script` can get the link `added`
pub record CanAddLink (script : ScriptOf) (added : LinkAt) : Type 0 where
  pub link : IsLink (length script.wires.switches) added
  pub apart : a_end added ≢ b_end added
  pub a_free : ¬ Contains (used_ports script.wires) (a_end added)
  pub b_free : ¬ Contains (used_ports script.wires) (b_end added)

-- `script` can get the host `added`, called `name`
pub record CanAddHost (script : ScriptOf) (name : List ℕ) (added : HostOn) : Type 0 where
  pub new_name : IsNewName script name
  pub host : IsHost (length script.wires.switches) added
  pub uid_new : ¬ Contains (uids script.wires) added.uid
  pub free : ¬ Contains (used_ports script.wires) (host_end added)
  pub room : length script.wires.hosts < 1000

-- `script` can get the command `added`
pub record CanAddCommand (script : ScriptOf) (added : Command) : Type 0 where
  pub command : IsCommand script.wires added
  pub time : last_time script.commands ≤ added.time
  pub room : length script.commands < 10000
  pub lives : is_restart added.event ≡ true → lives_of script < MOST_SWITCHES
