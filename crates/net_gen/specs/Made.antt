-- Definitions that only private functions cite: what has been made of a script so far.

use Rattle.std.specs.Prelude.{◌≡◌, ◌≤◌, ℕ, List, ◌++◌, length, All, true, is_some}
use Rattle.net_graph.specs.declared.wiring.LinkAt.{LinkAt}
use Rattle.net_graph.specs.Wires.{far_of}
use Rattle.net_script.specs.declared.command.Command.{Command}
use Rattle.net_script.specs.Commands.{last_time}
use Rattle.net_script.specs.Scripts.{ScriptOf, restarts_of}
use Rattle.net_gen.specs.Generated.{DrawnOf, made_of}

-- a script with these links, and a script with more commands
abbrev pub with_links : List LinkAt → ScriptOf → ScriptOf
with_links links script = record script { wires = record script.wires { links = links } }

abbrev pub with_commands : List Command → ScriptOf → ScriptOf
with_commands commands script = record script { commands = script.commands ++ commands }

-- what has been drawn, if the links are those of `script`
abbrev pub drawn_of : ScriptOf → ℕ → DrawnOf
drawn_of script seed = record { links = script.wires.links; seed = seed }

-- the link uses only the ports 1 to 8
pub record IsLow (link : LinkAt) : Type 0 where
  pub a_most : link.a_port ≤ 8
  pub b_most : link.b_port ≤ 8

abbrev pub AreLow : List LinkAt → Type 0
AreLow = All IsLow

-- everything except the commands is made for `count` switches
abbrev pub IsMade : ScriptOf → ℕ → Type 0
IsMade script count = script ≡ made_of count script.wires.links count script.commands

-- a command can follow at `time`, and there are few commands
pub record CanSend (commands : List Command) (time : ℕ) : Type 0 where
  pub last : last_time commands ≤ time
  pub range : time ≤ 1000000
  pub few : length commands ≤ 102
  pub none : restarts_of commands ≡ 0

-- the first switch has a link at its first port, if there are two
abbrev pub HasFirst : ℕ → List LinkAt → Type 0
HasFirst count links = 2 ≤ count → is_some (far_of links 0 1) ≡ true
