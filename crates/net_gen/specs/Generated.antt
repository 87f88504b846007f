-- The script made from a seed: a tree of switches with more links, a host at each switch, and packets before and
-- after a failure and its repair. Switches and hosts are given by their indices, from 0.

use Rattle.std.specs.Prelude.{◌+◌, ◌-◌, ◌==◌, ◌%◌, ◌^◌, ℕ, zero, suc, not, Bool, List, [], ◌∷◌, ◌++◌, map, find, nat_lt, Option, Some, None, is_some, codes, fold, if◌then◌else◌}
use Rattle.std.specs.Fmt.{decimal}
use Rattle.std.specs.List.{range_with_len}
use Rattle.an_base.specs.declared.event.Event.TheVariants as event
use Rattle.net_graph.specs.declared.wiring.SwitchAt.{SwitchAt}
use Rattle.net_graph.specs.declared.wiring.LinkAt.{LinkAt}
use Rattle.net_graph.specs.declared.wiring.HostOn.{HostOn}
use Rattle.net_graph.specs.Wires.{far_of}
use Rattle.net_script.specs.declared.command.Command.{Command}
use Rattle.net_script.specs.Scripts.{ScriptOf, empty_script}
use Rattle.net_gen.specs.Drawn.{next_seed, drawn}

-- the name of the switch, and of the host, at an index: counted from 1
abbrev pub switch_name : ℕ → List ℕ
switch_name place = codes "S" ++ decimal (place + 1)

abbrev pub host_name : ℕ → List ℕ
host_name place = codes "H" ++ decimal (place + 1)

abbrev pub switch_of : ℕ → SwitchAt
switch_of place = record { uid = place + 1; had = 1 }

-- a host at port 12 of the switch at its index
abbrev pub host_of : ℕ → HostOn
host_of place = record { uid = 2 ^ 40 + (place + 1); s = place; port = 12 }

-- the lowest of the ports 1 to 8 of a switch that no link uses, if any
abbrev pub is_free : List LinkAt → ℕ → ℕ → Bool
is_free links place port = not (is_some (far_of links place port))

abbrev pub lowest_free : List LinkAt → ℕ → Option ℕ
lowest_free links place = find (is_free links place) (range_with_len 1 8)

abbrev pub has_free : List LinkAt → ℕ → Bool
has_free links place = is_some (lowest_free links place)

-- the link between the lowest free ports of two switches, if both have one
abbrev pub link_by : Option ℕ → Option ℕ → ℕ → ℕ → List LinkAt
link_by (Some port) (Some far_port) place far_place =
    record { a = place; a_port = port; b = far_place; b_port = far_port } ∷ []
link_by None far_port place far_place = []
link_by (Some port) None place far_place = []

abbrev pub with_link : List LinkAt → ℕ → ℕ → List LinkAt
with_link links place far_place =
    links ++ link_by (lowest_free links place) (lowest_free links far_place) place far_place

-- what has been drawn so far: the links, and the seed of the next draw
pub record DrawnOf : Type 0 where
  pub links : List LinkAt
  pub seed : ℕ

-- The order in which a switch tries those before it: from the drawn one upwards, and then from the first.
abbrev pub from_on : ℕ → ℕ → List ℕ
from_on first end = range_with_len first (end - first) ++ range_with_len 0 first

-- The links with one more, to a switch before this one; `None` if no switch before it has a free port.
abbrev pub with_link_to : List LinkAt → Option ℕ → ℕ → List LinkAt
with_link_to links None place = links
with_link_to links (Some before) place = with_link links before place

-- what is drawn once the switch at the index `place` is linked, by the next draw
abbrev pub grown : DrawnOf → ℕ → DrawnOf
grown so_far place =
    let seed : ℕ = next_seed so_far.seed in
    record {
      links =
          with_link_to so_far.links (find (has_free so_far.links) (from_on (drawn seed place) place)) place;
      seed = seed;
    }

-- what is drawn once two of `count` switches are drawn, and linked if they are different
abbrev pub joined : ℕ → DrawnOf → DrawnOf
joined count so_far =
    let seed : ℕ = next_seed so_far.seed in
    let seed' : ℕ = next_seed seed in
    record {
      links =
          if drawn seed count == drawn seed' count then so_far.links
          else with_link so_far.links (drawn seed count) (drawn seed' count);
      seed = seed';
    }

-- the tree over `count` switches, and then `count` times a link between two drawn switches
abbrev pub tree_of : ℕ → ℕ → DrawnOf
tree_of seed count = fold grown (record { links = []; seed = seed }) (range_with_len 1 (count - 1))

abbrev pub all_joined : ℕ → DrawnOf → ℕ → DrawnOf
all_joined count tree zero = tree
all_joined count tree (suc times) = joined count (all_joined count tree times)

abbrev pub links_of : ℕ → ℕ → List LinkAt
links_of seed count = (all_joined count (tree_of seed count) count).links

-- each host sends to the next one, and the last to the first
abbrev pub send_of : ℕ → ℕ → ℕ → Command
send_of count time place = record { time = time; event = event.Send place ((place + 1) % count) }

abbrev pub sends_at : ℕ → ℕ → List Command
sends_at count time = map (send_of count time) (range_with_len 0 count)

-- the first link of the tree goes down and comes back, if there is one
abbrev pub failure : ℕ → List Command
failure count =
    if nat_lt 1 count
    then record { time = 20; event = event.Fail 0 1 } ∷ record { time = 60; event = event.Repair 0 1 } ∷ []
    else []

-- all hosts send twice: before the failure, and after the repair
abbrev pub commands_of : ℕ → List Command
commands_of count = sends_at count 10 ++ failure count ++ sends_at count 80

-- the script with this many switches and hosts, and these links and commands
abbrev pub made_of : ℕ → List LinkAt → ℕ → List Command → ScriptOf
made_of switches links hosts commands = record empty_script {
  wires = record {
    switches = map switch_of (range_with_len 0 switches);
    links = links;
    hosts = map host_of (range_with_len 0 hosts);
  };
  switch_names = map switch_name (range_with_len 0 switches);
  names_of_hosts = map host_name (range_with_len 0 hosts);
  commands = commands;
}

-- the script of a seed and a number of switches
abbrev pub generated : ℕ → ℕ → ScriptOf
generated seed count = made_of count (links_of seed count) count (commands_of count)
