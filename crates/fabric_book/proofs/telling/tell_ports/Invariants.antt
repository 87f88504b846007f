-- The lines of the ports before.

use Rattle.std.proofs.Common.{◌≡◌, ◌++◌, ◌-◌}
use Rattle.std.specs.List.{flat_map, range_with_len}
use Rattle.net_world.specs.Lines.{port_line}
use Rattle.fabric_book.proofs.telling.tell_ports.Given as goal

abbrev pub invariant-ports : goal.invariant-ports
invariant-ports l = l.lines ≡ l.initial.lines ++ flat_map (port_line l.s l.before l.after) (range_with_len 1 (l.port - 1))
