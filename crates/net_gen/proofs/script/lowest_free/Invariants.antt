use Rattle.std.proofs.Common.{◌≡◌, ◌-◌, None}
use Rattle.std.specs.Prelude.{find}
use Rattle.std.specs.List.{range_with_len}
use Rattle.net_gen.specs.Generated.{is_free}
use Rattle.net_gen.proofs.script.lowest_free.Given as goal

-- no port is free so far
abbrev pub invariant-ports : goal.invariant-ports
invariant-ports l = find (is_free l.script.wires.links l.place) (range_with_len 1 (l.port - 1)) ≡ None
