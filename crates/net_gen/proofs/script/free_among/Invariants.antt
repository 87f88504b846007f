use Rattle.std.proofs.Common.{◌≡◌, ◌-◌, None}
use Rattle.std.specs.Prelude.{find}
use Rattle.std.specs.List.{range_with_len}
use Rattle.net_gen.specs.Generated.{has_free}
use Rattle.net_gen.proofs.script.free_among.Given as goal

-- no switch has a free port so far
abbrev pub invariant-places : goal.invariant-places
invariant-places l = find (has_free l.script.wires.links) (range_with_len l.first (l.place - l.first)) ≡ None
