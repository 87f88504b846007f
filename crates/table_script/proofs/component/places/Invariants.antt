use Rattle.std.proofs.Common.{◌≡◌}
use Rattle.std.specs.List.{range_with_len}
use Rattle.table_script.proofs.component.places.Given as goal

-- the places so far
abbrev pub invariant-places : goal.invariant-places
invariant-places l = l.places.items ≡ range_with_len 0 l.s
