use Rattle.std.proofs.Common.{◌≤◌}
use Rattle.fabric_routes.specs.Counting.{IsCountOf}
use Rattle.fabric_counts.specs.Steps.{IsSourceUntil}
use Rattle.fabric_counts.proofs.source.count_sources.Given as goal

-- the sources so far
abbrev pub invariant-places : goal.invariant-places
invariant-places l = record { so_far : IsCountOf (IsSourceUntil l.fabric l.traffic l.place) l.count; few : l.count ≤ l.place }
