use Rattle.std.proofs.Common.{◌≤◌, ◌+◌, length, take}
use Rattle.std.specs.Prelude.{count_by}
use Rattle.fabric_tables.specs.Cells.{tables_of}
use Rattle.fabric_routes.specs.Trace.{IsFollowing, hop_to, is_new}
use Rattle.fabric_routes.proofs.trace.follow.Given as goal

-- the switches by which the route came were new
abbrev pub invariant-hops : goal.invariant-hops
invariant-hops l = record {
  following : IsFollowing (hop_to l.fabric (tables_of l.cells) l.target) l.start l.marks (take l.count l.path) l.at;
  room : l.count + count_by is_new l.marks ≤ length l.marks;
}

abbrev pub decreases-hops : goal.decreases-hops
decreases-hops l = count_by is_new l.marks
