use Rattle.std.proofs.Common.{◌≡◌, ◌<◌, ◌≤◌, ℕ, length, take}
use Rattle.std.specs.Prelude.{count_by, slice_index}
use Rattle.fabric_routes.specs.declared.hop.Hop.{Hop}
use Rattle.fabric_routes.specs.Trace.{AreShort, IsFollowed, IsOpenPath, IsSettling, IsShort, is_known}
use Rattle.fabric_routes.proofs.trace.settle.Given as goal

-- the rest of the path is open, and the route from the switch after it ends so
abbrev pub invariant-path : goal.invariant-path
invariant-path l = record {
  low : l.left ≤ l.fn.followed.count;
  opened : IsOpenPath l.marks (take l.left l.path);
  short : AreShort l.marks;
  few : IsShort (count_by is_known l.marks) l.outcome;
  shorter : length (take l.left l.path) ≤ length (take l.fn.followed.count l.path);
  front : (place : ℕ) → place < length (take l.left l.path) → slice_index (take l.left l.path) place ≡ slice_index (take l.fn.followed.count l.path) place;
  settling : (hop_at : ℕ → Hop) (start : ℕ) → IsFollowed hop_at start l.fn.marks (take l.fn.followed.count l.path) l.fn.followed.beyond → IsSettling hop_at l.marks (take l.left l.path) (take l.fn.followed.count l.path) l.outcome;
}

abbrev pub decreases-path : goal.decreases-path
decreases-path l = l.left
