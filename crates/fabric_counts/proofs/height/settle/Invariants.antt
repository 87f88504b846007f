use Rattle.std.proofs.Common.{◌≡◌, ◌+◌, ◌≤◌, ℕ}
use Rattle.fabric_counts.specs.Heights.{AreHeights, IsSettling, IsWay}
use Rattle.fabric_routes.specs.declared.hop.Hop.{Hop}
use Rattle.fabric_counts.proofs.height.settle.Given as goal

-- the switches of the path from one on have their heights
abbrev pub invariant-path : goal.invariant-path
invariant-path l = record {
  low : l.left ≤ l.fn.way.count;
  sum : l.height + l.left ≡ l.fn.way.count + l.fn.way.beyond;
  settling : (hop_at : ℕ → Hop) (switches start : ℕ) → IsWay hop_at switches start l.path l.fn.way → AreHeights hop_at l.fn.heights → AreHeights hop_at l.heights × IsSettling hop_at l.path l.fn.way l.left l.height;
}

abbrev pub decreases-path : goal.decreases-path
decreases-path l = l.left
