use Rattle.std.proofs.Common.{◌≡◌, ◌≤◌, length}
use Rattle.dep_check.proofs.tier.tiers_by.Given as goal

-- the tables have all spots
abbrev pub invariant-places : goal.invariant-places
invariant-places l = record { seen : length l.seen.items ≡ 1651; tiers : length l.tiers.items ≡ 1651; place : l.place ≤ length l.left }

abbrev pub decreases-places : goal.decreases-places
decreases-places l = l.place
