use Rattle.std.proofs.Common.{◌≡◌, ◌<◌, ◌↔◌, ℕ, take}
use Rattle.std.specs.Int.{bit_at}
use Rattle.fabric_lane_tables.specs.InUse.{IsAskedTo}
use Rattle.fabric_lane_tables.specs.Levels.{levels_of}
use Rattle.fabric_lane_tables.proofs.in_use.asked_to.Given as goal

-- the levels to the LIDs so far
abbrev pub invariant-lids : goal.invariant-lids
invariant-lids l = (level : ℕ) → level < 16 → ((bit_at l.levels level ≡ 1) ↔ IsAskedTo (levels_of l.given) l.owner (take l.lid-index l.lids) level)
