use Rattle.std.proofs.Common.{◌≡◌, ◌+◌, ◌/◌, ◌<◌, ℕ, get_or}
use Rattle.fabric_lane_tables.specs.PathLevels.{block_word}
use Rattle.fabric_lane_tables.proofs.levels.load.Given as goal

-- the first LIDs are read
abbrev pub invariant-lids : goal.invariant-lids
invariant-lids l = (k : ℕ) → k < l.lid → get_or l.row k 0 ≡ block_word l.rows.keys (get_or l.places (l.first + k / 64) 4294967295) k
