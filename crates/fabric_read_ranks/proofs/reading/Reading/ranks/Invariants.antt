use Rattle.std.proofs.Common.{◌≡◌, map, take}
use Rattle.std.specs.Prelude.{unwrap_or}
use Rattle.fabric_read_ranks.proofs.reading.Reading.ranks.Given as goal

-- the ranks so far
abbrev pub invariant-channels : goal.invariant-channels
invariant-channels l = l.ranks.items ≡ map (λ rank. unwrap_or rank 0) (take l.rank-index l.self.ranks.items)
