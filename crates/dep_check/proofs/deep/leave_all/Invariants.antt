use Rattle.std.proofs.Common.{◌≡◌, length, All}
use Rattle.dep_check.specs.Tables.{IsSpot}
use Rattle.dep_check.proofs.deep.leave_all.Given as goal

-- all that were left are spots
abbrev pub invariant-spots : goal.invariant-spots
invariant-spots l = record { count : length l.seen.items ≡ 1651; left : All IsSpot l.left.items }
