use Rattle.std.proofs.Common.{◌≡◌, length}
use Rattle.dep_check.proofs.tier.give_tier.Given as goal

-- the table has a tier for each spot
abbrev pub invariant-spots : goal.invariant-spots
invariant-spots l = length l.tiers.items ≡ 1651
