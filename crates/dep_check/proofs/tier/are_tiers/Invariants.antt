use Rattle.std.proofs.Common.{◌<◌}
use Rattle.dep_check.specs.declared.channel.Channel.{Channel}
use Rattle.dep_check.specs.Tables.{IsSpot, place_of}
use Rattle.dep_check.specs.Tiers.{RisesFrom}
use Rattle.dep_check.proofs.tier.are_tiers.Given as goal

-- no step from the spots so far leads to a lower tier
abbrev pub invariant-spots : goal.invariant-spots
invariant-spots l = (s : Channel) → IsSpot s → place_of s < l.place → RisesFrom l.steps l.tiers s
