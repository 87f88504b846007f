use Rattle.std.proofs.Common.{◌<◌}
use Rattle.dep_check.specs.declared.channel.Channel.{Channel}
use Rattle.dep_check.specs.Tables.{IsSpot, place_of}
use Rattle.dep_check.specs.Pairs.{GetsStuck}
use Rattle.dep_check.proofs.gap.least_end.Given as goal

-- packets get stuck at none of the spots so far
abbrev pub invariant-spots : goal.invariant-spots
invariant-spots l = (e : Channel) → IsSpot e → place_of e < l.place → GetsStuck l.steps l.fn.start e → ⊥
