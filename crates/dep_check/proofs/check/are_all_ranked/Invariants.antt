use Rattle.std.proofs.Common.{◌≡◌, ◌<◌, None}
use Rattle.dep_check.specs.declared.channel.Channel.{Channel}
use Rattle.dep_check.specs.Tables.{IsSpot, place_of, level_at}
use Rattle.dep_check.specs.Search.{IsLinked}
use Rattle.dep_check.proofs.check.are_all_ranked.Given as goal

-- the channels so far have ranks
abbrev pub invariant-spots : goal.invariant-spots
invariant-spots l = (s : Channel) → IsSpot s → place_of s < l.place → IsLinked l.steps s → level_at l.levels s ≡ None → ⊥
