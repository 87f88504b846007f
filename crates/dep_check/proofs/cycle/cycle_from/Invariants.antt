use Rattle.std.proofs.Common.{◌≡◌, List, ◌∷◌}
use Rattle.dep_check.specs.declared.channel.Channel.{Channel}
use Rattle.dep_check.specs.Tables.{IsSpot}
use Rattle.dep_check.specs.Search.{Descends, HasNextAt}
use Rattle.dep_check.proofs.cycle.cycle_from.Given as goal

-- the channels so far descend to this one, and one behind it has the level
abbrev pub invariant-levels : goal.invariant-levels
invariant-levels l =
    (cs : List Channel) × (l.channels.items ≡ l.fn.start ∷ cs) × Descends l.steps l.levels l.fn.start l.fn.length cs l.channel l.level × IsSpot l.channel × HasNextAt l.steps l.levels l.channel l.level

abbrev pub decreases-levels : goal.decreases-levels
decreases-levels l = l.level
