use Rattle.std.proofs.Common.{◌+◌, ◌≤◌, length}
use Rattle.memchr.specs.Find.{Nowhere, OccursAt}
use Rattle.fabric_words.proofs.cut.last_place.Given as goal

-- the bytes stand nowhere from here on
abbrev pub invariant-places : goal.invariant-places
invariant-places l = record { within : l.end ≤ length l.text + 1; past : Nowhere (OccursAt l.text l.bytes) l.end (length l.text + 1) }

abbrev pub decreases-places : goal.decreases-places
decreases-places l = l.end
