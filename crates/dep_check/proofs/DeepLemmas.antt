-- What a walk in depth has still to do.
use Rattle.std.proofs.Common.{◌≡◌, ◌∙◌, ap, ℕ, ◌+◌, List, [], ◌∷◌, ◌++◌, Bool, true, false, arith, length, length-set, set, get_or, All}
use Rattle.dep_check.specs.declared.channel.Channel.{Channel}
use Rattle.dep_check.specs.declared.deep.Visit.{Visit}
use Rattle.dep_check.specs.Deep.{AreVisits, HasVisited, IsLonger}
use Rattle.dep_check.specs.Tables.{IsSpot, place_of}
use Rattle.dep_check.specs.Walks.{seen_at}
use Rattle.dep_check.proofs.SpotLemmas.{place_low}
use Rattle.dep_check.proofs.WalkLemmas.{push_more, unseen_less}

pub longer_none : (path : List Visit) → AreVisits path → IsLonger 0 path path
longer_none path are = record { visits = are; few = omega arith }

pub longer_same : (path : List Visit) → AreVisits path → IsLonger 1 path path
longer_same path are = record { visits = are; few = omega arith }

pub longer_more : (most : ℕ) (old mid new : List Visit) → IsLonger most old mid → IsLonger 1 mid new → IsLonger (most + 1) old new
longer_more most old mid new first last = let a = first.few in let b = last.few in record { visits = last.visits; few = omega arith }

-- a spot was not seen: it will be left, and all that is behind it is come to before
pub visited : (seen : List Bool) (before mid path : List Visit) (left : List Channel) (spot : Channel) (place : ℕ) (visit : Visit) → length seen ≡ 1651 → IsSpot spot → place ≡ place_of spot → seen_at seen spot ≡ false → mid ≡ before ++ visit ∷ [] → IsLonger 13 mid path → All IsSpot left → HasVisited seen before (set seen place true) path left
visited seen before mid path left spot place visit count is at bare mid_is longer spots =
    let low = place_low spot is in
    let less = unseen_less seen place (omega arith) (ap (λ (k : ℕ). get_or seen k false) at ∙ bare) in
    let more = push_more before visit in
    let size : length mid ≡ length (before ++ visit ∷ []) = ap (λ (xs : List Visit). length xs) mid_is in
    let few = longer.few in
    record {
      count = length-set seen place true ∙ count;
      visits = longer.visits;
      spots = spots;
      less = omega arith;
    }
