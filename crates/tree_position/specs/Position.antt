-- The position of a life: the least of its own position as a root and of those that the last offers on its links
-- give.
use Rattle.std.specs.Prelude.{◌==◌, ℕ, ◌+◌, List, [], ◌∷◌, ◌++◌, Option, Some, None, if◌then◌else◌, nat_lt}
use Rattle.std.specs.Prelude.{Contains, IsTrue}
use Rattle.std.specs.Ordering.{is_lt, is_le}
use Rattle.an_base.specs.Values.{LifeId, Place, PeerAt}
use Rattle.an_base.specs.Order.{position_cmp}
use Rattle.an_base.specs.declared.limits.TheConstants.{MOST_LEVEL}
use Rattle.tree_position.specs.declared.offers.Offer.{Offer}

-- a life, its links in ascending order of port, and the last offer on each
pub record OffersOf : Type 0 where
  pub me : LifeId
  pub links : List PeerAt
  pub offered : List (Option Offer)

-- the position of a life that is its own root
abbrev pub self_root : LifeId → Place
self_root me = record { root = me; level = 0; parent = me; port = 0 }

-- the position that an offer on a link gives: the same root, one level further down, over this link
abbrev pub below_offer : PeerAt → Offer → Place
below_offer link offer =
    record { root = offer.root; level = offer.level + 1; parent = link.peer.life; port = link.port }

-- the position that the last offer on a link gives; one of the deepest level gives none, because no tree is deeper
abbrev pub candidate : PeerAt → Option Offer → List Place
candidate link None = []
candidate link (Some offer) = if nat_lt offer.level MOST_LEVEL then below_offer link offer ∷ [] else []

-- the candidates of all links
abbrev pub candidates : List PeerAt → List (Option Offer) → List Place
candidates [] offered = []
candidates (link ∷ links) [] = []
candidates (link ∷ links) (offer ∷ offered) = candidate link offer ++ candidates links offered

-- the lesser of two positions; the first if they are equal
abbrev pub lesser : Place → Place → Place
lesser one other = if is_lt (position_cmp other one) then other else one

-- the least of a position and those of a list
abbrev pub least : Place → List Place → Place
least first [] = first
least first (second ∷ others) = least (lesser first second) others

-- the position of a life: the least of its own position as a root and of the candidates
abbrev pub position_of : LifeId → List PeerAt → List (Option Offer) → Place
position_of me links offered = least (self_root me) (candidates links offered)

-- the offers after one more on `port`
abbrev pub noted : List PeerAt → List (Option Offer) → ℕ → Offer → List (Option Offer)
noted [] offered port offer = offered
noted (link ∷ links) [] port offer = []
noted (link ∷ links) (old ∷ offered) port offer =
    (if link.port == port then Some offer else old) ∷ noted links offered port offer

-- `place` is one of the positions, and none of them is less
pub record IsLeast (place : Place) (places : List Place) : Type 0 where
  pub one : Contains places place
  pub least : (other : Place) → Contains places other → IsTrue (is_le (position_cmp place other))
