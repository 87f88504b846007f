-- What a life accepted in an epoch, and what the bodies on one port say.

use Rattle.std.specs.Prelude.{◌==◌, ℕ, List, [], ◌∷◌, Option, Some, None, Bool, false, if◌then◌else◌}
use Rattle.an_base.specs.Values.{LifeId, PeerAt, EntryOf, PosOf}
use Rattle.an_base.specs.declared.body.Body.{Body}
use Rattle.an_base.specs.declared.body.Body.TheVariants.{Pos, Answer, Stable, Topo}

-- what is fixed when a life joins an epoch: the life, the number that it proposes for itself, and its links in
-- ascending order of port
pub record CardOf : Type 0 where
  pub me : LifeId
  pub proposed : ℕ
  pub links : List PeerAt

-- a body, and the port on which it was accepted or is sent
pub record OnPort : Type 0 where
  pub port : ℕ
  pub body : Body

-- what a life accepted in the epoch, the newest first; a tail is what it had accepted at an earlier point in time
abbrev pub Log : Type 0
Log = List OnPort

-- the bodies on one port, in the list's order
abbrev pub on_port : ℕ → List OnPort → List Body
on_port port [] = []
on_port port (item ∷ items) = if item.port == port then item.body ∷ on_port port items else on_port port items

-- the last position among the bodies on one port, the newest first
abbrev pub last_pos : List Body → Option PosOf
last_pos [] = None
last_pos (Pos pos ∷ bodies) = Some pos
last_pos (Answer answer ∷ bodies) = last_pos bodies
last_pos (Stable entries ∷ bodies) = last_pos bodies
last_pos (Topo topo ∷ bodies) = last_pos bodies

-- whether the last position or answer among the bodies says that the link leads to its sender's parent
abbrev pub is_claimed : List Body → Bool
is_claimed [] = false
is_claimed (Pos pos ∷ bodies) = pos.to_parent
is_claimed (Answer answer ∷ bodies) = answer.to_parent
is_claimed (Stable entries ∷ bodies) = is_claimed bodies
is_claimed (Topo topo ∷ bodies) = is_claimed bodies

-- the version that the last answer among the bodies names
abbrev pub answered : List Body → Option ℕ
answered [] = None
answered (Pos pos ∷ bodies) = answered bodies
answered (Answer answer ∷ bodies) = Some answer.version
answered (Stable entries ∷ bodies) = answered bodies
answered (Topo topo ∷ bodies) = answered bodies

-- the last report among the bodies
abbrev pub last_report : List Body → Option (List EntryOf)
last_report [] = None
last_report (Pos pos ∷ bodies) = last_report bodies
last_report (Answer answer ∷ bodies) = last_report bodies
last_report (Stable entries ∷ bodies) = Some entries
last_report (Topo topo ∷ bodies) = last_report bodies

-- the last report among the bodies, if it came after the last position
abbrev pub fresh_report : List Body → Option (List EntryOf)
fresh_report [] = None
fresh_report (Pos pos ∷ bodies) = None
fresh_report (Answer answer ∷ bodies) = fresh_report bodies
fresh_report (Stable entries ∷ bodies) = Some entries
fresh_report (Topo topo ∷ bodies) = fresh_report bodies
