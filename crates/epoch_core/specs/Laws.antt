-- Notions for the theorems about one epoch at one life.

use Rattle.std.specs.Prelude.{◌≡◌, ◌<◌, ℕ, suc, ⊤, List, [], ◌∷◌, Option, Some, None, if◌then◌else◌, IsTrue}
use Rattle.std.specs.Ordering.{nat_cmp, ordering_then, is_le}
use Rattle.an_base.specs.Values.{Place, PosOf}
use Rattle.an_base.specs.Order.{life_cmp, position_cmp}
use Rattle.an_base.specs.declared.body.Body.{Body}
use Rattle.an_base.specs.declared.body.Body.TheVariants.{Pos, Answer, Stable, Topo}
use Rattle.an_base.specs.declared.limits.TheConstants.{MOST_LEVEL}
use Rattle.epoch_core.specs.Log.{CardOf, OnPort, Log, on_port, last_pos}
use Rattle.epoch_core.specs.Epoch.{position, version, has_moved, is_stable}

-- the number of items that changed the position
abbrev pub moves : CardOf → Log → ℕ
moves card [] = 0
moves card (item ∷ log) = if has_moved card item log then suc (moves card log) else moves card log

-- the number of topologies among the bodies
abbrev pub topos : List Body → ℕ
topos [] = 0
topos (Pos pos ∷ bodies) = topos bodies
topos (Answer answer ∷ bodies) = topos bodies
topos (Stable entries ∷ bodies) = topos bodies
topos (Topo topo ∷ bodies) = suc (topos bodies)

-- the item changes neither the position, nor the version, nor whether the life is stable
pub record IsSteady (card : CardOf) (item : OnPort) (log : Log) : Type 0 where
  pub position : position card (item ∷ log) ≡ position card log
  pub version : version card (item ∷ log) ≡ version card log
  pub stable : is_stable card (item ∷ log) ≡ is_stable card log

-- position `one` is at most `other`
abbrev pub IsAtMost : Place → Place → Type 0
IsAtMost one other = IsTrue (is_le (position_cmp one other))

-- position `new` offers no more than `old`: its root and level, in this order, are at most those of `old`, and if
-- `old` gave a position, so does `new`
pub record OffersLess (old new : PosOf) : Type 0 where
  pub offer : IsTrue (is_le (ordering_then (life_cmp new.root old.root) (nat_cmp new.level old.level)))
  pub gives : old.level < MOST_LEVEL → new.level < MOST_LEVEL

-- the body offers no more than the position before it, if there is one and the body is a position
abbrev pub Lowers : Option PosOf → Body → Type 0
Lowers None body = ⊤
Lowers (Some old) (Pos new) = OffersLess old new
Lowers (Some old) (Answer answer) = ⊤
Lowers (Some old) (Stable entries) = ⊤
Lowers (Some old) (Topo topo) = ⊤

-- on each port the offers only get less along the log
abbrev pub OnlyLowers : Log → Type 0
OnlyLowers [] = ⊤
OnlyLowers (item ∷ log) = Lowers (last_pos (on_port item.port log)) item.body × OnlyLowers log
