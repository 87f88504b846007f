-- What is kept of an epoch represents the bodies that were accepted in it.

use Rattle.std.specs.Prelude.{◌≡◌, ℕ, ◌+◌, ◌≤◌, List, ◌∷◌, ◌++◌, map, Option, Bool}
use Rattle.an_base.specs.Values.{Place, TopoOf}
use Rattle.tree_position.specs.Position.{OffersOf}
use Rattle.epoch_core.specs.declared.ports.Ports.{Ports}
use Rattle.epoch_core.specs.Log.{CardOf, OnPort, Log}
use Rattle.epoch_core.specs.Epoch.{offer_on, position, version, is_stable, finish, adds}
use Rattle.epoch_core.specs.Heard.{HasHeard}

-- what is kept of the bodies that a life accepted in an epoch
pub record CoreOf : Type 0 where
  pub card : CardOf
  pub epoch : ℕ
  pub offers : OffersOf
  pub ports : Ports
  pub position : Place
  pub version : ℕ
  pub is_stable : Bool
  pub finish : Option TopoOf

-- the last offer on each link
abbrev pub offers_of : CardOf → Log → OffersOf
offers_of card log = record { me = card.me; links = card.links; offered = map (offer_on log) card.links }

-- `core` represents the log: it has what the log gives
pub record StandsFor (core : CoreOf) (log : Log) : Type 0 where
  pub offers : core.offers ≡ offers_of core.card log
  pub ports : HasHeard core.ports log
  pub position : core.position ≡ position core.card log
  pub version : core.version ≡ version core.card log
  pub stable : core.is_stable ≡ is_stable core.card log
  pub finish : core.finish ≡ finish core.card log

-- whatever log `old` represented, `new` represents that log with one more item, and the bodies that the item adds
-- were appended to what is to be sent
pub record Accepts (old new : CoreOf) (item : OnPort) (before after : List OnPort) : Type 0 where
  pub card : new.card ≡ old.card
  pub epoch : new.epoch ≡ old.epoch
  pub version : new.version ≤ old.version + 1
  pub stands : (log : Log) → StandsFor old log → StandsFor new (item ∷ log)
  pub sends : (log : Log) → StandsFor old log → after ≡ before ++ adds old.card (item ∷ log)
