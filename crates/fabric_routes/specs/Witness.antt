-- How a witness is found. Except for `ComesFor`, `IsFirst`, `IsFirstSource` and `IsLesser`, only private
-- functions cite this.
use Rattle.std.specs.Prelude.{◌≡◌, ◌<◌, ◌≤◌, ◌⊎◌, ℕ, Option, Some, None}
use Rattle.fabric_model.specs.declared.node.EndPort.{EndPort}
use Rattle.fabric_model.specs.declared.node.EndPort.TheVariants.{Host, Switch}
use Rattle.fabric_model.specs.declared.node.Spot.{Spot}
use Rattle.fabric_model.specs.Fabric.{FabricOf, guid_of, start_of}
use Rattle.fabric_tables.specs.Cells.{TablesOf}
use Rattle.fabric_routes.specs.declared.hop.Hop.TheVariants.{On}
use Rattle.fabric_model.specs.declared.traffic.Traffic.{Traffic}
use Rattle.fabric_routes.specs.declared.audience.Audience.{Audience}
use Rattle.fabric_routes.specs.Audience.{IsHeard}
use Rattle.fabric_routes.specs.Routes.{Channel, ComesBy, Takes, hop}

-- the switch to which packets for `lid` go through the port of `channel`, if they do
abbrev pub IsNextBy : FabricOf → TablesOf → ℕ → Spot → Option ℕ → Type 0
IsNextBy fabric tables lid channel None = (next : ℕ) → hop fabric tables channel.switch lid ≡ On channel.port next → ⊥
IsNextBy fabric tables lid channel (Some next) = hop fabric tables channel.switch lid ≡ On channel.port next

-- packets for `lid` at the switch of `channel` take `channel` and then `next`
abbrev pub GoesBy : FabricOf → TablesOf → ℕ → Channel → Channel → Type 0
GoesBy fabric tables lid channel next =
    (hop fabric tables channel.switch lid ≡ On channel.port next.switch)
    × ((after : ℕ) × (hop fabric tables next.switch lid ≡ On next.port after))

-- `number` is the lowest number of a kind
pub record IsFirst (Is : ℕ → Type 0) (number : ℕ) : Type 0 where
  pub is : Is number
  pub first : (other : ℕ) → other < number → Is other → ⊥

-- `source` is the end port of lowest GUID of a kind
pub record IsFirstSource (fabric : FabricOf) (Is : EndPort → Type 0) (source : EndPort) : Type 0 where
  pub is : Is source
  pub first : (other : EndPort) → Is other → guid_of fabric source ≤ guid_of fabric other

-- the route from `source` to `lid`, whose audience is `audience`, comes to `via`
pub record ComesFor (fabric : FabricOf) (tables : TablesOf) (audience : Audience) (lid via : ℕ) (source : EndPort) : Type 0 where
  pub heard : IsHeard fabric audience lid source
  pub start : ℕ
  pub begins : start_of fabric source ≡ Some start
  pub hops : ℕ
  pub comes : ComesBy fabric tables lid hops start via

module _ (fabric : FabricOf) (tables : TablesOf) (traffic : Traffic) (lid : ℕ) where
  -- no route to the LID takes `channel` and then, directly, `next`
  abbrev pub NoSourceTakes : Channel → Channel → Type 0
  NoSourceTakes channel next = (source : EndPort) → Takes fabric tables traffic lid source channel next → ⊥

  -- `source` is the end port of lowest GUID whose route takes `channel` and then, directly, `next`
  pub record IsLeastAt (channel next : Channel) (source : EndPort) : Type 0 where
    pub takes : Takes fabric tables traffic lid source channel next
    pub first :
        (other : EndPort) → Takes fabric tables traffic lid other channel next
        → guid_of fabric source ≤ guid_of fabric other

-- `found` is whichever of an end port of an adapter or router and a switch has the lower GUID
abbrev pub IsLesserOf : FabricOf → ℕ → ℕ → Option EndPort → Type 0
IsLesserOf fabric end switch found =
    ((found ≡ Some (Host end)) × (guid_of fabric (Host end) ≤ guid_of fabric (Switch switch)))
    ⊎ ((found ≡ Some (Switch switch)) × (guid_of fabric (Switch switch) ≤ guid_of fabric (Host end)))

-- `found` is the one of lower GUID of those of the two that are given
abbrev pub IsLesser : FabricOf → Option ℕ → Option ℕ → Option EndPort → Type 0
IsLesser fabric None None found = found ≡ None
IsLesser fabric (Some end) None found = found ≡ Some (Host end)
IsLesser fabric None (Some switch) found = found ≡ Some (Switch switch)
IsLesser fabric (Some end) (Some switch) found = IsLesserOf fabric end switch found
