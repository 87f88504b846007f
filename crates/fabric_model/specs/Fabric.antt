-- A fabric: switches, end ports, links, and who owns which LID.
use Rattle.std.specs.Prelude.{◌≡◌, ◌≢◌, ◌⊎◌, ◌<◌, ◌≤◌, ◌+◌, ◌-◌, ◌*◌, ◌^◌, ◌&&◌, ◌↔◌, ℕ, List, Option}
use Rattle.std.specs.Prelude.{Some, None, length, slice_get, slice_index_or, if◌then◌else◌, nat_lt, nat_eq}
use Rattle.std.specs.Prelude.{position, All, Contains, IsPermutation}
use Rattle.std.specs.List.Sorted.{IsStrictlyIncreasing}
use Rattle.std.specs.Map.{keys_of}
use Rattle.fabric_model.specs.Nodes.{EndsOwned, NodesOf, Owns}
use Rattle.fabric_model.specs.declared.node.Switch.{Switch}
use Rattle.fabric_model.specs.declared.node.Spot.{Spot}
use Rattle.fabric_model.specs.declared.node.Side.{Side}
use Rattle.fabric_model.specs.declared.node.Side.TheVariants.{Bare, To, End}
use Rattle.fabric_model.specs.declared.node.EndPort.{EndPort}
use Rattle.fabric_model.specs.declared.node.EndPort.TheVariants as port
use Rattle.fabric_model.specs.declared.node.LinkFault.{LinkFault}
use Rattle.fabric_model.specs.declared.node.LinkFault.TheVariants.{NoPort, Differs}

-- The nodes, in ascending order of GUID: numbers of switches and end ports are indices into these lists. Then
-- where each port leads, from port 1 of the first switch on, `most` ports for each switch; the port to which
-- each end port is cabled; and the owner of each LID.
pub record FabricOf : Type 0 where
  pub nodes : NodesOf
  pub most : ℕ
  pub sides : List Side
  pub cables : List (Option Spot)
  pub owners : List (Option EndPort)

abbrev pub switch_count : FabricOf → ℕ
switch_count fabric = length fabric.nodes.switches

-- where `port` of `switch` leads
abbrev pub side_of : FabricOf → ℕ → ℕ → Side
side_of fabric switch port = if nat_lt 0 port && nat_lt port (fabric.most + 1)
    then slice_index_or fabric.sides (switch * fabric.most + (port - 1)) Bare
    else Bare

-- the port to which `end`, an end port of an adapter or router, is cabled
abbrev pub cable_of : FabricOf → ℕ → Option Spot
cable_of fabric end = slice_index_or fabric.cables end None

abbrev pub owner_of : FabricOf → ℕ → Option EndPort
owner_of fabric lid = slice_index_or fabric.owners lid None

abbrev pub switch_at : Option Spot → Option ℕ
switch_at None = None
switch_at (Some spot) = Some spot.switch

-- the switch where the routes of the end port begin
abbrev pub start_of : FabricOf → EndPort → Option ℕ
start_of fabric (port.Host end) = switch_at (cable_of fabric end)
start_of fabric (port.Switch switch) = Some switch

-- the number of ports of the switch
abbrev pub ports_in : Option (ℕ × Switch) → ℕ
ports_in None = 0
ports_in (Some node) = node.1.ports

abbrev pub ports_of : FabricOf → ℕ → ℕ
ports_of fabric switch = ports_in (slice_get fabric.nodes.switches switch)

-- the index of the switch with `guid`
abbrev pub switch_with : FabricOf → ℕ → Option ℕ
switch_with fabric guid = position (nat_eq guid) (keys_of fabric.nodes.switches)

abbrev pub end_with : FabricOf → ℕ → Option ℕ
end_with fabric guid = position (nat_eq guid) (keys_of fabric.nodes.ends)

-- the GUID of the node, 0 if there is none
abbrev pub guid_in : {A : Type 0} → Option (ℕ × A) → ℕ
guid_in None = 0
guid_in (Some node) = node.0

abbrev pub guid_of : FabricOf → EndPort → ℕ
guid_of fabric (port.Host end) = guid_in (slice_get fabric.nodes.ends end)
guid_of fabric (port.Switch switch) = guid_in (slice_get fabric.nodes.switches switch)

-- a port that leads to a switch leads to one of the first `switches` switches
abbrev pub LeadsWithin : ℕ → Side → Type 0
LeadsWithin switches (To next entry) = next < switches
LeadsWithin switches Bare = Unit {0}
LeadsWithin switches (End end) = Unit {0}

abbrev pub AllLeadWithin : ℕ → List Side → Type 0
AllLeadWithin switches sides =
    (place : ℕ) → place < length sides → LeadsWithin switches (slice_index_or sides place Bare)

-- every end port that is cabled is cabled to one of the first `switches` switches
abbrev pub AllCabled : ℕ → List (Option Spot) → Type 0
AllCabled switches cables =
    (end : ℕ) (spot : Spot) → slice_index_or cables end None ≡ Some spot → spot.switch < switches

-- no end port is cabled
abbrev pub AreUncabled : List (Option Spot) → Type 0
AreUncabled cables = (end : ℕ) → slice_index_or cables end None ≡ None

-- `most` is the highest number of ports of a switch, or 0 if there is no switch
pub record IsMost (switches : List (ℕ × Switch)) (most : ℕ) : Type 0 where
  pub all : All (λ n. n.1.ports ≤ most) switches
  pub some : (most ≡ 0) ⊎ ((node : ℕ × Switch) × Contains switches node × (node.1.ports ≡ most))

-- The parts fit together: no switch has more than `most` ports, the nodes are in ascending order of GUID, and
-- the owner of a LID is the end port whose base LID and LMC contain it.
pub record IsFabric (fabric : FabricOf) : Type 0 where
  pub count : length fabric.sides ≡ switch_count fabric * fabric.most
  pub few : switch_count fabric ≤ 2 ^ 14
  pub low : fabric.most < 255
  pub within : AllLeadWithin (switch_count fabric) fabric.sides
  pub few_ends : length fabric.nodes.ends < 2 ^ 16
  pub cables : length fabric.cables ≡ length fabric.nodes.ends
  pub cabled : AllCabled (switch_count fabric) fabric.cables
  pub lids : length fabric.owners ≤ 0xC000
  pub last : EndsOwned fabric.owners
  pub most : IsMost fabric.nodes.switches fabric.most
  pub rising : IsStrictlyIncreasing (keys_of fabric.nodes.switches)
  pub rising_ends : IsStrictlyIncreasing (keys_of fabric.nodes.ends)
  pub owners :
      (lid : ℕ) (owner : EndPort) → ((owner_of fabric lid ≡ Some owner) ↔ Owns fabric.nodes owner lid)

-- `fabric` has the nodes `nodes`, and nothing in it is cabled
pub record IsBareOf (nodes : NodesOf) (fabric : FabricOf) : Type 0 where
  pub fits : IsFabric fabric
  pub switches : IsPermutation nodes.switches fabric.nodes.switches
  pub ends : IsPermutation nodes.ends fabric.nodes.ends
  pub bare : (switch port : ℕ) → side_of fabric switch port ≡ Bare
  pub uncabled : (end : ℕ) → cable_of fabric end ≡ None

-- the switch of `spot` has the port of `spot`
pub record IsPort (fabric : FabricOf) (spot : Spot) : Type 0 where
  pub used : 0 < spot.port
  pub low : spot.port ≤ ports_of fabric spot.switch

-- `port` of `switch` is not `spot`
abbrev pub IsOther : Spot → ℕ → ℕ → Type 0
IsOther spot switch port = (switch ≢ spot.switch) ⊎ (port ≢ spot.port)

-- `one` and `other` are linked in `new`, and all else is as in `old`
pub record IsLinked (old new : FabricOf) (one other : Spot) : Type 0 where
  pub count : length new.sides ≡ length old.sides
  pub there : side_of new one.switch one.port ≡ To other.switch other.port
  pub back : side_of new other.switch other.port ≡ To one.switch one.port
  pub others :
      (switch port : ℕ) → IsOther one switch port → IsOther other switch port
      → side_of new switch port ≡ side_of old switch port
  pub rest : new ≡ record old { sides = new.sides }

-- `end` and `spot` are cabled in `new`, and all else is as in `old`
pub record IsCabledTo (old new : FabricOf) (end : ℕ) (spot : Spot) : Type 0 where
  pub count : length new.sides ≡ length old.sides
  pub ends : length new.cables ≡ length old.cables
  pub there : side_of new spot.switch spot.port ≡ End end
  pub back : cable_of new end ≡ Some spot
  pub others :
      (switch port : ℕ) → IsOther spot switch port → side_of new switch port ≡ side_of old switch port
  pub other_ends : (other : ℕ) → other ≢ end → cable_of new other ≡ cable_of old other
  pub rest : new ≡ record old { sides = new.sides; cables = new.cables }

-- `AreLinked`: `one` and `other` are linked; `AreBare`: both are bare
pub record AreLinked (fabric : FabricOf) (one other : Spot) : Type 0 where
  pub there : side_of fabric one.switch one.port ≡ To other.switch other.port
  pub back : side_of fabric other.switch other.port ≡ To one.switch one.port

pub record AreBare (fabric : FabricOf) (one other : Spot) : Type 0 where
  pub there : side_of fabric one.switch one.port ≡ Bare
  pub back : side_of fabric other.switch other.port ≡ Bare

-- both switches have these ports, and the ports are linked to each other or both bare
abbrev pub MayLink : FabricOf → Spot → Spot → Type 0
MayLink fabric one other =
    IsPort fabric one × IsPort fabric other × (AreLinked fabric one other ⊎ AreBare fabric one other)

-- the link is rejected for this reason
abbrev pub IsRefusedLink : FabricOf → Spot → Spot → LinkFault → Type 0
IsRefusedLink fabric one other NoPort = (¬ IsPort fabric one) ⊎ (¬ IsPort fabric other)
IsRefusedLink fabric one other Differs = IsPort fabric one × IsPort fabric other
    × (¬ AreLinked fabric one other) × (¬ AreBare fabric one other)

-- `AreCabled`: `end` and `spot` are cabled to each other; `AreFree`: both are bare
pub record AreCabled (fabric : FabricOf) (end : ℕ) (spot : Spot) : Type 0 where
  pub there : side_of fabric spot.switch spot.port ≡ End end
  pub back : cable_of fabric end ≡ Some spot

pub record AreFree (fabric : FabricOf) (end : ℕ) (spot : Spot) : Type 0 where
  pub there : side_of fabric spot.switch spot.port ≡ Bare
  pub back : cable_of fabric end ≡ None

-- the switch has the port, and end port and port are cabled to each other or both bare
abbrev pub MayCable : FabricOf → ℕ → Spot → Type 0
MayCable fabric end spot = IsPort fabric spot × (AreCabled fabric end spot ⊎ AreFree fabric end spot)

-- the cable is rejected for this reason
abbrev pub IsRefusedCable : FabricOf → ℕ → Spot → LinkFault → Type 0
IsRefusedCable fabric end spot NoPort = ¬ IsPort fabric spot
IsRefusedCable fabric end spot Differs =
    IsPort fabric spot × (¬ AreCabled fabric end spot) × (¬ AreFree fabric end spot)
