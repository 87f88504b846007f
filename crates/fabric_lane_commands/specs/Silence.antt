-- Pairs of an end port and a LID to which it sends that are given no service level.

use Rattle.std.specs.Prelude.{◌≡◌, ◌<◌, ◌≤◌, ◌⊎◌, ℕ, Option, Some, None}
use Rattle.fabric_model.specs.declared.node.EndPort.{EndPort}
use Rattle.fabric_model.specs.declared.node.EndPort.TheVariants.{Host, Switch}
use Rattle.fabric_model.specs.Fabric.{FabricOf, guid_of}
use Rattle.fabric_tables.specs.Cells.{TablesOf}
use Rattle.fabric_counts.specs.Counts.{Route}
use Rattle.fabric_routes.specs.Audience.{IsHeard}
use Rattle.fabric_routes.specs.declared.audience.Audience.{Audience}
use Rattle.fabric_model.specs.declared.traffic.Traffic.{Traffic}
use Rattle.fabric_lane_tables.specs.PathLevels.{HasLevel, LevelsOf}
use Rattle.fabric_lane_counts.specs.LaneCounts.{IsSilent}
use Rattle.fabric_print_lanes.specs.declared.answer.Mute.{Mute}

module _ (fabric : FabricOf) (tables : TablesOf) (traffic : Traffic) (given : LevelsOf) where
  -- each end port is given a level for each LID to which it sends, or one is given none
  abbrev pub NoneIsSilent : Type 0
  NoneIsSilent = (pair : Route) → IsSilent fabric tables traffic given pair → ⊥

  abbrev pub SomeIsSilent : Type 0
  SomeIsSilent = (pair : Route) × IsSilent fabric tables traffic given pair

  -- Of the pairs that are given none this one is to the least LID, and of those to it from the least GUID.
  pub record IsFirstSilent (pair : Route) : Type 0 where
    pub is : IsSilent fabric tables traffic given pair
    pub least : (other : Route) → IsSilent fabric tables traffic given other → pair.lid ≤ other.lid
    pub first :
        (other : Route) → IsSilent fabric tables traffic given other → other.lid ≡ pair.lid
        → guid_of fabric pair.source ≤ guid_of fabric other.source

  -- the first one, as an answer tells it, if there is one
  abbrev pub IsMute : Option Mute → Type 0
  IsMute None = NoneIsSilent
  IsMute (Some mute) =
      (pair : Route) × IsFirstSilent pair × (mute ≡ record { lid = pair.lid; source = guid_of fabric pair.source })

-- What follows only functions of `mute` cite.

-- an end port of an audience that sends to a LID, and has no level for it
pub record IsQuiet (fabric : FabricOf) (levels : LevelsOf) (audience : Audience) (lid : ℕ) (source : EndPort)
    : Type 0 where
  pub heard : IsHeard fabric audience lid source
  pub none : (level : ℕ) → HasLevel levels source lid level → ⊥

-- an end port at one of the first places
abbrev pub IsEndBelow : (ends switches : ℕ) → EndPort → Type 0
IsEndBelow ends switches (Host end) = end < ends
IsEndBelow ends switches (Switch switch) = switch < switches

-- of those at the first places the one of least GUID, if there is one
abbrev pub IsLeastQuiet :
    FabricOf → LevelsOf → Audience → (lid : ℕ) → (ends switches : ℕ) → Option EndPort → Type 0
IsLeastQuiet fabric levels audience lid ends switches None =
    (other : EndPort) → IsEndBelow ends switches other → IsQuiet fabric levels audience lid other → ⊥
IsLeastQuiet fabric levels audience lid ends switches (Some first) =
    IsQuiet fabric levels audience lid first
    × ((other : EndPort) → IsEndBelow ends switches other → IsQuiet fabric levels audience lid other
    → guid_of fabric first ≤ guid_of fabric other)

-- the one or the other, the one of lesser GUID if both are quiet
pub record IsLesser (fabric : FabricOf) (levels : LevelsOf) (audience : Audience) (lid : ℕ) (first : Option EndPort)
    (source : EndPort) (result : Option EndPort)
    : Type 0 where
  pub from :
      (one : EndPort) → result ≡ Some one
      → (first ≡ Some one) ⊎ ((one ≡ source) × IsQuiet fabric levels audience lid one)
  pub quiet :
      IsQuiet fabric levels audience lid source
      → (one : EndPort) × (result ≡ Some one) × (guid_of fabric one ≤ guid_of fabric source)
  pub less :
      (one : EndPort) → first ≡ Some one
      → (other : EndPort) × (result ≡ Some other) × (guid_of fabric other ≤ guid_of fabric one)
