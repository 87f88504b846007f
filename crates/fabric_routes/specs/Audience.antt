-- Who sends to a LID.
use Rattle.std.specs.Prelude.{◌≡◌, ◌≢◌, ◌<◌, ◌+◌, ◌*◌, ◌⊎◌, ◌↔◌, ℕ, Some}
use Rattle.std.specs.Int.{bit_at}
use Rattle.fabric_model.specs.declared.node.EndPort.{EndPort}
use Rattle.fabric_model.specs.Fabric.{FabricOf, owner_of}
use Rattle.fabric_tables.specs.Cells.{TablesOf}
use Rattle.fabric_model.specs.declared.traffic.Traffic.{Traffic}
use Rattle.fabric_model.specs.declared.traffic.Traffic.TheVariants.{Lids, All}
use Rattle.fabric_routes.specs.declared.audience.Audience.{Audience}
use Rattle.fabric_routes.specs.declared.audience.Audience.TheVariants.{Nobody, Hosts, Everyone}
use Rattle.fabric_routes.specs.declared.audience.Targets.{Targets}
use Rattle.fabric_routes.specs.Routes.{IsSource, Sends}

-- `source` belongs to `audience`
abbrev pub IsHeardFrom : FabricOf → Audience → EndPort → Type 0
IsHeardFrom fabric Nobody source = ⊥
IsHeardFrom fabric Hosts source = IsSource fabric Lids source
IsHeardFrom fabric Everyone source = IsSource fabric All source

-- `source` belongs to `audience` and does not own `lid`
pub record IsHeard (fabric : FabricOf) (audience : Audience) (lid : ℕ) (source : EndPort) : Type 0 where
  pub is_from : IsHeardFrom fabric audience source
  pub other : owner_of fabric lid ≢ Some source

-- `audience` is the set of end ports that send to `lid`
abbrev pub IsAudience : FabricOf → TablesOf → Traffic → ℕ → Audience → Type 0
IsAudience fabric tables traffic lid audience =
    (source : EndPort) → (Sends fabric tables traffic lid source ↔ IsHeard fabric audience lid source)

-- `targets` sorts the LIDs of `block` by their audiences, as bits
pub record AreTargets (fabric : FabricOf) (tables : TablesOf) (traffic : Traffic) (block : ℕ) (targets : Targets) : Type 0 where
  pub hosts :
      (bit : ℕ) → bit_at targets.hosts bit ≡ 1
      → (bit < 64) × IsAudience fabric tables traffic (64 * block + bit) Hosts
  pub everyone :
      (bit : ℕ) → bit_at targets.everyone bit ≡ 1
      → (bit < 64) × IsAudience fabric tables traffic (64 * block + bit) Everyone
  pub nobody :
      (bit : ℕ) → bit < 64 → bit_at targets.hosts bit ≢ 1 → bit_at targets.everyone bit ≢ 1
      → IsAudience fabric tables traffic (64 * block + bit) Nobody

-- `new` is the word `old` with bit `bit` set
abbrev pub HasOneMore : (old new bit : ℕ) → Type 0
HasOneMore old new bit = (other : ℕ) → ((bit_at new other ≡ 1) ↔ ((bit_at old other ≡ 1) ⊎ (other ≡ bit)))

-- the LID of `bit` was added to those of its audience
abbrev pub IsPutFor : Audience → (old new : Targets) → ℕ → Type 0
IsPutFor Nobody old new bit = new ≡ old
IsPutFor Hosts old new bit = HasOneMore old.hosts new.hosts bit × (new.everyone ≡ old.everyone)
IsPutFor Everyone old new bit = HasOneMore old.everyone new.everyone bit × (new.hosts ≡ old.hosts)
