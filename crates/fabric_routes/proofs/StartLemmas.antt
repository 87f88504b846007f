-- Where routes begin.
use Rattle.std.proofs.Common.{◌≡◌, ◌≢◌, ap, subst, refl, ℕ, ◌*◌, ◌<◌, ◌≤◌, Option, Some, None, arith, length, inl, inr, ◌⊎◌}
use Rattle.std.proofs.lemmas.Bool.{cases_eq, cases_lt}
use Rattle.std.proofs.lemmas.List.{get_or_past}
use Rattle.fabric_tables.specs.Cells.{TablesOf}
use Rattle.fabric_model.specs.declared.node.Spot.{Spot}
use Rattle.fabric_model.specs.declared.node.EndPort.{EndPort}
use Rattle.fabric_model.specs.declared.node.EndPort.TheVariants.{Host, Switch}
use Rattle.fabric_model.specs.declared.traffic.Traffic.{Traffic}
use Rattle.fabric_model.specs.declared.traffic.Traffic.TheVariants.{Hosts, Lids, Managed, All, Rows}
use Rattle.fabric_model.specs.Fabric.{FabricOf, IsFabric, switch_count, cable_of, start_of, switch_at}
use Rattle.fabric_routes.specs.Routes.{IsSource, Sends}

-- two end ports are one, or not
pub same_end : (a b : EndPort) → (a ≡ b) ⊎ (a ≢ b)
same_end (Host a) (Host b) = elim (cases_eq a b) [
  | inl same ↦ inl (ap Host same)
  | inr other ↦ inr (λ e. other (cc))
]
same_end (Host a) (Switch b) = inr (λ e. cc)
same_end (Switch a) (Host b) = inr (λ e. cc)
same_end (Switch a) (Switch b) = elim (cases_eq a b) [
  | inl same ↦ inl (ap Switch same)
  | inr other ↦ inr (λ e. other (cc))
]

pub starts_nowhere : (start : Option ℕ) (switch : ℕ) → start ≡ None → start ≡ Some switch → ⊥
starts_nowhere start switch none is = cc

pub same_some : (a b : EndPort) → Some a ≡ Some b → a ≡ b
same_some a b e = cc

-- an end port that is cabled is one of the fabric
pub cabled_low : (fabric : FabricOf) (end switch : ℕ) → start_of fabric (Host end) ≡ Some switch → end < length fabric.cables
cabled_low fabric end switch at = elim (cases_lt end (length fabric.cables)) [
  | inl low ↦ low
  | inr high ↦ absurd (let past : start_of fabric (Host end) ≡ None = ap switch_at (get_or_past fabric.cables end None high) in cc)
]

-- a switch that sends is one of the fabric
pub source_low : (fabric : FabricOf) (traffic : Traffic) (switch : ℕ) → IsSource fabric traffic (Switch switch) → switch < switch_count fabric
source_low fabric Hosts switch is = absurd is
source_low fabric Lids switch is = absurd is
source_low fabric Managed switch is = is
source_low fabric All switch is = is
source_low fabric Rows switch is = is

-- who sends to a LID is a source
pub sender_is : (fabric : FabricOf) (tables : TablesOf) (traffic : Traffic) (lid : ℕ) (source : EndPort) → Sends fabric tables traffic lid source → IsSource fabric traffic source
sender_is fabric tables traffic lid source (inl sends) = sends.is_source
sender_is fabric tables traffic lid source (inr sends) = sends.is_source

-- to a LID beyond all tables and owners no one sends
pub sent_low : (fabric : FabricOf) (tables : TablesOf) (traffic : Traffic) (blocks : ℕ) → length fabric.owners ≤ 64 * blocks → ((switch lid : ℕ) → 64 * blocks ≤ lid → tables switch lid ≡ None) → (lid : ℕ) (source : EndPort) → Sends fabric tables traffic lid source → lid < 64 * blocks
sent_low fabric tables traffic blocks owners past lid source (inl sends) = elim (cases_lt lid (64 * blocks)) [
  | inl low ↦ low
  | inr high ↦ absurd (let none = get_or_past fabric.owners lid None (omega arith) in let owns = sends.owns in cc)
]
sent_low fabric tables traffic blocks owners past lid source (inr sends) = elim (cases_lt lid (64 * blocks)) [
  | inl low ↦ low
  | inr high ↦ absurd (let none = past sends.has_row.0 lid high in let row = sends.has_row.2 in cc)
]

-- routes begin at switches of the fabric
spot_at : (o : Option Spot) (switch : ℕ) → switch_at o ≡ Some switch → (spot : Spot) × (o ≡ Some spot) × (spot.switch ≡ switch)
spot_at None switch is = absurd (cc)
spot_at (Some spot) switch is = (spot, refl, (cc))

pub start_low : (fabric : FabricOf) → IsFabric fabric → (traffic : Traffic) (source : EndPort) (switch : ℕ) → IsSource fabric traffic source → start_of fabric source ≡ Some switch → switch < switch_count fabric
start_low fabric fits traffic (Host end) switch is at =
    let spot = spot_at (cable_of fabric end) switch at in
    subst (λ (s : ℕ). s < switch_count fabric) spot.2 (fits.cabled end spot.0 spot.1)
start_low fabric fits traffic (Switch own) switch is at =
    let e : own ≡ switch = cc in
    subst (λ (s : ℕ). s < switch_count fabric) e (source_low fabric traffic own is)

-- a source begins at some switch
pub source_starts : (fabric : FabricOf) (traffic : Traffic) (source : EndPort) → IsSource fabric traffic source → (switch : ℕ) × (start_of fabric source ≡ Some switch)
source_starts fabric traffic (Host end) is = is
source_starts fabric traffic (Switch own) is = (own, refl)
