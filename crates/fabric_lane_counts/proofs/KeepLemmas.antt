-- Where nothing is discarded each route ends as on one lane.
use Rattle.std.proofs.Common.{◌≡◌, sym, refl, subst, ℕ, zero, suc, ◌+◌, ◌-◌, ◌*◌, ◌<◌, ◌≤◌, ◌&&◌, Bool, true, false, cond, ltb, get_or, length, eqb, mul_comm, None, Some, arith, inl, inr}
use Rattle.std.specs.Int.RustNames.{bit_and}
use Rattle.std.proofs.lemmas.Bool.{cases_eq, cases_lt, eqb-true, ltb-true}
use Rattle.std.proofs.lemmas.List.{get_or_past}
use Rattle.std.proofs.lemmas.Nat.{mul-add-lt}
use Rattle.std.specs.Int.{bit_at}
use Rattle.fabric_tables.specs.Cells.{TablesOf}
use Rattle.fabric_lane_counts.specs.Gone.{HasLane}
use Rattle.fabric_lane_counts.specs.Keep.{AreCablesKept, AreLinksKept, IsCableKept, IsKept, IsKeptAt, IsKeptBy, IsSideKept}
use Rattle.fabric_lane_counts.proofs.GoneLemmas.{goes_next, gone_exit, next_within, no_common}
use Rattle.fabric_lane_routes.specs.declared.hop.LaneOutcome.TheVariants.{Discards}
use Rattle.fabric_lane_routes.specs.LaneRoutes.{LaneEndsAs, LaneWalksBy, begin_of, lane_hop}
use Rattle.fabric_lane_routes.proofs.HopLemmas.{exit_side}
use Rattle.fabric_model.specs.declared.node.EndPort.{EndPort}
use Rattle.fabric_model.specs.declared.node.EndPort.TheVariants.{Host, Switch}
use Rattle.fabric_model.specs.declared.node.Side.{Side}
use Rattle.fabric_model.specs.declared.node.Side.TheVariants.{Bare, To}
use Rattle.fabric_model.specs.declared.node.Spot.{Spot}
use Rattle.fabric_model.specs.Fabric.{FabricOf, IsFabric, cable_of, side_of, switch_count}
use Rattle.fabric_model.specs.declared.traffic.Traffic.{Traffic}
use Rattle.fabric_routes.specs.Routes.{IsSource}
use Rattle.fabric_routes.proofs.StartLemmas.{source_low}
use Rattle.fabric_lane_tables.specs.Lanes.{LanesOf}

-- a port by which something goes out is one that there is
low_of : (a b : Bool) (side : Side) → HasLane (cond (a && b) side Bare) → b ≡ true
low_of true true side has = refl
low_of true false side has = absurd has
low_of false b side has = absurd has

pub has_low : (fabric : FabricOf) (switch port : ℕ) → HasLane (side_of fabric switch port) → port ≤ fabric.most
has_low fabric switch port has =
    let low = ltb-true port (fabric.most + 1) (low_of (ltb 0 port) (ltb port (fabric.most + 1)) (get_or fabric.sides (switch * fabric.most + (port - 1)) Bare) has) in
    omega arith

-- no level of a word is among those of another
pub kept_word : (word used level : ℕ) → eqb (bit_and word used) 0 ≡ true → bit_at word level ≡ 1 → bit_at used level ≡ 1 → ⊥
kept_word word used level none = no_common word used level (eqb-true (bit_and word used) 0 none)

-- one port more
pub kept_more : (fabric : FabricOf) (lanes : LanesOf) (used : ℕ) (at : Spot) (below : ℕ) → ((port : ℕ) → port < below → IsKeptBy fabric lanes used at port) → IsKeptBy fabric lanes used at below → (port : ℕ) → port < below + 1 → IsKeptBy fabric lanes used at port
kept_more fabric lanes used at below before now port less = elim (cases_eq port below) [
  | inl same ↦ subst (λ (p : ℕ). IsKeptBy fabric lanes used at p) (sym same) now
  | inr other ↦ before port (omega arith)
]

pub kept_all : (fabric : FabricOf) (lanes : LanesOf) (used : ℕ) (at : Spot) (below : ℕ) → fabric.most + 1 ≤ below → ((port : ℕ) → port < below → IsKeptBy fabric lanes used at port) → IsKeptAt fabric lanes used at
kept_all fabric lanes used at below last all port has = all port (let low = has_low fabric at.switch port has in omega arith) has

-- one side more
abbrev pub AreSidesKept : FabricOf → LanesOf → ℕ → ℕ → Type 0
AreSidesKept fabric lanes used below = (place : ℕ) → place < below → IsSideKept fabric lanes used (get_or fabric.sides place Bare)

pub side_more : (fabric : FabricOf) (lanes : LanesOf) (used below : ℕ) → AreSidesKept fabric lanes used below → IsSideKept fabric lanes used (get_or fabric.sides below Bare) → AreSidesKept fabric lanes used (below + 1)
side_more fabric lanes used below before now place less = elim (cases_eq place below) [
  | inl same ↦ subst (λ (p : ℕ). IsSideKept fabric lanes used (get_or fabric.sides p Bare)) (sym same) now
  | inr other ↦ before place (omega arith)
]

side_in : (a b : Bool) (side : Side) (next entry : ℕ) → cond (a && b) side Bare ≡ To next entry → (a ≡ true) × (b ≡ true) × (side ≡ To next entry)
side_in true true side next entry is = (refl, refl, is)
side_in true false side next entry is = absurd (cc)
side_in false b side next entry is = absurd (cc)

pub sides_all : (fabric : FabricOf) (lanes : LanesOf) (used below : ℕ) → switch_count fabric * fabric.most ≤ below → AreSidesKept fabric lanes used below → AreLinksKept fabric lanes used
sides_all fabric lanes used below last all switch port within next entry is =
    let (some, few, side) = side_in (ltb 0 port) (ltb port (fabric.most + 1)) (get_or fabric.sides (switch * fabric.most + (port - 1)) Bare) next entry is in
    let used_port = ltb-true 0 port some in
    let low = ltb-true port (fabric.most + 1) few in
    let place = mul-add-lt switch fabric.most (port - 1) (switch_count fabric) within (omega arith) in
    let turned = mul_comm fabric.most (switch_count fabric) in
    all (switch * fabric.most + (port - 1)) (omega arith) next entry side

-- one cable more
abbrev pub AreCablesBelow : FabricOf → LanesOf → ℕ → ℕ → Type 0
AreCablesBelow fabric lanes used below = (end : ℕ) → end < below → IsCableKept fabric lanes used (cable_of fabric end)

pub cable_more : (fabric : FabricOf) (lanes : LanesOf) (used below : ℕ) → AreCablesBelow fabric lanes used below → IsCableKept fabric lanes used (cable_of fabric below) → AreCablesBelow fabric lanes used (below + 1)
cable_more fabric lanes used below before now end less = elim (cases_eq end below) [
  | inl same ↦ subst (λ (e : ℕ). IsCableKept fabric lanes used (cable_of fabric e)) (sym same) now
  | inr other ↦ before end (omega arith)
]

pub cables_all : (fabric : FabricOf) (lanes : LanesOf) (used below : ℕ) → length fabric.cables ≤ below → AreCablesBelow fabric lanes used below → AreCablesKept fabric lanes used
cables_all fabric lanes used below last all end spot is = elim (cases_lt end below) [
  | inl low ↦ all end low spot is
  | inr high ↦ absurd (let past = get_or_past fabric.cables end None (omega arith) in cc)
]

-- one switch more
abbrev pub AreSwitchesBelow : FabricOf → LanesOf → ℕ → ℕ → Type 0
AreSwitchesBelow fabric lanes used below = (switch : ℕ) → switch < below → IsKeptAt fabric lanes used (record { switch = switch; port = 0 })

pub switch_more : (fabric : FabricOf) (lanes : LanesOf) (used below : ℕ) → AreSwitchesBelow fabric lanes used below → IsKeptAt fabric lanes used (record { switch = below; port = 0 }) → AreSwitchesBelow fabric lanes used (below + 1)
switch_more fabric lanes used below before now switch less = elim (cases_eq switch below) [
  | inl same ↦ subst (λ (s : ℕ). IsKeptAt fabric lanes used (record { switch = s; port = 0 })) (sym same) now
  | inr other ↦ before switch (omega arith)
]

module _ (fabric : FabricOf) (fits : IsFabric fabric) (tables : TablesOf) (lanes : LanesOf) (used : ℕ) (kept : IsKept fabric lanes used) (level lid : ℕ) (low : level < 16) (bit : bit_at used level ≡ 1) where
  abbrev Kept : Spot → Type 0
  Kept at = IsKeptAt fabric lanes used at × (at.switch < switch_count fabric)

  kept_to : (hops : ℕ) (start at : Spot) → LaneWalksBy (lane_hop fabric tables lanes level lid) hops start at → Kept start → Kept at
  kept_to zero start at here is = subst Kept here is
  kept_to (suc hops) start at (before, port, lane, walk, on) is =
      let (all, within) = kept_to hops start before walk is in
      let (by, leads) = goes_next fabric tables lanes lid level before port lane at on in
      let side = (exit_side fabric before.switch (tables before.switch lid) by (To at.switch at.port) leads).2 in
      (kept.links before.switch by within at.switch at.port (sym side), next_within fabric tables lanes lid fits before.switch at (by, leads))

  none_gone_from : (start : Spot) → Kept start → LaneEndsAs (lane_hop fabric tables lanes level lid) start Discards → ⊥
  none_gone_from start is (hops, at, walk, gone) =
      let (all, within) = kept_to hops start at walk is in
      let (port, has, lane) = gone_exit fabric tables lanes lid level at gone in
      all port has level low bit lane

  begins_kept : (traffic : Traffic) (source : EndPort) (start : Spot) → IsSource fabric traffic source → begin_of fabric source ≡ Some start → Kept start
  begins_kept traffic (Host end) start sends is = (kept.cables end start is, fits.cabled end start is)
  begins_kept traffic (Switch switch) start sends is =
      let within = source_low fabric traffic switch sends in
      let e : (let own : Spot = record { switch = switch; port = 0 } in own) ≡ start = cc in
      subst Kept e (kept.switches switch within, within)

  pub none_gone : (traffic : Traffic) (source : EndPort) (start : Spot) → IsSource fabric traffic source → begin_of fabric source ≡ Some start → LaneEndsAs (lane_hop fabric tables lanes level lid) start Discards → ⊥
  none_gone traffic source start sends is gone = none_gone_from start (begins_kept traffic source start sends is) gone
