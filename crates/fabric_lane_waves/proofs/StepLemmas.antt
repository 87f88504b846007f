-- One step from a place: where it leads, and the dependency that it adds.
use Rattle.std.proofs.Common.{◌≡◌, ◌∙◌, sym, ap, refl, subst, ℕ, ◌+◌, ◌-◌, ◌*◌, ◌<◌, ◌≤◌, List, Some, arith, length, get_or, inl, inr}
use Rattle.std.proofs.lemmas.Nat.{mul-add-lt, same_from_place}
use Rattle.std.proofs.lemmas.Bool.{cases_lt}
use Rattle.std.proofs.Math.Nat.{mul-le-mul_right}
use Rattle.common_graph.specs.Graph.{GraphOf}
use Rattle.fabric_tables.specs.Cells.{TablesOf}
use Rattle.fabric_lane_tables.specs.Lanes.{LanesOf}
use Rattle.fabric_model.specs.declared.node.Side.TheVariants.{To}
use Rattle.fabric_model.specs.declared.node.Spot.{Spot}
use Rattle.fabric_model.specs.Fabric.{FabricOf, side_of, switch_count}
use Rattle.fabric_lane_routes.specs.declared.hop.LaneHop.{LaneHop}
use Rattle.fabric_lane_routes.specs.declared.hop.LaneHop.TheVariants.{On}
use Rattle.fabric_lane_routes.specs.LaneFound.{lane_number}
use Rattle.fabric_lane_routes.specs.LaneRoutes.{IsLaneStop, LaneChannel, lane_hop}
use Rattle.fabric_routes.specs.Waves.{IsLink}
use Rattle.fabric_lane_routes.proofs.OnLemmas.{on_parts}
use Rattle.fabric_lane_waves.specs.LaneSteps.{ArePlaces, IsLaneGraphOf, LaneStep, LaneStops, Leaves, departure_place}

-- a place is of one level, switch and lane
pub one_departure : (n count l s v k t w : ℕ) → s < n → t < n → v < count → w < count → departure_place n count l s v ≡ departure_place n count k t w → (l ≡ k) × (s ≡ t) × (v ≡ w)
one_departure n count l s v k t w low_s low_t low_v low_w same =
    let outer = same_from_place (l * n + s) v (k * n + t) w count low_v low_w same in
    let inner = same_from_place l s k t n low_s low_t outer.0 in
    (inner.0, inner.1, outer.1)

-- the place of another switch and lane with the same level is one of the places
pub below_row : (a b w h : ℕ) → a * w + b < h * w → a < h
below_row a b w h low = elim (cases_lt a h) [
  | inl is ↦ is
  | inr high ↦ absurd (let more = mul-le-mul_right w high in omega arith)
]

pub place_low : (n count l s v t w places : ℕ) → ArePlaces n count places → departure_place n count l s v < places → t < n → w < count → departure_place n count l t w < places
place_low n count l s v t w places (levels, few, size) here low_t low_w =
    let row = below_row (l * n + s) v count (levels * n) (omega arith) in
    let level = below_row l s n levels row in
    let a = mul-add-lt l n t levels level low_t in
    let b = mul-add-lt (l * n + t) count w (levels * n) (omega arith) low_w in
    omega arith

-- a place is of one of sixteen levels
pub places_low : (n count place places : ℕ) → ArePlaces n count places → place < places → place < 16 * n * count
places_low n count place places (levels, few, size) low =
    let a = mul-le-mul_right n few in
    let b = mul-le-mul_right count a in
    omega arith

module _ (fabric : FabricOf) (count : ℕ) (graph : GraphOf) (rows : IsLaneGraphOf fabric count graph) where
  pub node_low : (s p v : ℕ) → s < switch_count fabric → 0 < p → p ≤ fabric.most → v < count → (s * fabric.most + (p - 1)) * count + v < length graph.bases
  node_low s p v low used fits lane =
      let a = mul-add-lt s fabric.most (p - 1) (switch_count fabric) low (omega arith) in
      let b = mul-add-lt (s * fabric.most + (p - 1)) count v (switch_count fabric * fabric.most) (omega arith) lane in
      let nodes = rows.nodes in
      omega arith

  pub offset_low : (q w : ℕ) → 0 < q → q ≤ fabric.most → w < count → (q - 1) * count + w < 64 * graph.wide
  offset_low q w used fits lane =
      let a = mul-add-lt (q - 1) count w fabric.most (omega arith) lane in
      let wide = rows.wide in
      omega arith

  module _ (s p v next q w : ℕ) (link : IsLink fabric s p next) (low : s < switch_count fabric) (lane : v < count) (used : 0 < q) (fits : q ≤ fabric.most) (next_lane : w < count) where
    base : get_or graph.bases ((s * fabric.most + (p - 1)) * count + v) 0 ≡ next * (fabric.most * count)
    base = rows.bases s p next link.entry v link.leads lane

    pub within_low : get_or graph.bases ((s * fabric.most + (p - 1)) * count + v) 0 + ((q - 1) * count + w) < length graph.bases
    within_low =
        let a = mul-add-lt (q - 1) count w fabric.most (omega arith) next_lane in
        let b = mul-add-lt next (fabric.most * count) ((q - 1) * count + w) (switch_count fabric) link.within (omega arith) in
        let nodes = rows.nodes in
        let at = base in
        omega arith

    pub other_is : get_or graph.bases ((s * fabric.most + (p - 1)) * count + v) 0 + ((q - 1) * count + w) ≡ (next * fabric.most + (q - 1)) * count + w
    other_is = let at = base in omega arith

-- the sides of a link are one
one_to : (a b c d : ℕ) → To a b ≡ To c d → (a ≡ c) × (b ≡ d)
one_to a b c d same = (cc, cc)

same_spot : (a b : Spot) → a.switch ≡ b.switch → a.port ≡ b.port → a ≡ b
same_spot a b switch port = ap (λ (s : ℕ). let x : Spot = record { switch = s; port = a.port } in x) switch ∙ ap (λ (p : ℕ). let x : Spot = record { switch = b.switch; port = p } in x) port

pub same_channel : (a b : LaneChannel) → a.switch ≡ b.switch → a.port ≡ b.port → a.lane ≡ b.lane → a ≡ b
same_channel a b switch port lane = ap (λ (s : ℕ). let x : LaneChannel = record { switch = s; port = a.port; lane = a.lane } in x) switch ∙ ap (λ (p : ℕ). let x : LaneChannel = record { switch = b.switch; port = p; lane = a.lane } in x) port ∙ ap (λ (v : ℕ). let x : LaneChannel = record { switch = b.switch; port = b.port; lane = v } in x) lane

some_same : (a b : ℕ) → Some a ≡ Some b → a ≡ b
some_same a b same = cc

module _ (fabric : FabricOf) (tables : TablesOf) (lanes : LanesOf) (count lid : ℕ) where
  -- what leaves at a place is one
  pub one_leaves : (at level other : ℕ) (from channel : LaneChannel) (next spot : Spot) → Leaves fabric tables lanes count lid at level from next → Leaves fabric tables lanes count lid at other channel spot → (other ≡ level) × (channel ≡ from) × (spot ≡ next)
  one_leaves at level other from channel next spot a b =
      let parts = one_departure (switch_count fabric) count other channel.switch channel.lane level from.switch from.lane b.switch_low a.switch_low b.lane_low a.lane_low (sym b.is_at ∙ a.is_at) in
      let port = some_same channel.port from.port (sym b.told ∙ ap (λ (s : ℕ). tables s lid) parts.1 ∙ a.told) in
      let to = one_to spot.switch spot.port next.switch next.port (sym b.leads ∙ ap (λ (s : ℕ). side_of fabric s channel.port) parts.1 ∙ ap (λ (p : ℕ). side_of fabric from.switch p) port ∙ a.leads) in
      (parts.0, same_channel channel from parts.1 port parts.2, same_spot spot next to.0 to.1)

  module _ (at level : ℕ) (from : LaneChannel) (next : Spot) (leaves : Leaves fabric tables lanes count lid at level from next) where
    hop_here : (other : ℕ) (channel : LaneChannel) (spot : Spot) → Leaves fabric tables lanes count lid at other channel spot → lane_hop fabric tables lanes other lid spot ≡ lane_hop fabric tables lanes level lid next
    hop_here other channel spot also = let one = one_leaves at level other from channel next spot leaves also in ap (λ (l : ℕ). lane_hop fabric tables lanes l lid spot) one.0 ∙ ap (λ (s : Spot). lane_hop fabric tables lanes level lid s) one.2

    -- it goes on: the one step
    module _ (port lane : ℕ) (after : Spot) (goes : lane_hop fabric tables lanes level lid next ≡ On port lane after) where
      pub the_step : LaneStep fabric tables lanes count lid at (departure_place (switch_count fabric) count level next.switch lane) (lane_number fabric count from) (lane_number fabric count (record { switch = next.switch; port = port; lane = lane }))
      the_step = record { level = level; from = from; next = next; leaves = leaves; port = port; lane = lane; after = after; goes = goes; is_to = refl; is_one = refl; is_other = refl }

      pub step_alone : (to one other : ℕ) → LaneStep fabric tables lanes count lid at to one other → (to ≡ departure_place (switch_count fabric) count level next.switch lane) × (one ≡ lane_number fabric count from) × (other ≡ lane_number fabric count (record { switch = next.switch; port = port; lane = lane }))
      step_alone to one other step =
          let same = one_leaves at level step.level from step.from next step.next leaves step.leaves in
          let parts = on_parts step.port step.lane port lane step.after after (sym step.goes ∙ hop_here step.level step.from step.next step.leaves ∙ goes) in
          let a : departure_place (switch_count fabric) count step.level step.next.switch step.lane ≡ departure_place (switch_count fabric) count level next.switch lane =
          ap (λ (l : ℕ). departure_place (switch_count fabric) count l step.next.switch step.lane) same.0 ∙ ap (λ (s : Spot). departure_place (switch_count fabric) count level s.switch step.lane) same.2 ∙ ap (λ (v : ℕ). departure_place (switch_count fabric) count level next.switch v) parts.1 in
          let c : lane_number fabric count (record { switch = step.next.switch; port = step.port; lane = step.lane }) ≡ lane_number fabric count (record { switch = next.switch; port = port; lane = lane }) =
          ap (λ (s : Spot). lane_number fabric count (record { switch = s.switch; port = step.port; lane = step.lane })) same.2 ∙ ap (λ (p : ℕ). lane_number fabric count (record { switch = next.switch; port = p; lane = step.lane })) parts.0 ∙ ap (λ (v : ℕ). lane_number fabric count (record { switch = next.switch; port = port; lane = v })) parts.1 in
          (step.is_to ∙ a, step.is_one ∙ ap (lane_number fabric count) same.1, step.is_other ∙ c)

      pub on_stops_not : LaneStops fabric tables lanes count lid at → ⊥
      on_stops_not stops = subst IsLaneStop (hop_here stops.level stops.from stops.next stops.leaves ∙ goes) stops.stops

    -- it ends
    module _ (does : LaneHop) (is : lane_hop fabric tables lanes level lid next ≡ does) where
      pub no_step : ((port lane : ℕ) (after : Spot) → does ≡ On port lane after → ⊥) → (to one other : ℕ) → LaneStep fabric tables lanes count lid at to one other → ⊥
      no_step ends to one other step = ends step.port step.lane step.after (sym is ∙ sym (hop_here step.level step.from step.next step.leaves) ∙ step.goes)

      pub it_stops : IsLaneStop does → LaneStops fabric tables lanes count lid at
      it_stops stops = record { level = level; from = from; next = next; leaves = leaves; stops = subst IsLaneStop (sym is) stops }

      pub stops_so : LaneStops fabric tables lanes count lid at → IsLaneStop does
      stops_so stops = subst IsLaneStop (hop_here stops.level stops.from stops.next stops.leaves ∙ is) stops.stops

  -- nothing leaves at the place
  module _ (level switch lane : ℕ) (low : switch < switch_count fabric) (lane_low : lane < count) (none : (port : ℕ) (next : Spot) → tables switch lid ≡ Some port → side_of fabric switch port ≡ To next.switch next.port → ⊥) where
    leaves_not : (other : ℕ) (channel : LaneChannel) (spot : Spot) → Leaves fabric tables lanes count lid (departure_place (switch_count fabric) count level switch lane) other channel spot → ⊥
    leaves_not other channel spot leaves =
        let parts = one_departure (switch_count fabric) count other channel.switch channel.lane level switch lane leaves.switch_low low leaves.lane_low lane_low (sym leaves.is_at) in
        none channel.port spot (ap (λ (s : ℕ). tables s lid) (sym parts.1) ∙ leaves.told) (ap (λ (s : ℕ). side_of fabric s channel.port) (sym parts.1) ∙ leaves.leads)

    pub steps_not : (to one other : ℕ) → LaneStep fabric tables lanes count lid (departure_place (switch_count fabric) count level switch lane) to one other → ⊥
    steps_not to one other step = leaves_not step.level step.from step.next step.leaves

    pub stops_not : LaneStops fabric tables lanes count lid (departure_place (switch_count fabric) count level switch lane) → ⊥
    stops_not stops = leaves_not stops.level stops.from stops.next stops.leaves

-- a graph with other dependencies has the same rows
pub graph_kept : (fabric : FabricOf) (count : ℕ) (old new : GraphOf) → new.wide ≡ old.wide → new.bases ≡ old.bases → IsLaneGraphOf fabric count old → IsLaneGraphOf fabric count new
graph_kept fabric count old new wide bases is = record {
  nodes = ap (λ (xs : List ℕ). length xs) bases ∙ is.nodes;
  wide = (let most = is.wide in let e = wide in omega arith);
  bases = λ switch port next entry lane leads low. ap (λ (xs : List ℕ). get_or xs ((switch * fabric.most + (port - 1)) * count + lane) 0) bases ∙ is.bases switch port next entry lane leads low;
}
