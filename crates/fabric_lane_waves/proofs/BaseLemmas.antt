-- The rows of the graph: of each channel the first channel of the switch to which it leads.
use Rattle.std.proofs.Common.{◌≡◌, ◌∙◌, ap, ℕ, ◌+◌, ◌-◌, ◌*◌, ◌/◌, ◌^◌, ◌<◌, ◌≤◌, ◌&&◌, Bool, true, false, cond, ltb, arith, get_or, mul-le-mul_left, inl, inr}
use Rattle.std.proofs.lemmas.Bool.{cases_eq}
use Rattle.std.proofs.lemmas.Nat.{div-mul-add, mul-add-lt}
use Rattle.std.proofs.Math.Nat.{div-lt_iff_lt-mul}
use Rattle.common_graph.specs.Graph.{GraphOf}
use Rattle.fabric_model.specs.declared.node.Side.{Side}
use Rattle.fabric_model.specs.declared.node.Side.TheVariants.{Bare, To}
use Rattle.fabric_model.specs.Fabric.{FabricOf, IsFabric, switch_count}
use Rattle.fabric_routes.specs.Finding.{base_of}
use Rattle.fabric_routes.specs.Found.{IsChannel}
use Rattle.fabric_routes.specs.Routes.{Channel}
use Rattle.fabric_routes.proofs.ChannelLemmas.{channel_place}
use Rattle.fabric_lane_waves.specs.LaneSteps.{AreLaneBases, IsLaneGraphOf}

-- a channel has a lane, and is of a port
pub channel_port : (ports count channel : ℕ) → channel < ports * count → (0 < count) × (channel / count < ports)
channel_port ports count channel low = elim (cases_eq count 0) [
  | inl none ↦ absurd (let e : ports * count ≡ ports * 0 = ap (λ (n : ℕ). ports * n) none in omega arith)
  | inr some ↦ (let used : 0 < count = omega arith in (used, (div-lt_iff_lt-mul {k = count} {x = channel} {y = ports} used).1 low))
]

-- so few channels has a switch, and so few all
pub row_low : (most count : ℕ) → most < 255 → count ≤ 15 → most * count ≤ 3810
row_low most count low few =
    let a = mul-le-mul_left most few in
    omega arith

pub all_low : (switches row : ℕ) → switches ≤ 2 ^ 14 → row ≤ 3810 → switches * row < 2 ^ 31
all_low switches row few low =
    let a = mul-le-mul_left switches low in
    omega arith

side_by : (b : Bool) (side : Side) (next entry : ℕ) → cond b side Bare ≡ To next entry → side ≡ To next entry
side_by true side next entry is = is
side_by false side next entry is = absurd (cc)

-- bases are those of a graph of the fabric
pub lane_graph_of : (fabric : FabricOf) (count : ℕ) (graph : GraphOf) → IsFabric fabric → AreLaneBases fabric count (switch_count fabric * fabric.most * count) graph.bases → fabric.most * count ≤ 64 * graph.wide → IsLaneGraphOf fabric count graph
lane_graph_of fabric count graph fits are wide = record {
  nodes = are.size;
  wide = wide;
  bases = λ switch port next entry lane leads low.
      let channel : Channel = record { switch = switch; port = port } in
      let is : IsChannel fabric channel = record { to = next; entry = entry; leads = leads } in
      let place = channel_place fabric fits channel is in
      let within = mul-add-lt (switch * fabric.most + (port - 1)) count lane (switch_count fabric * fabric.most) place low in
      let side = side_by (ltb 0 port && ltb port (fabric.most + 1)) (get_or fabric.sides (switch * fabric.most + (port - 1)) Bare) next entry leads in
      are.each ((switch * fabric.most + (port - 1)) * count + lane) (omega arith)
      ∙ ap (λ (k : ℕ). base_of (fabric.most * count) (get_or fabric.sides k Bare)) (div-mul-add (switch * fabric.most + (port - 1)) count lane low)
      ∙ ap (base_of (fabric.most * count)) side;
}
