-- What a hop that goes on says of the place at which it leaves.
use Rattle.std.proofs.Common.{◌≡◌, ◌≢◌, ◌∙◌, sym, ap, refl, subst, ℕ, ◌-◌, ◌<◌, Bool, cond, eqb, Option, Some, None, inl, inr}
use Rattle.fabric_tables.specs.Cells.{TablesOf}
use Rattle.fabric_lane_tables.specs.Lanes.{IsLaneCount, LanesOf}
use Rattle.fabric_model.specs.declared.node.EndPort.{EndPort}
use Rattle.fabric_model.specs.declared.node.Side.{Side}
use Rattle.fabric_model.specs.declared.node.Side.TheVariants.{To}
use Rattle.fabric_model.specs.declared.node.Spot.{Spot}
use Rattle.fabric_model.specs.Fabric.{FabricOf, IsFabric, owner_of, side_of, switch_count}
use Rattle.fabric_routes.specs.Found.{IsChannel}
use Rattle.fabric_routes.specs.Routes.{Channel, ends_at_switch}
use Rattle.fabric_routes.proofs.ChannelLemmas.{channel_place}
use Rattle.fabric_lane_routes.specs.declared.hop.LaneHop.TheVariants.{On}
use Rattle.fabric_lane_routes.specs.LaneRoutes.{lane_end_if, lane_hop, lane_hop_by, lane_hop_over}
use Rattle.fabric_lane_waves.specs.LaneGates.{AreAlike}
use Rattle.fabric_lane_waves.specs.LaneSteps.{Leaves, departure_place}
use Rattle.fabric_lane_routes.proofs.OnLemmas.{lane_on}
use Rattle.fabric_lane_waves.proofs.StepLemmas.{below_row}

-- the switch is one of the fabric
pub switch_low : (fabric : FabricOf) → IsFabric fabric → (switch port to entry : ℕ) → side_of fabric switch port ≡ To to entry → switch < switch_count fabric
switch_low fabric fits switch port to entry leads =
    let channel : Channel = record { switch = switch; port = port } in
    let is : IsChannel fabric channel = record { to = to; entry = entry; leads = leads } in
    below_row switch (port - 1) fabric.most (switch_count fabric) (channel_place fabric fits channel is)

-- and the lane is one of so many
pub lane_low : (lanes : LanesOf) (count : ℕ) → IsLaneCount lanes count → (switch entry port level lane : ℕ) → lane ≡ lanes switch entry port level → lane ≢ 15 → lane < count
lane_low lanes count counted switch entry port level lane is other = elim (counted.each switch entry port level) [
  | inl last ↦ absurd (other (is ∙ last))
  | inr low ↦ subst (λ (n : ℕ). n < count) (sym is) low
]

-- a hop that goes on leaves the switch at a place
pub on_leaves : (fabric : FabricOf) → IsFabric fabric → (tables : TablesOf) (lanes : LanesOf) (count : ℕ) → IsLaneCount lanes count → (level lid : ℕ) (at : Spot) (port lane : ℕ) (next : Spot) → lane_hop fabric tables lanes level lid at ≡ On port lane next → Leaves fabric tables lanes count lid (departure_place (switch_count fabric) count level at.switch lane) level (record { switch = at.switch; port = port; lane = lane }) next
on_leaves fabric fits tables lanes count counted level lid at port lane next is =
    let parts = lane_on fabric tables lanes level lid at port lane next is in
    record {
      is_at = refl;
      switch_low = switch_low fabric fits at.switch port next.switch next.port parts.3;
      lane_low = lane_low lanes count counted at.switch at.port port level lane parts.1 parts.2;
      told = parts.0;
      leads = parts.3;
    }

-- alike ports of a switch have the same hops
cond_alike : (b c : Bool) (owner : Option EndPort) (port one other : ℕ) (side : Side) → one ≡ other → cond b (lane_end_if c) (lane_hop_over owner port one side) ≡ cond b (lane_end_if c) (lane_hop_over owner port other side)
cond_alike b c owner port one other side same = ap (λ (n : ℕ). cond b (lane_end_if c) (lane_hop_over owner port n side)) same

by_alike : (fabric : FabricOf) (one other : ℕ → ℕ) (switch lid : ℕ) (told : Option ℕ) → ((port : ℕ) → one port ≡ other port) → lane_hop_by fabric one switch lid told ≡ lane_hop_by fabric other switch lid told
by_alike fabric one other switch lid None same = refl
by_alike fabric one other switch lid (Some port) same = cond_alike (eqb port 0) (ends_at_switch (owner_of fabric lid) switch) (owner_of fabric lid) port (one port) (other port) (side_of fabric switch port) (same port)

pub alike_hop : (fabric : FabricOf) (tables : TablesOf) (lanes : LanesOf) (level lid : ℕ) (one other : Spot) → AreAlike lanes one other → lane_hop fabric tables lanes level lid one ≡ lane_hop fabric tables lanes level lid other
unfolding lane_hop
alike_hop fabric tables lanes level lid one other alike =
    by_alike fabric (λ p. lanes one.switch one.port p level) (λ p. lanes other.switch other.port p level) one.switch lid (tables one.switch lid) (λ p. alike.1 p level)
    ∙ ap (λ (s : ℕ). lane_hop_by fabric (λ p. lanes other.switch other.port p level) s lid (tables s lid)) alike.0
