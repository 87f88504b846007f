-- Hops by exits, and the links by which they go on.
use Rattle.std.proofs.Common.{◌≡◌, ◌≢◌, ◌∙◌, sym, ap, refl, subst, ℕ, ◌<◌, ◌≤◌, Bool, true, false, cond, eqb, Option, Some, None, arith}
use Rattle.std.proofs.lemmas.Bool.{eqb-false}
use Rattle.fabric_model.specs.declared.node.Side.{Side}
use Rattle.fabric_model.specs.declared.node.Side.TheVariants.{Bare, To, End}
use Rattle.fabric_model.specs.declared.node.Spot.{Spot}
use Rattle.fabric_model.specs.Fabric.{FabricOf, LeadsWithin, owner_of, side_of, switch_count}
use Rattle.fabric_tables.specs.Cells.{TablesOf}
use Rattle.fabric_lane_tables.specs.Lanes.{LanesOf}
use Rattle.fabric_routes.specs.declared.hop.Cause.TheVariants.{Missing}
use Rattle.fabric_routes.specs.Links.{IsTo}
use Rattle.fabric_routes.specs.Routes.{ends_at_host, ends_at_switch}
use Rattle.fabric_routes.proofs.ChannelLemmas.{port_low}
use Rattle.fabric_lane_routes.specs.declared.hop.Exit.{Exit}
use Rattle.fabric_lane_routes.specs.declared.hop.Exit.TheVariants.{Nowhere, Own, By}
use Rattle.fabric_lane_routes.specs.declared.hop.LaneHop.{LaneHop}
use Rattle.fabric_lane_routes.specs.declared.hop.LaneHop.TheVariants.{On, Stop, Discard}
use Rattle.fabric_lane_routes.specs.LaneRoutes.{lane_end_if, lane_hop, lane_hop_by, lane_hop_over}
use Rattle.fabric_lane_routes.specs.LaneExits.{IsByLaneLink, exit_of}

-- an exit by a port is by the side of it
by_parts : (b : Bool) (one port : ℕ) (side other : Side) → cond b Own (By one side) ≡ By port other → (b ≡ false) × (one ≡ port) × (side ≡ other)
by_parts true one port side other is = absurd (cc)
by_parts false one port side other is = (refl, (cc), (cc))

pub exit_side : (fabric : FabricOf) (switch : ℕ) (told : Option ℕ) (port : ℕ) (side : Side) → exit_of fabric switch told ≡ By port side → (told ≡ Some port) × (port ≢ 0) × (side ≡ side_of fabric switch port)
exit_side fabric switch None port side is = absurd (cc)
exit_side fabric switch (Some one) port side is =
    let parts = by_parts (eqb one 0) one port (side_of fabric switch one) side is in
    (ap Some parts.1, λ zero. eqb-false one 0 parts.0 (parts.1 ∙ zero), sym parts.2 ∙ ap (λ (p : ℕ). side_of fabric switch p) parts.1)

module _ (fabric : FabricOf) (lanes : LanesOf) (level lid : ℕ) (at : Spot) where
  abbrev pub through : Exit → LaneHop
  through Nowhere = Stop Missing
  through Own = lane_end_if (ends_at_switch (owner_of fabric lid) at.switch)
  through (By port side) = lane_hop_over (owner_of fabric lid) port (lanes at.switch at.port port level) side

  by_cond : (b : Bool) (port : ℕ) (side : Side) → through (cond b Own (By port side)) ≡ cond b (lane_end_if (ends_at_switch (owner_of fabric lid) at.switch)) (lane_hop_over (owner_of fabric lid) port (lanes at.switch at.port port level) side)
  by_cond true port side = refl
  by_cond false port side = refl

  by_exit : (told : Option ℕ) → through (exit_of fabric at.switch told) ≡ lane_hop_by fabric (λ port. lanes at.switch at.port port level) at.switch lid told
  by_exit None = refl
  by_exit (Some port) = by_cond (eqb port 0) port (side_of fabric at.switch port)

  pub hop_is : (tables : TablesOf) (exit : Exit) → exit ≡ exit_of fabric at.switch (tables at.switch lid) → through exit ≡ lane_hop fabric tables lanes level lid at
  unfolding lane_hop
  hop_is tables exit is = ap through is ∙ by_exit (tables at.switch lid)

  -- the end of a route is no link
  pub end_link : (b : Bool) → IsByLaneLink fabric lanes level at (lane_end_if b)
  end_link true = tt
  end_link false = tt

  on_end : (b c : Bool) → IsByLaneLink fabric lanes level at (cond b Discard (lane_end_if c))
  on_end true c = tt
  on_end false c = end_link c

  on_link : (b : Bool) (port lane next entry : ℕ) → eqb lane 15 ≡ b → lane ≤ 15 → lane ≡ lanes at.switch at.port port level → side_of fabric at.switch port ≡ To next entry → next < switch_count fabric → IsByLaneLink fabric lanes level at (cond b Discard (On port lane (record { switch = next; port = entry })))
  on_link true port lane next entry is low told leads within = tt
  on_link false port lane next entry is low told leads within =
      let used = port_low fabric at.switch port (subst IsTo (sym leads) tt) in
      let other = eqb-false lane 15 is in
      record { used = used.0; low = used.1; within = within; leads = leads; lane_is = told; lane_low = omega arith }

  -- a hop by a side is by its link
  pub side_link : (port : ℕ) (side : Side) → side ≡ side_of fabric at.switch port → LeadsWithin (switch_count fabric) side → lanes at.switch at.port port level ≤ 15 → IsByLaneLink fabric lanes level at (lane_hop_over (owner_of fabric lid) port (lanes at.switch at.port port level) side)
  side_link port Bare is within low = tt
  side_link port (To next entry) is within low = on_link (eqb (lanes at.switch at.port port level) 15) port (lanes at.switch at.port port level) next entry refl low refl (sym is) within
  side_link port (End end) is within low = on_end (eqb (lanes at.switch at.port port level) 15) (ends_at_host (owner_of fabric lid) end)
