-- What a hop that goes on says of the table, the link and the lane.
use Rattle.std.proofs.Common.{◌≡◌, ◌≢◌, ◌∙◌, sym, ap, refl, ℕ, Bool, true, false, cond, eqb, Option, Some, None}
use Rattle.std.proofs.lemmas.Bool.{eqb-false}
use Rattle.fabric_tables.specs.Cells.{TablesOf}
use Rattle.fabric_lane_tables.specs.Lanes.{LanesOf}
use Rattle.fabric_model.specs.declared.node.EndPort.{EndPort}
use Rattle.fabric_model.specs.declared.node.Side.{Side}
use Rattle.fabric_model.specs.declared.node.Side.TheVariants.{Bare, To, End}
use Rattle.fabric_model.specs.declared.node.Spot.{Spot}
use Rattle.fabric_model.specs.Fabric.{FabricOf, owner_of, side_of}
use Rattle.fabric_routes.specs.Routes.{ends_at_host, ends_at_switch}
use Rattle.fabric_lane_routes.specs.declared.hop.LaneHop.TheVariants.{On, Discard}
use Rattle.fabric_lane_routes.specs.LaneRoutes.{lane_end_if, lane_hop, lane_hop_by, lane_hop_over}
use Rattle.fabric_lane_routes.specs.LaneWays.{IsWay}

pub on_parts : (p v q w : ℕ) (a b : Spot) → On p v a ≡ On q w b → (p ≡ q) × (v ≡ w) × (a ≡ b)
on_parts p v q w a b same = (cc, cc, cc)

not_on : (b : Bool) (port lane : ℕ) (next : Spot) → lane_end_if b ≡ On port lane next → ⊥
not_on true port lane next is = cc
not_on false port lane next is = cc

end_not : (b c : Bool) (port lane : ℕ) (next : Spot) → cond b Discard (lane_end_if c) ≡ On port lane next → ⊥
end_not true c port lane next is = cc
end_not false c port lane next is = not_on c port lane next is

to_on : (b : Bool) (by on to entry port lane : ℕ) (next : Spot) → eqb on 15 ≡ b → cond b Discard (On by on (record { switch = to; port = entry })) ≡ On port lane next → (by ≡ port) × (on ≡ lane) × (on ≢ 15) × ((to ≡ next.switch) × (entry ≡ next.port))
to_on true by on to entry port lane next test is = absurd (cc)
to_on false by on to entry port lane next test is =
    let there : Spot = record { switch = to; port = entry } in
    let parts = on_parts by on port lane there next is in
    (parts.0, parts.1, eqb-false on 15 test, (ap (λ (s : Spot). s.switch) parts.2, ap (λ (s : Spot). s.port) parts.2))

over_on : (owner : Option EndPort) (by on : ℕ) (side : Side) (port lane : ℕ) (next : Spot) → lane_hop_over owner by on side ≡ On port lane next → (by ≡ port) × (on ≡ lane) × (on ≢ 15) × (side ≡ To next.switch next.port)
over_on owner by on Bare port lane next is = absurd (cc)
over_on owner by on (To to entry) port lane next is =
    let parts = to_on (eqb on 15) by on to entry port lane next refl is in
    (parts.0, parts.1, parts.2, ap (λ (s : ℕ). To s entry) parts.3.0 ∙ ap (λ (p : ℕ). To next.switch p) parts.3.1)
over_on owner by on (End end) port lane next is = absurd (end_not (eqb on 15) (ends_at_host owner end) port lane next is)

cond_on : (b c : Bool) (owner : Option EndPort) (by on : ℕ) (side : Side) (port lane : ℕ) (next : Spot) → cond b (lane_end_if c) (lane_hop_over owner by on side) ≡ On port lane next → (by ≡ port) × (on ≡ lane) × (on ≢ 15) × (side ≡ To next.switch next.port)
cond_on true c owner by on side port lane next is = absurd (not_on c port lane next is)
cond_on false c owner by on side port lane next is = over_on owner by on side port lane next is

by_on : (fabric : FabricOf) (lane_of : ℕ → ℕ) (switch lid : ℕ) (told : Option ℕ) (port lane : ℕ) (next : Spot) → lane_hop_by fabric lane_of switch lid told ≡ On port lane next → (told ≡ Some port) × (lane ≡ lane_of port) × (lane ≢ 15) × (side_of fabric switch port ≡ To next.switch next.port)
by_on fabric lane_of switch lid None port lane next is = absurd (cc)
by_on fabric lane_of switch lid (Some by) port lane next is =
    let parts = cond_on (eqb by 0) (ends_at_switch (owner_of fabric lid) switch) (owner_of fabric lid) by (lane_of by) (side_of fabric switch by) port lane next is in
    (ap Some parts.0, sym parts.1 ∙ ap lane_of parts.0, (λ last. parts.2 (parts.1 ∙ last)), ap (λ (p : ℕ). side_of fabric switch p) (sym parts.0) ∙ parts.3)

pub lane_on : (fabric : FabricOf) (tables : TablesOf) (lanes : LanesOf) (level lid : ℕ) (at : Spot) (port lane : ℕ) (next : Spot) → lane_hop fabric tables lanes level lid at ≡ On port lane next → (tables at.switch lid ≡ Some port) × (lane ≡ lanes at.switch at.port port level) × (lane ≢ 15) × (side_of fabric at.switch port ≡ To next.switch next.port)
unfolding lane_hop
lane_on fabric tables lanes level lid at port lane next is = by_on fabric (λ p. lanes at.switch at.port p level) at.switch lid (tables at.switch lid) port lane next is

-- so it goes on by the way of the switch
pub on_way : (fabric : FabricOf) (tables : TablesOf) (lanes : LanesOf) (level lid : ℕ) (at : Spot) (port lane : ℕ) (next : Spot) → lane_hop fabric tables lanes level lid at ≡ On port lane next → IsWay fabric tables lid at.switch port next
on_way fabric tables lanes level lid at port lane next is = let on = lane_on fabric tables lanes level lid at port lane next is in record { told = on.0; leads = on.3 }
