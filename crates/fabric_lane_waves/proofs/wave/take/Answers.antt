use Rattle.std.proofs.Common.{◌≡◌, ◌≢◌, ◌∙◌, ◌<◌, ◌+◌, ◌*◌, sym, ap, subst, refl, ℕ, true, Some, length, arith, inl, inr, ◌⊎◌, ◌↔◌}
use Rattle.fabric_tables.specs.Cells.{tables_of}
use Rattle.fabric_lane_tables.specs.Lanes.{IsLaneCount, lanes_of}
use Rattle.fabric_model.specs.declared.node.Side.TheVariants.{To}
use Rattle.fabric_model.specs.declared.node.Spot.{Spot}
use Rattle.fabric_model.specs.Fabric.{side_of, switch_count}
use Rattle.fabric_routes.specs.Waves.{HasBit}
use Rattle.fabric_lane_routes.specs.declared.hop.LaneHop.TheVariants.{Arrive, Stop, Discard}
use Rattle.fabric_lane_routes.specs.LaneFound.{lane_number}
use Rattle.fabric_lane_routes.specs.LaneRoutes.{LaneChannel}
use Rattle.fabric_lane_waves.specs.LaneSteps.{AddsOne, Leaves, StepsOf, StopsOf, departure_place, place_on}
use Rattle.fabric_lane_waves.proofs.OnLemmas.{lane_low}
use Rattle.fabric_lane_waves.proofs.SpreadLemmas.{taken_end, taken_on}
use Rattle.fabric_lane_waves.proofs.StepLemmas.{it_stops, no_step, on_stops_not, place_low, step_alone, steps_not, stops_not, stops_so, the_step}
use Rattle.fabric_lane_waves.proofs.wave.take.Goals as goal

-- no way: nothing leaves
pub returns-in_default : goal.returns-in_default
returns-in_default c =
    let routing = c.args.routes.now.routing in
    let lid = 64 * c.args.routes.now.block + c.args.bit in
    let none : (port : ℕ) (next : Spot) → tables_of routing.cells.now c.args.from.switch lid ≡ Some port → side_of routing.fabric.now c.args.from.switch port ≡ To next.switch next.port → ⊥ = λ port next told leads. c.in_default.ensures port next (record { told = told; leads = leads }) in
    taken_end (StepsOf c.args.routes.now) (StopsOf c.args.routes.now)
    (place_on routing c.args.from) c.args.bit
    (steps_not routing.fabric.now (tables_of routing.cells.now) (lanes_of routing.lanes.now) routing.lanes.now.count lid c.args.from.level c.args.from.switch c.args.from.lane c.requires.switch c.requires.lane none)
    c.args.seen.now c.args.graph.now c.args.stopped c.args.stopped (
      λ is. inl is,
      λ either. elim either [
        | inl is ↦ is
        | inr stops ↦ absurd (stops_not routing.fabric.now (tables_of routing.cells.now) (lanes_of routing.lanes.now) routing.lanes.now.count lid c.args.from.level c.args.from.switch c.args.from.lane c.requires.switch c.requires.lane none stops)
      ],
    )

pub mark-requires-clause-place : goal.mark-requires-clause-place
mark-requires-clause-place c =
    let routing = c.args.routes.now.routing in
    let link = c.in-On.ensures.link in
    let other : c.in-On.lane ≢ 15 = (let low = link.lane_low in omega arith) in
    let lane = lane_low (lanes_of routing.lanes.now) routing.lanes.now.count (subst (IsLaneCount (lanes_of routing.lanes.now)) c.count-count.ensures.count c.count-count.ensures.lanes) c.in-Some.way.next.switch c.in-Some.way.next.port c.in-On.next_port c.args.from.level c.in-On.lane link.lane_is other in
    let place : c.place_of-place.result ≡ departure_place (switch_count routing.fabric.now) routing.lanes.now.count c.args.from.level c.in-Some.way.next.switch c.in-On.lane =
    c.place_of-place.ensures ∙ ap (λ (n : ℕ). departure_place n c.count-count.result c.args.from.level c.in-Some.way.next.switch c.from.result) c.switches.ensures.count ∙ ap (λ (n : ℕ). departure_place (switch_count routing.fabric.now) n c.args.from.level c.in-Some.way.next.switch c.from.result) c.count-count.ensures.count ∙ ap (λ (v : ℕ). departure_place (switch_count routing.fabric.now) routing.lanes.now.count c.args.from.level c.in-Some.way.next.switch v) c.from.ensures in
    subst (λ (k : ℕ). k < length c.args.seen.now) (sym place)
    (place_low (switch_count routing.fabric.now) routing.lanes.now.count c.args.from.level c.args.from.switch c.args.from.lane c.in-Some.way.next.switch c.in-On.lane (length c.args.seen.now) c.requires.places c.requires.place c.in-Some.ensures.1.within lane)

-- it goes on
pub returns-in-On : goal.returns-in-On
returns-in-On c =
    let routing = c.args.routes.now.routing in
    let lid = 64 * c.args.routes.now.block + c.args.bit in
    let from : LaneChannel = record { switch = c.args.from.switch; port = c.in-Some.way.port; lane = c.args.from.lane } in
    let leaves : Leaves routing.fabric.now (tables_of routing.cells.now) (lanes_of routing.lanes.now) routing.lanes.now.count lid (place_on routing c.args.from) c.args.from.level from c.in-Some.way.next = record { is_at = refl; switch_low = c.requires.switch; lane_low = c.requires.lane; told = c.in-Some.ensures.0.told; leads = c.in-Some.ensures.0.leads } in
    let place : c.place_of-place.result ≡ departure_place (switch_count routing.fabric.now) routing.lanes.now.count c.args.from.level c.in-Some.way.next.switch c.in-On.lane =
    c.place_of-place.ensures ∙ ap (λ (n : ℕ). departure_place n c.count-count.result c.args.from.level c.in-Some.way.next.switch c.from.result) c.switches.ensures.count ∙ ap (λ (n : ℕ). departure_place (switch_count routing.fabric.now) n c.args.from.level c.in-Some.way.next.switch c.from.result) c.count-count.ensures.count ∙ ap (λ (v : ℕ). departure_place (switch_count routing.fabric.now) routing.lanes.now.count c.args.from.level c.in-Some.way.next.switch v) c.from.ensures in
    let goes = sym c.in-On.ensures.hop in
    let more : (one other : ℕ) → (HasBit c.mark.new.words one other ↔ (HasBit c.args.seen.now one other ⊎ ((one ≡ departure_place (switch_count routing.fabric.now) routing.lanes.now.count c.args.from.level c.in-Some.way.next.switch c.in-On.lane) × (other ≡ c.args.bit)))) = subst (λ (k : ℕ). (one other : ℕ) → (HasBit c.mark.new.words one other ↔ (HasBit c.args.seen.now one other ⊎ ((one ≡ k) × (other ≡ c.args.bit))))) place c.mark.ensures in
    let adds = subst (λ (n : ℕ). AddsOne c.args.graph.now c.depend.new.graph (lane_number routing.fabric.now n from) (lane_number routing.fabric.now n (record { switch = c.in-Some.way.next.switch; port = c.in-On.next_port; lane = c.in-On.lane }))) c.count-count.ensures.count (c.depend.ensures.leads c.in-Some.way.next.switch c.in-Some.ensures.1) in
    taken_on (StepsOf c.args.routes.now) (StopsOf c.args.routes.now) (place_on routing c.args.from) c.args.bit
    (departure_place (switch_count routing.fabric.now) routing.lanes.now.count c.args.from.level c.in-Some.way.next.switch c.in-On.lane) (lane_number routing.fabric.now routing.lanes.now.count from) (lane_number routing.fabric.now routing.lanes.now.count (record { switch = c.in-Some.way.next.switch; port = c.in-On.next_port; lane = c.in-On.lane }))
    (the_step routing.fabric.now (tables_of routing.cells.now) (lanes_of routing.lanes.now) routing.lanes.now.count lid (place_on routing c.args.from) c.args.from.level from c.in-Some.way.next leaves c.in-On.next_port c.in-On.lane c.in-On.field-2 goes)
    (step_alone routing.fabric.now (tables_of routing.cells.now) (lanes_of routing.lanes.now) routing.lanes.now.count lid (place_on routing c.args.from) c.args.from.level from c.in-Some.way.next leaves c.in-On.next_port c.in-On.lane c.in-On.field-2 goes)
    (on_stops_not routing.fabric.now (tables_of routing.cells.now) (lanes_of routing.lanes.now) routing.lanes.now.count lid (place_on routing c.args.from) c.args.from.level from c.in-Some.way.next leaves c.in-On.next_port c.in-On.lane c.in-On.field-2 goes)
    c.args.seen.now c.mark.new.words c.args.graph.now c.depend.new.graph c.args.stopped more (omega arith) adds c.depend.ensures.wide c.depend.ensures.bases

pub returns-in-Arrive : goal.returns-in-Arrive
returns-in-Arrive c =
    let routing = c.args.routes.now.routing in
    let lid = 64 * c.args.routes.now.block + c.args.bit in
    let from : LaneChannel = record { switch = c.args.from.switch; port = c.in-Some.way.port; lane = c.args.from.lane } in
    let leaves : Leaves routing.fabric.now (tables_of routing.cells.now) (lanes_of routing.lanes.now) routing.lanes.now.count lid (place_on routing c.args.from) c.args.from.level from c.in-Some.way.next = record { is_at = refl; switch_low = c.requires.switch; lane_low = c.requires.lane; told = c.in-Some.ensures.0.told; leads = c.in-Some.ensures.0.leads } in
    let is = sym c.in-Arrive.ensures.hop in
    taken_end (StepsOf c.args.routes.now) (StopsOf c.args.routes.now) (place_on routing c.args.from) c.args.bit
    (no_step routing.fabric.now (tables_of routing.cells.now) (lanes_of routing.lanes.now) routing.lanes.now.count lid (place_on routing c.args.from) c.args.from.level from c.in-Some.way.next leaves Arrive is (λ port lane after e. absurd (cc)))
    c.args.seen.now c.args.graph.now c.args.stopped c.args.stopped (
      λ told. inl told,
      λ either. elim either [
        | inl told ↦ told
        | inr stops ↦ absurd (stops_so routing.fabric.now (tables_of routing.cells.now) (lanes_of routing.lanes.now) routing.lanes.now.count lid (place_on routing c.args.from) c.args.from.level from c.in-Some.way.next leaves Arrive is stops)
      ],
    )

pub returns-in-Stop : goal.returns-in-Stop
returns-in-Stop c =
    let routing = c.args.routes.now.routing in
    let lid = 64 * c.args.routes.now.block + c.args.bit in
    let from : LaneChannel = record { switch = c.args.from.switch; port = c.in-Some.way.port; lane = c.args.from.lane } in
    let leaves : Leaves routing.fabric.now (tables_of routing.cells.now) (lanes_of routing.lanes.now) routing.lanes.now.count lid (place_on routing c.args.from) c.args.from.level from c.in-Some.way.next = record { is_at = refl; switch_low = c.requires.switch; lane_low = c.requires.lane; told = c.in-Some.ensures.0.told; leads = c.in-Some.ensures.0.leads } in
    let is = sym c.in-Stop.ensures.hop in
    taken_end (StepsOf c.args.routes.now) (StopsOf c.args.routes.now) (place_on routing c.args.from) c.args.bit
    (no_step routing.fabric.now (tables_of routing.cells.now) (lanes_of routing.lanes.now) routing.lanes.now.count lid (place_on routing c.args.from) c.args.from.level from c.in-Some.way.next leaves (Stop c.in-Stop.field-0) is (λ port lane after e. absurd (cc)))
    c.args.seen.now c.args.graph.now c.args.stopped true
    (λ told. inr (it_stops routing.fabric.now (tables_of routing.cells.now) (lanes_of routing.lanes.now) routing.lanes.now.count lid (place_on routing c.args.from) c.args.from.level from c.in-Some.way.next leaves (Stop c.in-Stop.field-0) is tt), λ either. refl)

pub returns-in-Discard : goal.returns-in-Discard
returns-in-Discard c =
    let routing = c.args.routes.now.routing in
    let lid = 64 * c.args.routes.now.block + c.args.bit in
    let from : LaneChannel = record { switch = c.args.from.switch; port = c.in-Some.way.port; lane = c.args.from.lane } in
    let leaves : Leaves routing.fabric.now (tables_of routing.cells.now) (lanes_of routing.lanes.now) routing.lanes.now.count lid (place_on routing c.args.from) c.args.from.level from c.in-Some.way.next = record { is_at = refl; switch_low = c.requires.switch; lane_low = c.requires.lane; told = c.in-Some.ensures.0.told; leads = c.in-Some.ensures.0.leads } in
    let is = sym c.in-Discard.ensures.hop in
    taken_end (StepsOf c.args.routes.now) (StopsOf c.args.routes.now) (place_on routing c.args.from) c.args.bit
    (no_step routing.fabric.now (tables_of routing.cells.now) (lanes_of routing.lanes.now) routing.lanes.now.count lid (place_on routing c.args.from) c.args.from.level from c.in-Some.way.next leaves Discard is (λ port lane after e. absurd (cc)))
    c.args.seen.now c.args.graph.now c.args.stopped true
    (λ told. inr (it_stops routing.fabric.now (tables_of routing.cells.now) (lanes_of routing.lanes.now) routing.lanes.now.count lid (place_on routing c.args.from) c.args.from.level from c.in-Some.way.next leaves Discard is tt), λ either. refl)
