use Rattle.std.proofs.Common.{◌≡◌, ◌≢◌, ◌∙◌, ◌<◌, ◌≤◌, ◌+◌, ◌*◌, sym, ap, subst, refl, ℕ, true, length, arith, inl, inr, ◌⊎◌, ◌↔◌}
use Rattle.std.proofs.lemmas.Nat.{mul-add-lt}
use Rattle.fabric_tables.specs.Cells.{tables_of}
use Rattle.fabric_lane_tables.specs.Lanes.{IsLaneCount, lanes_of}
use Rattle.fabric_model.specs.Fabric.{switch_count}
use Rattle.fabric_routes.specs.Waves.{HasBit}
use Rattle.fabric_lane_routes.specs.declared.hop.LaneHop.TheVariants.{On, Arrive, Stop, Discard}
use Rattle.fabric_lane_waves.specs.LaneSteps.{departure_place}
use Rattle.fabric_lane_waves.proofs.BeginLemmas.{begun_end, begun_on}
use Rattle.fabric_lane_waves.proofs.OnLemmas.{lane_low}
use Rattle.fabric_lane_waves.proofs.start.begin_one.Goals as goal

-- a departure with the level has a place
within : (n count level s v room : ℕ) → s < n → v < count → (level + 1) * n * count ≤ room → departure_place n count level s v < room
within n count level s v room low lane fits =
    let a = mul-add-lt level n s (level + 1) (omega arith) low in
    let b = mul-add-lt (level * n + s) count v ((level + 1) * n) (omega arith) lane in
    omega arith

pub mark-requires-clause-place : goal.mark-requires-clause-place
mark-requires-clause-place c =
    let routing = c.args.routes.now.routing in
    let link = c.in-On.ensures.link in
    let other : c.in-On.lane ≢ 15 = (let low = link.lane_low in omega arith) in
    let lane = lane_low (lanes_of routing.lanes.now) routing.lanes.now.count (subst (IsLaneCount (lanes_of routing.lanes.now)) c.count.ensures.count c.count.ensures.lanes) c.args.spot.switch c.args.spot.port c.in-On.field-0 c.args.level c.in-On.lane link.lane_is other in
    let place : c.place_of-place.result ≡ departure_place (switch_count routing.fabric.now) routing.lanes.now.count c.args.level c.args.spot.switch c.in-On.lane =
    c.place_of-place.ensures ∙ ap (λ (n : ℕ). departure_place n c.count.result c.args.level c.args.spot.switch c.from.result) c.switches.ensures.count ∙ ap (λ (n : ℕ). departure_place (switch_count routing.fabric.now) n c.args.level c.args.spot.switch c.from.result) c.count.ensures.count ∙ ap (λ (v : ℕ). departure_place (switch_count routing.fabric.now) routing.lanes.now.count c.args.level c.args.spot.switch v) c.from.ensures in
    subst (λ (k : ℕ). k < length c.args.seen.now) (sym place)
    (within (switch_count routing.fabric.now) routing.lanes.now.count c.args.level c.args.spot.switch c.in-On.lane (length c.args.seen.now) c.requires.spot lane c.requires.room)

pub returns-in-On : goal.returns-in-On
returns-in-On c =
    let routing = c.args.routes.now.routing in
    let tables = tables_of routing.cells.now in
    let place : c.place_of-place.result ≡ departure_place (switch_count routing.fabric.now) routing.lanes.now.count c.args.level c.args.spot.switch c.in-On.lane =
    c.place_of-place.ensures ∙ ap (λ (n : ℕ). departure_place n c.count.result c.args.level c.args.spot.switch c.from.result) c.switches.ensures.count ∙ ap (λ (n : ℕ). departure_place (switch_count routing.fabric.now) n c.args.level c.args.spot.switch c.from.result) c.count.ensures.count ∙ ap (λ (v : ℕ). departure_place (switch_count routing.fabric.now) routing.lanes.now.count c.args.level c.args.spot.switch v) c.from.ensures in
    let more : (one other : ℕ) → (HasBit c.mark.new.words one other ↔ (HasBit c.args.seen.now one other ⊎ ((one ≡ departure_place (switch_count routing.fabric.now) routing.lanes.now.count c.args.level c.args.spot.switch c.in-On.lane) × (other ≡ c.args.bit)))) = subst (λ (k : ℕ). (one other : ℕ) → (HasBit c.mark.new.words one other ↔ (HasBit c.args.seen.now one other ⊎ ((one ≡ k) × (other ≡ c.args.bit))))) place c.mark.ensures in
    begun_on c.args.routes.now c.args.spot c.args.level c.args.bit (On c.in-On.field-0 c.in-On.lane c.in-On.field-2) (sym (c.in-On.ensures.hop tables c.requires.told)) c.args.seen.now
    c.in-On.field-0 c.in-On.lane c.in-On.field-2 refl (λ stops. stops) c.mark.new.words more (omega arith) c.args.stopped

pub returns-in-Arrive : goal.returns-in-Arrive
returns-in-Arrive c =
    let tables = tables_of c.args.routes.now.routing.cells.now in
    let is = sym (c.in-Arrive.ensures.hop tables c.requires.told) in
    begun_end c.args.routes.now c.args.spot c.args.level c.args.bit Arrive is c.args.seen.now
    (λ port lane next e. absurd (cc)) c.args.stopped c.args.stopped (
      λ told. inl told,
      λ either. elim either [
        | inl told ↦ told
        | inr stops ↦ absurd stops
      ],
    )

pub returns-in-Stop : goal.returns-in-Stop
returns-in-Stop c =
    let tables = tables_of c.args.routes.now.routing.cells.now in
    let is = sym (c.in-Stop.ensures.hop tables c.requires.told) in
    begun_end c.args.routes.now c.args.spot c.args.level c.args.bit (Stop c.in-Stop.field-0) is c.args.seen.now
    (λ port lane next e. absurd (cc)) c.args.stopped true (λ told. inr tt, λ either. refl)

pub returns-in-Discard : goal.returns-in-Discard
returns-in-Discard c =
    let tables = tables_of c.args.routes.now.routing.cells.now in
    let is = sym (c.in-Discard.ensures.hop tables c.requires.told) in
    begun_end c.args.routes.now c.args.spot c.args.level c.args.bit Discard is c.args.seen.now
    (λ port lane next e. absurd (cc)) c.args.stopped true (λ told. inr tt, λ either. refl)
