-- What waves reach is where routes come.
use Rattle.std.proofs.Common.{◌≡◌, ◌∙◌, sym, ap, refl, subst, ℕ, zero, suc, ◌+◌, ◌*◌, ◌<◌, Bool, Some, inl, inr, ◌⊎◌}
use Rattle.fabric_tables.specs.Cells.{TablesOf}
use Rattle.fabric_lane_tables.specs.Lanes.{IsLaneCount, LanesOf}
use Rattle.fabric_lane_tables.specs.PathLevels.{LevelsOf}
use Rattle.fabric_model.specs.declared.node.EndPort.{EndPort}
use Rattle.fabric_model.specs.declared.node.Spot.{Spot}
use Rattle.fabric_model.specs.Fabric.{FabricOf, IsFabric, switch_count}
use Rattle.fabric_model.specs.declared.traffic.Traffic.{Traffic}
use Rattle.fabric_routes.specs.Waves.{HasBit, StateOf}
use Rattle.fabric_lane_routes.specs.declared.hop.LaneHop.TheVariants.{On}
use Rattle.fabric_lane_routes.specs.LaneFound.{lane_number}
use Rattle.fabric_lane_routes.specs.LaneRoutes.{IsLaneStop, LaneChannel, LaneComesTo, LaneSends, LaneWalksBy, begin_of, lane_hop}
use Rattle.fabric_lane_waves.specs.LaneBlocks.{AreBegun, BeginsAt, IsLaneWaved, SomeIsLaneStoppedTo, StopsAtFirst, TakesLaneNumbers}
use Rattle.fabric_lane_waves.specs.LaneSteps.{LaneStep, LaneStops, Leaves, departure_place}
use Rattle.fabric_lane_waves.specs.Waves.{IsReached, IsSpread, Spreads}
use Rattle.fabric_lane_waves.proofs.OnLemmas.{on_leaves}
use Rattle.fabric_lane_waves.proofs.StepLemmas.{one_leaves}

module _ (fabric : FabricOf) (fits : IsFabric fabric) (tables : TablesOf) (lanes : LanesOf) (count : ℕ) (counted : IsLaneCount lanes count) (traffic : Traffic) (levels : LevelsOf) where
  -- a route comes to a switch, and leaves it at this place
  record Departs (lid at : ℕ) : Type 0 where
    source : EndPort
    level : ℕ
    spot : Spot
    comes : LaneComesTo fabric tables lanes traffic levels lid source level spot
    port : ℕ
    lane : ℕ
    next : Spot
    goes : lane_hop fabric tables lanes level lid spot ≡ On port lane next
    is_at : at ≡ departure_place (switch_count fabric) count level spot.switch lane

  module _ (lid : ℕ) where
    leaves_of : (at : ℕ) (d : Departs lid at) → Leaves fabric tables lanes count lid at d.level (record { switch = d.spot.switch; port = d.port; lane = d.lane }) d.next
    leaves_of at d =
        let here : LaneChannel = record { switch = d.spot.switch; port = d.port; lane = d.lane } in
        subst (λ (place : ℕ). Leaves fabric tables lanes count lid place d.level here d.next) (sym d.is_at)
        (on_leaves fabric fits tables lanes count counted d.level lid d.spot d.port d.lane d.next d.goes)

    begin_departs : (at : ℕ) → BeginsAt fabric tables lanes count traffic levels lid at → Departs lid at
    begin_departs at b = record {
      source = b.source;
      level = b.level;
      spot = b.start;
      comes = record { sends = b.sends; start = b.start; begins = b.begins; hops = 0; comes = refl };
      port = b.port;
      lane = b.lane;
      next = b.next;
      goes = b.goes;
      is_at = b.is_at;
    }

    -- the route comes to the next switch too
    comes_next : (at : ℕ) (d : Departs lid at) → LaneComesTo fabric tables lanes traffic levels lid d.source d.level d.next
    comes_next at d = record {
      sends = d.comes.sends;
      start = d.comes.start;
      begins = d.comes.begins;
      hops = suc d.comes.hops;
      comes = (d.spot, d.port, d.lane, d.comes.comes, d.goes);
    }

    -- the step from a place is by the route that departs there
    module _ (at : ℕ) (d : Departs lid at) where
      step_comes : (level : ℕ) (from : LaneChannel) (next : Spot) → Leaves fabric tables lanes count lid at level from next → LaneComesTo fabric tables lanes traffic levels lid d.source level next
      step_comes level from next leaves =
          let here : LaneChannel = record { switch = d.spot.switch; port = d.port; lane = d.lane } in
          let same = one_leaves fabric tables lanes count lid at d.level level here from d.next next (leaves_of at d) leaves in
          subst (λ (l : ℕ). LaneComesTo fabric tables lanes traffic levels lid d.source l next) (sym same.0)
          (subst (λ (s : Spot). LaneComesTo fabric tables lanes traffic levels lid d.source d.level s) (sym same.2) (comes_next at d))

      step_departs : (to one other : ℕ) → LaneStep fabric tables lanes count lid at to one other → Departs lid to
      step_departs to one other step = record {
        source = d.source;
        level = step.level;
        spot = step.next;
        comes = step_comes step.level step.from step.next step.leaves;
        port = step.port;
        lane = step.lane;
        next = step.after;
        goes = step.goes;
        is_at = step.is_to;
      }

      -- .. and it takes the two channels
      step_takes : (to one other : ℕ) → LaneStep fabric tables lanes count lid at to one other → TakesLaneNumbers fabric tables lanes count traffic levels lid one other
      step_takes to one other step =
          let here : LaneChannel = record { switch = d.spot.switch; port = d.port; lane = d.lane } in
          let same = one_leaves fabric tables lanes count lid at d.level step.level here step.from d.next step.next (leaves_of at d) step.leaves in
          let next : LaneChannel = record { switch = step.next.switch; port = step.port; lane = step.lane } in
          let second : lane_hop fabric tables lanes d.level lid step.next ≡ On step.port step.lane step.after = ap (λ (l : ℕ). lane_hop fabric tables lanes l lid step.next) (sym same.0) ∙ step.goes in
          record {
            source = d.source;
            level = d.level;
            channel = here;
            next = next;
            takes = record {
              entry = d.spot.port;
              comes = d.comes;
              next_entry = step.next.port;
              first = d.goes ∙ ap (λ (s : Spot). On d.port d.lane s) (sym same.2);
              after = step.after;
              second = second;
            };
            is_one = step.is_one ∙ ap (lane_number fabric count) same.1;
            is_other = step.is_other;
          }

      stop_stops : LaneStops fabric tables lanes count lid at → SomeIsLaneStoppedTo fabric tables lanes count traffic levels lid
      stop_stops s = (d.source, (s.level, (s.next, step_comes s.level s.from s.next s.leaves, s.stops)))

  module _ (block : ℕ) (old new : StateOf) (begun : Bool) (starts : AreBegun fabric tables lanes count traffic levels block old.seen begun old.stopped) where
    abbrev Step : ℕ → ℕ → ℕ → ℕ → ℕ → Type 0
    Step bit = LaneStep fabric tables lanes count (64 * block + bit)

    abbrev Stops : ℕ → ℕ → Type 0
    Stops bit = LaneStops fabric tables lanes count (64 * block + bit)

    -- what is reached departs
    spread_departs : (bit steps start at : ℕ) → bit < 64 → HasBit old.seen start bit → Spreads Step bit steps start at → Departs (64 * block + bit) at
    spread_departs bit zero start at low has same = subst (Departs (64 * block + bit)) same (begin_departs (64 * block + bit) start ((starts.seen start bit low).0 has))
    spread_departs bit (suc steps) start at low has (before, one, other, spreads, step) =
        step_departs (64 * block + bit) before (spread_departs bit steps start before low has spreads) at one other step

    reached_departs : (bit at : ℕ) → bit < 64 → IsReached Step Stops old.seen bit at → Departs (64 * block + bit) at
    reached_departs bit at low is = spread_departs bit is.steps is.start at low is.has is.spreads

    -- and what departs is reached
    walk_reached : (bit : ℕ) → bit < 64 → (source : EndPort) (level : ℕ) → LaneSends fabric tables traffic levels (64 * block + bit) source level → (start : Spot) → begin_of fabric source ≡ Some start → (hops : ℕ) (spot : Spot) → LaneWalksBy (lane_hop fabric tables lanes level (64 * block + bit)) hops start spot → (port lane : ℕ) (next : Spot) → lane_hop fabric tables lanes level (64 * block + bit) spot ≡ On port lane next → IsReached Step Stops old.seen bit (departure_place (switch_count fabric) count level spot.switch lane)
    walk_reached bit low source level sends start begins zero spot same port lane next goes =
        let first : lane_hop fabric tables lanes level (64 * block + bit) start ≡ On port lane next = ap (lane_hop fabric tables lanes level (64 * block + bit)) same ∙ goes in
        record {
          start = departure_place (switch_count fabric) count level spot.switch lane;
          has = (starts.seen (departure_place (switch_count fabric) count level spot.switch lane) bit low).1 (record {
            source = source;
            level = level;
            sends = sends;
            start = start;
            begins = begins;
            port = port;
            lane = lane;
            next = next;
            goes = first;
            is_at = ap (λ (s : Spot). departure_place (switch_count fabric) count level s.switch lane) (sym same);
          });
          steps = 0;
          spreads = refl;
        }
    walk_reached bit low source level sends start begins (suc hops) spot (before, by, on, walk, came) port lane next goes =
        let is = walk_reached bit low source level sends start begins hops before walk by on spot came in
        let from : LaneChannel = record { switch = before.switch; port = by; lane = on } in
        let step : Step bit (departure_place (switch_count fabric) count level before.switch on) (departure_place (switch_count fabric) count level spot.switch lane) (lane_number fabric count from) (lane_number fabric count (record { switch = spot.switch; port = port; lane = lane })) = record {
          level = level;
          from = from;
          next = spot;
          leaves = on_leaves fabric fits tables lanes count counted level (64 * block + bit) before by on spot came;
          port = port;
          lane = lane;
          after = next;
          goes = goes;
          is_to = refl;
          is_one = refl;
          is_other = refl;
        } in
        record { start = is.start; has = is.has; steps = suc is.steps; spreads = (departure_place (switch_count fabric) count level before.switch on, lane_number fabric count from, lane_number fabric count (record { switch = spot.switch; port = port; lane = lane }), is.spreads, step) }

    takes_reached : (bit one other : ℕ) → bit < 64 → TakesLaneNumbers fabric tables lanes count traffic levels (64 * block + bit) one other → (at to : ℕ) × IsReached Step Stops old.seen bit at × Step bit at to one other
    takes_reached bit one other low t =
        let here : Spot = record { switch = t.channel.switch; port = t.takes.entry } in
        let there : Spot = record { switch = t.next.switch; port = t.takes.next_entry } in
        let comes = t.takes.comes in (
          departure_place (switch_count fabric) count t.level t.channel.switch t.channel.lane,
          departure_place (switch_count fabric) count t.level t.next.switch t.next.lane,
          walk_reached bit low t.source t.level comes.sends comes.start comes.begins comes.hops here comes.comes t.channel.port t.channel.lane there t.takes.first,
          record {
            level = t.level;
            from = t.channel;
            next = there;
            leaves = on_leaves fabric fits tables lanes count counted t.level (64 * block + bit) here t.channel.port t.channel.lane there t.takes.first;
            port = t.next.port;
            lane = t.next.lane;
            after = t.takes.after;
            goes = t.takes.second;
            is_to = refl;
            is_one = t.is_one;
            is_other = t.is_other;
          },
        )

    -- a route that stops does so at its first switch, or after a place that is reached
    stopped_reached : (bit : ℕ) → bit < 64 → (source : EndPort) (level : ℕ) → LaneSends fabric tables traffic levels (64 * block + bit) source level → (start : Spot) → begin_of fabric source ≡ Some start → (hops : ℕ) (at : Spot) → LaneWalksBy (lane_hop fabric tables lanes level (64 * block + bit)) hops start at → IsLaneStop (lane_hop fabric tables lanes level (64 * block + bit) at) → StopsAtFirst fabric tables lanes count traffic levels (64 * block + bit) ⊎ ((place : ℕ) × IsReached Step Stops old.seen bit place × Stops bit place)
    stopped_reached bit low source level sends start begins zero at same stops = inl (record {
      source = source;
      level = level;
      sends = sends;
      start = start;
      begins = begins;
      stops = subst (λ (s : Spot). IsLaneStop (lane_hop fabric tables lanes level (64 * block + bit) s)) (sym same) stops;
    })
    stopped_reached bit low source level sends start begins (suc hops) at (before, by, on, walk, came) stops =
        let from : LaneChannel = record { switch = before.switch; port = by; lane = on } in
        inr (
          departure_place (switch_count fabric) count level before.switch on,
          walk_reached bit low source level sends start begins hops before walk by on at came,
          record {
            level = level;
            from = from;
            next = at;
            leaves = on_leaves fabric fits tables lanes count counted level (64 * block + bit) before by on at came;
            stops = stops;
          },
        )

    first_stopped : (lid : ℕ) → StopsAtFirst fabric tables lanes count traffic levels lid → SomeIsLaneStoppedTo fabric tables lanes count traffic levels lid
    first_stopped lid s = (s.source, (s.level, (s.start, record { sends = s.sends; start = s.start; begins = s.begins; hops = 0; comes = refl }, s.stops)))

    pub block_waved : IsSpread Step Stops old new → IsLaneWaved fabric tables lanes count traffic levels block old.graph new.graph begun new.stopped
    block_waved spread = record {
      leads = λ one other. (
        λ has. elim ((spread.leads one other).0 has) [
          | inl had ↦ inl had
          | inr (bit, at, to, low, is, step) ↦ inr (bit, low, step_takes (64 * block + bit) at (reached_departs bit at low is) to one other step)
        ],
        λ either. elim either [
          | inl had ↦ (spread.leads one other).1 (inl had)
          | inr (bit, low, takes) ↦ (let r = takes_reached bit one other low takes in (spread.leads one other).1 (inr (bit, r.0, r.1, low, r.2, r.3)))
        ],
      );
      stopped = (
        λ told. elim (spread.stopped.0 told) [
          | inl had ↦ elim (starts.stopped.0 had) [
            | inl first ↦ inl first
            | inr (bit, low, stops) ↦ inr (bit, low, first_stopped (64 * block + bit) stops)
          ]
          | inr (bit, at, low, is, stops) ↦ inr (bit, low, stop_stops (64 * block + bit) at (reached_departs bit at low is) stops)
        ],
        λ either. elim either [
          | inl first ↦ spread.stopped.1 (inl (starts.stopped.1 (inl first)))
          | inr (bit, low, (source, (level, (at, comes, stops)))) ↦ elim (stopped_reached bit low source level comes.sends comes.start comes.begins comes.hops at comes.comes stops) [
            | inl first ↦ spread.stopped.1 (inl (starts.stopped.1 (inr (bit, low, first))))
            | inr (place, is, ends) ↦ spread.stopped.1 (inr (bit, place, low, is, ends))
          ]
        ],
      );
      wide = spread.wide;
      bases = spread.bases;
    }
