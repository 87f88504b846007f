-- If numbers fall along each dependency and no route stops, each route arrives.
use Rattle.std.proofs.Common.{◌≡◌, ◌↔◌, sym, ap, subst, refl, ℕ, zero, suc, ◌<◌, Bool, false, List, Some, arith}
use Rattle.std.specs.Prelude.{IsTrue}
use Rattle.fabric_tables.specs.Cells.{TablesOf}
use Rattle.fabric_model.specs.declared.node.EndPort.{EndPort}
use Rattle.fabric_model.specs.declared.node.EndPort.TheVariants as port
use Rattle.fabric_model.specs.declared.node.Spot.{Spot}
use Rattle.fabric_model.specs.Fabric.{FabricOf}
use Rattle.fabric_lane_tables.specs.Lanes.{IsLaneCount, LanesOf}
use Rattle.fabric_lane_tables.specs.PathLevels.{LevelsOf}
use Rattle.fabric_model.specs.declared.traffic.Traffic.{Traffic}
use Rattle.fabric_routes.specs.Routes.{IsSource}
use Rattle.fabric_routes.proofs.StartLemmas.{sender_is}
use Rattle.fabric_verdict.proofs.RankLemmas.{value}
use Rattle.fabric_lane_routes.specs.declared.hop.LaneHop.{LaneHop}
use Rattle.fabric_lane_routes.specs.declared.hop.LaneHop.TheVariants.{On, Arrive, Stop, Discard}
use Rattle.fabric_lane_routes.specs.LaneFound.{SomeIsLaneStopped}
use Rattle.fabric_lane_routes.specs.LaneRoutes.{IsLaneStop, IsLaneStopped, LaneChannel, LaneComesTo, LaneDependsOn, LaneSends, LaneWalksBy, begin_of, lane_hop}
use Rattle.fabric_lane_routes.proofs.OneLaneLemmas.{start_begin}
use Rattle.fabric_lane_waves.proofs.FindLemmas.{first_is}
use Rattle.fabric_lane_verdict.specs.declared.verdict.LaneVerdict.{LaneVerdict}
use Rattle.fabric_lane_verdict.specs.declared.verdict.LaneVerdict.TheVariants.{Ranks, Cycle}
use Rattle.fabric_lane_verdict.specs.LaneJudgements.{LanePassesIfRanked}
use Rattle.fabric_lane_verdict.specs.LaneVerdict.{IsLaneVerdict, LaneAllArrive, LaneArrivesBy, LaneHasRanks, lane_rank_in}

-- a source begins somewhere
begins_at : (fabric : FabricOf) (traffic : Traffic) (source : EndPort) → IsSource fabric traffic source → (start : Spot) × (begin_of fabric source ≡ Some start)
begins_at fabric traffic (port.Host end) is = let (start, begins, same) = start_begin fabric (port.Host end) is.0 is.1 in (start, begins)
begins_at fabric traffic (port.Switch switch) is = (record { switch = switch; port = 0 }, refl)

module _ (fabric : FabricOf) (tables : TablesOf) (lanes : LanesOf) (traffic : Traffic) (levels : LevelsOf) where
  module _ (rank : LaneChannel → ℕ) (fall : (channel next : LaneChannel) → LaneDependsOn fabric tables lanes traffic levels channel next → rank next < rank channel) (kept : (lid : ℕ) (source : EndPort) (level : ℕ) → IsLaneStopped fabric tables lanes traffic levels lid source level → ⊥) (lid : ℕ) (source : EndPort) (level : ℕ) (sends : LaneSends fabric tables traffic levels lid source level) (start : Spot) (begins : begin_of fabric source ≡ Some start) where
    abbrev hop_at : Spot → LaneHop
    hop_at = lane_hop fabric tables lanes level lid

    comes_to : (links : ℕ) (at : Spot) → LaneWalksBy hop_at links start at → LaneComesTo fabric tables lanes traffic levels lid source level at
    comes_to links at comes = record { sends = sends; start = start; begins = begins; hops = links; comes = comes }

    stops : (links : ℕ) (at : Spot) → LaneWalksBy hop_at links start at → (does : LaneHop) → hop_at at ≡ does → IsLaneStop does → ⊥
    stops links at comes does is stop = kept lid source level (at, comes_to links at comes, subst IsLaneStop (sym is) stop)

    abbrev Arrives : Type 0
    Arrives = (links : ℕ) × LaneArrivesBy fabric tables lanes lid source level links

    arrives : (links : ℕ) (at : Spot) → LaneWalksBy hop_at links start at → hop_at at ≡ Arrive → Arrives
    arrives links at comes is = (links, record { start = start; begins = begins; at = at; comes = comes; arrives = is })

    -- from a channel that it takes
    by_channel : (fuel links : ℕ) (at : Spot) (out lane : ℕ) (next : Spot) → LaneWalksBy hop_at links start at → hop_at at ≡ On out lane next → rank (record { switch = at.switch; port = out; lane = lane }) < fuel → Arrives
    by_channel zero links at out lane next comes on low = absurd (omega arith)
    by_channel (suc fuel) links at out lane next comes on low = ahead (hop_at next) refl (λ more way after is less. by_channel fuel (suc links) next more way after there is less)
      where
        there : LaneWalksBy hop_at (suc links) start next
        there = (at, out, lane, comes, on)

        ahead : (does : LaneHop) → hop_at next ≡ does → ((more way : ℕ) (after : Spot) → hop_at next ≡ On more way after → rank (record { switch = next.switch; port = more; lane = way }) < fuel → Arrives) → Arrives
        ahead Arrive is again = arrives (suc links) next there is
        ahead (Stop cause) is again = absurd (stops (suc links) next there (Stop cause) is tt)
        ahead Discard is again = absurd (stops (suc links) next there Discard is tt)
        ahead (On more way after) is again =
            let here : LaneChannel = record { switch = at.switch; port = out; lane = lane } in
            let beyond : LaneChannel = record { switch = next.switch; port = more; lane = way } in
            let less = fall here beyond (lid, source, level, record { entry = at.port; comes = comes_to links at comes; next_entry = next.port; first = on; after = after; second = is }) in
            again more way after is (omega arith)

    pub arrive_from : (does : LaneHop) → hop_at start ≡ does → Arrives
    arrive_from Arrive is = arrives 0 start refl is
    arrive_from (Stop cause) is = absurd (stops 0 start refl (Stop cause) is tt)
    arrive_from Discard is = absurd (stops 0 start refl Discard is tt)
    arrive_from (On out lane next) is = by_channel (suc (rank (record { switch = start.switch; port = out; lane = lane }))) 0 start out lane next refl is (omega arith)

  pub arrive : (rank : LaneChannel → ℕ) → ((channel next : LaneChannel) → LaneDependsOn fabric tables lanes traffic levels channel next → rank next < rank channel) → ((lid : ℕ) (source : EndPort) (level : ℕ) → IsLaneStopped fabric tables lanes traffic levels lid source level → ⊥) → LaneAllArrive fabric tables lanes traffic levels
  arrive rank fall kept lid source level sends =
      let (start, begins) = begins_at fabric traffic source (sender_is fabric tables traffic lid source sends.sends) in
      arrive_from rank fall kept lid source level sends start begins (lane_hop fabric tables lanes level lid start) refl

  module _ (count : ℕ) (counted : IsLaneCount lanes count) where
    abbrev rank_of : List ℕ → LaneChannel → ℕ
    rank_of ranks channel = value (lane_rank_in fabric count ranks channel)

    ranks_fall : (ranks : List ℕ) → LaneHasRanks fabric tables lanes traffic levels count ranks → (channel next : LaneChannel) → LaneDependsOn fabric tables lanes traffic levels channel next → rank_of ranks next < rank_of ranks channel
    ranks_fall ranks has channel next depends =
        let own = has.ranked.nodes channel (first_is fabric tables lanes count traffic levels counted depends.0 depends.1 depends.2 channel next depends.3) in
        let below = own.2.above next depends in
        let here : rank_of ranks channel ≡ own.0 = ap value own.1 in
        let there : rank_of ranks next ≡ below.0 = ap value below.1 in
        let less = below.2 in
        omega arith

    none_stops : (stops : Bool) → (IsTrue stops ↔ SomeIsLaneStopped fabric tables lanes traffic levels) → stops ≡ false → SomeIsLaneStopped fabric tables lanes traffic levels → ⊥
    none_stops stops tells none some = absurd (let told = tells.1 some in cc)

    pub pass : (stops : Bool) → (IsTrue stops ↔ SomeIsLaneStopped fabric tables lanes traffic levels) → (verdict : LaneVerdict) → IsLaneVerdict fabric tables lanes traffic levels count verdict → stops ≡ false → LanePassesIfRanked fabric tables lanes traffic levels count verdict
    pass stops tells (Ranks ranks) is none = record {
      ranked = is;
      arrived = arrive (rank_of ranks.items) (ranks_fall ranks.items is) (λ lid source level stopped. none_stops stops tells none (lid, (source, (level, stopped))));
    }
    pass stops tells (Cycle channels) is none = tt
