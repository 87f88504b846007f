use Rattle.std.proofs.Common.{◌≡◌, ◌<◌, sym, subst, ℕ, List, Some, length}
use Rattle.std.specs.Prelude.{slice_get}
use Rattle.fabric_tables.specs.Cells.{tables_of}
use Rattle.fabric_model.specs.declared.node.Spot.{Spot}
use Rattle.fabric_model.specs.Fabric.{switch_count}
use Rattle.fabric_lane_tables.specs.Lanes.{lanes_of}
use Rattle.fabric_lane_tables.specs.Levels.{levels_of}
use Rattle.fabric_routes.specs.Waves.{HasBit}
use Rattle.fabric_lane_waves.specs.LaneBlocks.{AreBegunOf, IsOfGates}
use Rattle.fabric_lane_waves.proofs.BeginLemmas.{all_begun}
use Rattle.fabric_lane_waves.proofs.BlockLemmas.{block_waved}
use Rattle.fabric_lane_waves.proofs.SentLemmas.{no_bits}
use Rattle.fabric_lane_waves.proofs.find.add_block.Goals as goal

pub begin_all-stops-requires-clause-spots : goal.begin_all-stops-requires-clause-spots
begin_all-stops-requires-clause-spots c =
    let same : c.deref.result.now ≡ c.args.gates.now.spots.items = c.deref.ensures.value in
    subst (λ (spots : List Spot). (gate : ℕ) (spot : Spot) → slice_get spots gate ≡ Some spot → spot.switch < switch_count c.args.routes.now.routing.fabric.now) (sym same) c.requires.gates.all.within

pub returns-clause-waved : goal.returns-clause-waved
returns-clause-waved c =
    let routes = c.args.routes.now in
    let routing = routes.routing in
    let gates = c.args.gates.now in
    let top = c.args.rooms.now.top in
    let same : c.deref.result.now ≡ gates.spots.items = c.deref.ensures.value in
    let begun = subst (λ (spots : List Spot). AreBegunOf routes (IsOfGates spots c.put_sent.new.sent top) c.clear.new.words c.begin_all-stops.new.seen c.args.stopped c.begin_all-stops.result) same c.begin_all-stops.ensures in
    let starts = all_begun routes routing.traffic (levels_of routing.levels.now) gates.spots.items gates.gates.items c.requires.gates top c.put_sent.new.sent c.put_sent.ensures c.requires.rooms.top c.clear.new.words c.begin_all-stops.new.seen
    (λ place bit has. no_bits (length c.as_mut_slice-seen.result.now) place bit (subst (λ (words : List ℕ). HasBit words place bit) c.clear.ensures has)) c.args.stopped c.begin_all-stops.result begun in
    block_waved routing.fabric.now c.requires.fabric (tables_of routing.cells.now) (lanes_of routing.lanes.now) routing.lanes.now.count c.requires.count routing.traffic (levels_of routing.levels.now) routes.block
    (record { seen = c.begin_all-stops.new.seen; graph = c.args.graph.now; stopped = c.begin_all-stops.result }) (record { seen = c.run.new.seen; graph = c.run.new.graph; stopped = c.run.result }) c.args.stopped starts c.run.ensures
