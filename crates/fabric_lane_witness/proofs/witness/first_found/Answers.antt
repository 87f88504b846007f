use Rattle.std.proofs.Common.{◌∙◌}
use Rattle.fabric_tables.specs.Cells.{tables_of}
use Rattle.fabric_model.specs.Fabric.{switch_count}
use Rattle.fabric_routes.specs.Trace.{hop_to, way}
use Rattle.fabric_routes.proofs.TraceLemmas.{ready_new, room_for}
use Rattle.fabric_lane_witness.proofs.witness.first_found.Goals as goal

pub first_of_all-found-requires-clause-room : goal.first_of_all-found-requires-clause-room
first_of_all-found-requires-clause-room c = room_for (switch_count c.args.routing.now.fabric.now) c.switches-2.result c.deref_mut-2.result.now c.switches-2.ensures.count (c.deref_mut-2.ensures.value ∙ c.in_ok-path.ensures.items_if_clones_equal (λ y e. e))

pub first_of_all-found-requires-clause-ready : goal.first_of_all-found-requires-clause-ready
first_of_all-found-requires-clause-ready c = ready_new (hop_to c.args.routing.now.fabric.now (tables_of c.args.routing.now.cells.now) (way c.args.sought.lid c.args.sought.channel.switch)) (switch_count c.args.routing.now.fabric.now) c.switches.result c.deref_mut.result.now c.switches.ensures.count (c.deref_mut.ensures.value ∙ c.in_ok-marks.ensures.items_if_clones_equal (λ y e. e))
