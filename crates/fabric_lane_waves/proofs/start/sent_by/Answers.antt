use Rattle.std.proofs.Common.{◌≡◌, ◌∙◌, subst, sym}
use Rattle.fabric_tables.specs.Cells.{tables_of}
use Rattle.fabric_model.specs.declared.node.EndPort.{EndPort}
use Rattle.fabric_routes.specs.Routes.{IsSource}
use Rattle.fabric_lane_waves.specs.LaneGates.{source_at}
use Rattle.fabric_lane_waves.proofs.SentLemmas.{SentByAll, word_sends}
use Rattle.fabric_lane_waves.proofs.start.sent_by.Goals as goal

pub returns : goal.returns
returns c = λ source.
    let here : c.source_of-source.result ≡ source_at c.args.routes.now.routing.fabric.now c.args.place = c.source_of-source.ensures in
    let is = subst (IsSource c.args.routes.now.routing.fabric.now c.args.routes.now.routing.traffic) (sym here) source in
    let all = c.sent_by.ensures c.args.routes.now.routing.fabric.now (tables_of c.args.routes.now.routing.cells.now) c.args.routes.now.routing.traffic c.args.routes.now.block c.requires.targets is in
    word_sends c.args.routes.now.routing.fabric.now (tables_of c.args.routes.now.routing.cells.now) c.args.routes.now.routing.traffic c.args.routes.now.block c.args.place c.sent_by.result c.fresh_of.result c.args.owned.now c.requires.place c.requires.owned c.sent_by.type_inv
    (subst (SentByAll c.args.routes.now.routing.fabric.now (tables_of c.args.routes.now.routing.cells.now) c.args.routes.now.routing.traffic c.args.routes.now.block c.sent_by.result) here all) c.fresh_of.ensures
