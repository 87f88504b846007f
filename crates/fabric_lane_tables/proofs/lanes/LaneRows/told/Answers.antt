use Rattle.std.proofs.Common.{◌∙◌, ◌+◌, ◌<◌, ap, sym, subst, arith, length}
use Rattle.std.specs.Prelude.{slice_get}
use Rattle.std.proofs.lemmas.List.{get_or_default}
use Rattle.fabric_lane_tables.specs.Lanes.{LaneRowsOf, index_of, told_row}
use Rattle.fabric_lane_tables.proofs.RowLemmas.{index_low, told_at}
use Rattle.fabric_lane_tables.proofs.lanes.LaneRows.told.Goals as goal

pub returns : goal.returns
returns c =
    let table : LaneRowsOf = record { switches = c.self.inside.switches; most = c.self.inside.most; count = c.self.inside.count; rows = c.self.inside.rows.keys; places = c.self.inside.places.items } in
    let low : c.args.switch < table.switches = subst (λ (v : LaneRowsOf). c.args.switch < v.switches) (sym c.self.view_is) c.requires in
    let entry : c.args.entry < table.most + 1 = omega (arith, c.if-entry-self.false) in
    let port : c.args.port < table.most + 1 = omega (arith, c.if-port-self.false) in
    let fits = index_low table.switches table.most c.args.switch c.args.entry c.args.port (length table.places) low entry port c.self.invariant.size in
    let place = c.index-place.ensures ∙ get_or_default table.places (index_of table.most c.args.switch c.args.entry c.args.port) c.index-place.result.now 65535 fits in
    c.copied.ensures ∙ c.get_index.ensures.key ∙ ap (slice_get table.rows) (c.from.ensures ∙ place)
    ∙ sym (told_at table c.args.switch c.args.entry c.args.port entry port)
    ∙ ap (λ (v : LaneRowsOf). told_row v c.args.switch c.args.entry c.args.port) c.self.view_is
