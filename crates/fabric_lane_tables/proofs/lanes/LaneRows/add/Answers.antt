use Rattle.std.proofs.Common.{◌≡◌, ◌<◌, ◌≤◌, ℕ, List, None, max, sym, subst, arith, set, length}
use Rattle.fabric_lane_tables.specs.Lanes.{AreLaneRows, LaneRowsOf, IsRowPut, index_of, told_row}
use Rattle.fabric_lane_tables.proofs.RowLemmas.{index_low, put_fits, row_put}
use Rattle.fabric_lane_tables.proofs.lanes.LaneRows.add.Goals as goal

pub returns-clause-put : goal.returns-clause-put
returns-clause-put c =
    let table : LaneRowsOf = record { switches = c.self.inside.switches; most = c.self.inside.most; count = c.self.inside.count; rows = c.self.inside.rows.keys; places = c.self.inside.places.items } in
    let e = c.self.view_is in
    let low : c.args.switch < table.switches = subst (λ (v : LaneRowsOf). c.args.switch < v.switches) (sym e) c.requires.switch in
    let entry : c.args.entry ≤ table.most = subst (λ (v : LaneRowsOf). c.args.entry ≤ v.most) (sym e) c.requires.entry in
    let port : c.args.port ≤ table.most = subst (λ (v : LaneRowsOf). c.args.port ≤ v.most) (sym e) c.requires.port in
    let after : LaneRowsOf = record { switches = table.switches; most = table.most; count = max c.self.inside.count c.lanes_in.result; rows = c.place_of.new.rows.keys; places = set table.places (index_of table.most c.args.switch c.args.entry c.args.port) c.in_ok-place.place } in
    subst (λ (v : LaneRowsOf). IsRowPut (told_row v) (told_row after) c.args.switch c.args.entry c.args.port c.args.row) e
    (row_put table c.self.invariant c.place_of.new.rows.keys c.args.switch c.args.entry c.args.port c.args.row c.in_ok-place.place c.in_ok-place.ensures.kept c.in_ok-place.ensures.there low (omega arith) (omega arith) after.count)

pub invariant_of-self : goal.invariant_of-self
invariant_of-self c = subst (λ (rows : List ℕ). AreLaneRows (record { switches = c.self.inside.switches; most = c.self.inside.most; count = c.self.inside.count; rows = rows; places = c.self.inside.places.items })) (sym c.in_err-place.ensures.same) c.self.invariant

pub index_mut-requires : goal.index_mut-requires
index_mut-requires c =
    let table : LaneRowsOf = record { switches = c.self.inside.switches; most = c.self.inside.most; count = c.self.inside.count; rows = c.self.inside.rows.keys; places = c.self.inside.places.items } in
    let e = c.self.view_is in
    let low : c.args.switch < table.switches = subst (λ (v : LaneRowsOf). c.args.switch < v.switches) (sym e) c.requires.switch in
    let entry : c.args.entry ≤ table.most = subst (λ (v : LaneRowsOf). c.args.entry ≤ v.most) (sym e) c.requires.entry in
    let port : c.args.port ≤ table.most = subst (λ (v : LaneRowsOf). c.args.port ≤ v.most) (sym e) c.requires.port in
    let ok = c.self.inside.places.ok.0 in
    let fits = index_low table.switches table.most c.args.switch c.args.entry c.args.port (length table.places) low (omega arith) (omega arith) c.self.invariant.size in
    omega (arith, ok, fits)

pub invariant_of-self-2 : goal.invariant_of-self-2
invariant_of-self-2 c =
    let table : LaneRowsOf = record { switches = c.self.inside.switches; most = c.self.inside.most; count = c.self.inside.count; rows = c.self.inside.rows.keys; places = c.self.inside.places.items } in
    let e = c.self.view_is in
    let low : c.args.switch < table.switches = subst (λ (v : LaneRowsOf). c.args.switch < v.switches) (sym e) c.requires.switch in
    let entry : c.args.entry ≤ table.most = subst (λ (v : LaneRowsOf). c.args.entry ≤ v.most) (sym e) c.requires.entry in
    let port : c.args.port ≤ table.most = subst (λ (v : LaneRowsOf). c.args.port ≤ v.most) (sym e) c.requires.port in
    let none : told_row table c.args.switch c.args.entry c.args.port ≡ None = subst (λ (v : LaneRowsOf). told_row v c.args.switch c.args.entry c.args.port ≡ None) (sym e) c.requires.none in
    put_fits table c.self.invariant c.place_of.new.rows.keys c.args.switch c.args.entry c.args.port c.args.row c.in_ok-place.place c.max-self-inside.result c.lanes_in.result c.in_ok-place.ensures.kept c.in_ok-place.ensures.there low (omega arith) (omega arith) none c.lanes_in.ensures c.max-self-inside.ensures
