use Rattle.std.proofs.Common.{◌∙◌, sym, arith}
use Rattle.fabric_read_lanes.proofs.LaneLineLemmas.{fits, row_more, row_none}
use Rattle.fabric_read_lanes.proofs.lane_line.packed.Goals as goal

pub overflow_mul-row : goal.overflow_mul-row
overflow_mul-row c =
    let low = fits c.args.lanes.now c.lanes.left c.lanes.row c.lanes-test.true c.lanes.invariant.within c.lanes.invariant.row c.requires in
    omega (arith, low)

pub returns-in_err-row : goal.returns-in_err-row
returns-in_err-row c = c.from_residual.ensures ∙ sym (row_none c.args.lanes.now c.lanes.left c.lanes.row c.lanes-test.true c.lanes.invariant.within c.lanes.invariant.row c.in_err-row.ensures.number)

pub overflow_add-row : goal.overflow_add-row
overflow_add-row c =
    let low = fits c.args.lanes.now c.lanes.left c.lanes.row c.lanes-test.true c.lanes.invariant.within c.lanes.invariant.row c.requires in
    omega (arith, low, c.in_ok-row.ensures.range)

pub lanes-preserved : goal.lanes-preserved
lanes-preserved c = record {
  row = row_more c.args.lanes.now c.lanes.left c.lanes.row c.lanes-test.true c.lanes.invariant.within c.lanes.invariant.row c.in_ok-row.field-0 c.in_ok-row.ensures.number.0 c.in_ok-row.ensures.number.1;
  within = omega (arith, c.lanes.invariant.within);
}
