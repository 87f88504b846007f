use Rattle.std.proofs.Common.{◌*◌, ◌≤◌, arith, true}
use Rattle.fabric_lane_tables.proofs.InUseLemmas.{filled_used, rows_used, same_used}
use Rattle.fabric_lane_tables.proofs.in_use.with_replies.Goals as goal

pub returns-in-Same : goal.returns-in-Same
returns-in-Same c = rw c.in-Same.is (same_used c.args.fabric.now true c.in-Same.field-0)

pub returns-in_ok-rows-in-Told : goal.returns-in_ok-rows-in-Told
returns-in_ok-rows-in-Told c =
    let rows = c.in_ok-rows-in-Told.rows in
    let one = c.in_ok-rows-in-Told.ensures in
    let wide : 64 * c.in-Told.told.blocks ≤ 64 * c.in_ok-rows-in-Told.rows.blocks = omega (arith, one.lids, c.lids.ensures.lids) in
    rw c.in-Told.is (rows_used c.args.fabric.now one.fabric c.in-Told.told rows (rw c.in-Told.is at c.requires) wide (rw c.in-Told.is at one.rows))

pub returns-in_ok-rows-in-Filled : goal.returns-in_ok-rows-in-Filled
returns-in_ok-rows-in-Filled c =
    let rows = c.in_ok-rows-in-Filled.rows in
    let one = c.in_ok-rows-in-Filled.ensures in
    let wide : 64 * c.in-Filled.told.blocks ≤ 64 * c.in_ok-rows-in-Filled.rows.blocks = omega (arith, one.lids, c.lids-in-Filled.ensures.lids) in
    let fits = rw c.in-Filled.is at c.requires in
    rw c.in-Filled.is (filled_used c.args.fabric.now one.fabric c.in-Filled.told rows fits.0 wide c.in-Filled.silent fits.1 (rw c.in-Filled.is at one.rows))
