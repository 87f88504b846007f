use Rattle.std.proofs.Common.{◌≡◌, subst, refl, ℕ, length, None, arith}
use Rattle.dep_check.specs.Tables.{AreExitsBelow}
use Rattle.dep_check.proofs.ExitLemmas.{row_is}
use Rattle.dep_check.proofs.exits.all_exits.Goals as goal

pub rows-init : goal.rows-init
rows-init c = c.in_ok-table.ensures c.args.rows.now None

pub add_row-requires : goal.add_row-requires
add_row-requires c = c.rows.invariant.count

pub rows-preserved : goal.rows-preserved
rows-preserved c =
    let rows = c.args.rows.now in
    let row = c.row-item.result in
    let is = row_is rows c.rows.row-index row c.rows-test.true c.row-item.is in
    c.add_row.ensures rows None c.rows.row-index is refl c.rows.invariant

pub returns : goal.returns
returns c = let all : c.rows.row-index ≡ length c.args.rows.now = omega arith in subst (λ (n : ℕ). AreExitsBelow c.args.rows.now None n c.rows.table.items) all c.rows.invariant
