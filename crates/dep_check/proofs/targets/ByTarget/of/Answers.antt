use Rattle.std.proofs.Common.{◌≡◌, subst, ℕ, length, arith}
use Rattle.dep_check.specs.Targets.{AreTablesBelow}
use Rattle.dep_check.proofs.ExitLemmas.{row_is}
use Rattle.dep_check.proofs.targets.ByTarget.of.Goals as goal

pub rows-init : goal.rows-init
rows-init c = c.in_ok-tables.ensures c.args.rows.now

pub add_to_target-requires : goal.add_to_target-requires
add_to_target-requires c = c.rows.invariant.count

pub rows-preserved : goal.rows-preserved
rows-preserved c =
    let rows = c.args.rows.now in
    let row = c.row-item.result in
    let is = row_is rows c.rows.row-index row c.rows-test.true c.row-item.is in
    c.add_to_target.ensures rows c.args.numbers.now c.rows.row-index is c.rows.invariant

pub returns : goal.returns
returns c = let all : c.rows.row-index ≡ length c.args.rows.now = omega arith in subst (λ (n : ℕ). AreTablesBelow c.args.rows.now c.args.numbers.now n c.rows.tables.items) all c.rows.invariant
