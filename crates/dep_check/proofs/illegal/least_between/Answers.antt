use Rattle.std.proofs.Common.{arith, subst, sym}
use Rattle.an_base.specs.Rows.{RowOf}
use Rattle.dep_check.specs.Worst.{FirstBad}
use Rattle.dep_check.proofs.ExitLemmas.{row_is}
use Rattle.dep_check.proofs.IllegalLemmas.{all_rows}
use Rattle.dep_check.proofs.illegal.least_between.Goals as goal

pub rows-preserved : goal.rows-preserved
rows-preserved c = λ es numbers sides.
    let rows = c.args.rows.now in
    let row = c.row-item.result in
    let is = row_is rows c.rows.row-index row c.rows-test.true c.row-item.is in
    c.lesser-best.ensures es numbers rows c.rows.row-index (c.rows.invariant es numbers sides) (subst (λ (r : RowOf). FirstBad es numbers r c.first_illegal.result) (sym is) (c.first_illegal.ensures es numbers sides))

pub returns : goal.returns
returns c = λ es numbers sides. all_rows es numbers c.args.rows.now c.rows.row-index c.rows.best (omega arith) (c.rows.invariant es numbers sides)
