use Rattle.std.proofs.Common.{◌∙◌, sym, ap}
use Rattle.an_base.specs.Rows.{RowOf}
use Rattle.check_text.proofs.RunLemmas.{run_is, run_on}
use Rattle.check_text.proofs.runs.run_len.Goals as goal

pub returns-then-row-at-clause-run : goal.returns-then-row-at-clause-run
returns-then-row-at-clause-run c = let so_far = c.same.invariant in run_is c.args.rows.now c.first.inside.at c.same.len c.same.row-index so_far.0 so_far.1

pub same-preserved : goal.same-preserved
same-preserved c =
    let so_far = c.same.invariant in
    run_on c.args.rows.now c.first.inside.at c.same.len c.same.row-index c.row-item.result so_far.0 so_far.1 c.same-test.true c.row-item.is (ap (λ (r : RowOf). r.at) (sym c.row.view_is) ∙ c.if-row-at.false)

pub returns-clause-run : goal.returns-clause-run
returns-clause-run c = let so_far = c.same.invariant in run_is c.args.rows.now c.first.inside.at c.same.len c.same.row-index so_far.0 so_far.1
