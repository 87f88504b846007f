use Rattle.std.proofs.Common.{◌≡◌, arith, map, length}
use Rattle.std.proofs.lemmas.List.{length-map}
use Rattle.check_text.specs.Check.{is_row_of, renumbered}
use Rattle.check_text.proofs.CheckLemmas.{rows_of_runs}
use Rattle.check_text.proofs.RunLemmas.{rows_more, run_there}
use Rattle.check_text.proofs.check.rows_of.Goals as goal

pub kept-requires : goal.kept-requires
kept-requires c = run_there c.args.tables.now.rows c.args.runs.now (λ r. r.now) c.runs.run-index c.run-item.result c.requires c.runs-test.true c.run-item.is

pub runs-preserved : goal.runs-preserved
runs-preserved c =
    rows_more (renumbered c.args.tables.now) (is_row_of c.in_ok-members.members.items) c.args.runs.now (λ r. r.now) c.runs.run-index c.run-item.result c.kept.result.now c.runs.rows.items c.push_run.new.rows.items c.runs-test.true c.run-item.is
    (rw c.deref.ensures.value at c.kept.ensures) c.runs.invariant c.in_ok-push_run.ensures

pub returns : goal.returns
returns c =
    let past : c.runs.run-index ≡ length (map (λ r. r.now) c.args.runs.now) = (let e = length-map c.args.runs.now (λ r. r.now) in omega arith) in
    rows_of_runs c.args.switches.now c.args.tables.now c.args.entries.now (map (λ r. r.now) c.args.runs.now) c.in_ok-members.members.items c.runs.run-index c.runs.rows.items c.requires c.in_ok-members.ensures past c.runs.invariant
