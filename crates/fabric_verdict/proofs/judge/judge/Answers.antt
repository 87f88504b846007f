use Rattle.fabric_tables.specs.Cells.{tables_of}
use Rattle.fabric_verdict.proofs.CountLemmas.{dependencies}
use Rattle.fabric_verdict.proofs.PassLemmas.{pass}
use Rattle.fabric_verdict.proofs.judge.judge.Goals as goal

pub returns : goal.returns
returns c =
    let found = c.in_ok-found.found in
    let are = c.in_ok-found.ensures in
    let verdict = c.in_ok-verdict.ensures in
    record {
      verdict = verdict;
      stops = are.stopped;
      passes = λ none. pass c.args.fabric.now (tables_of c.args.cells.now) c.args.traffic found.stopped are.stopped c.in_ok-verdict.verdict verdict none;
      dependencies = dependencies c.args.fabric.now (tables_of c.args.cells.now) c.args.traffic found.graph are.graph c.count_steps-dependencies.result c.count_steps-dependencies.ensures;
    }
