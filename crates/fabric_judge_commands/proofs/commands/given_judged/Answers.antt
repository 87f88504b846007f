use Rattle.fabric_tables.specs.Cells.{tables_of}
use Rattle.fabric_judge_commands.proofs.EndLemmas.{is_ending}
use Rattle.fabric_judge_commands.proofs.commands.given_judged.Goals as goal

pub returns-clause-given : goal.returns-clause-given
returns-clause-given c =
    record {
      ends = c.status_of.ensures c.args.topology.now.fabric (tables_of c.args.tables.now.cells) c.args.traffic c.requires.judged;
      answer = c.in_ok-answer.answer;
      is_answer = c.in_ok-answer.ensures;
      says = c.in_ok-print.ensures;
    }

pub returns-clause-ends : goal.returns-clause-ends
returns-clause-ends c = is_ending c.args.topology.now.fabric (tables_of c.args.tables.now.cells) c.args.traffic c.status_of.result (c.status_of.ensures c.args.topology.now.fabric (tables_of c.args.tables.now.cells) c.args.traffic c.requires.judged)
