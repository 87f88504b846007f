use Rattle.fabric_tables.specs.Cells.{tables_of}
use Rattle.fabric_between_command.proofs.answer.given_for.Goals as goal

pub returns : goal.returns
returns c = record {
  ends = c.status_of.ensures c.args.topology.now.fabric (tables_of c.args.old.now.cells) (tables_of c.args.new.now.cells) c.in_ok-judged.ensures;
  answer = c.in_ok-answer.answer;
  is_answer = c.in_ok-answer.ensures;
  says = c.in_ok-print_between.ensures;
}
