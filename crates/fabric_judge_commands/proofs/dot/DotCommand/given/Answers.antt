use Rattle.fabric_tables.specs.Cells.{tables_of}
use Rattle.fabric_judge_commands.proofs.EndLemmas.{is_ending}
use Rattle.fabric_judge_commands.proofs.dot.DotCommand.given.Goals as goal

pub returns-clause-given : goal.returns-clause-given
returns-clause-given c =
    let fabric = c.args.topology.now.fabric in
    let tables = tables_of c.args.tables.now.cells in
    record {
      ends = c.status_of.ensures fabric tables c.args.self.now.traffic c.in_ok-judged.ensures;
      loop = c.cycle_of.result.now;
      is_loop = c.cycle_of.ensures fabric tables c.args.self.now.traffic c.in_ok-judged.ensures;
      picture = c.in_ok-picture.picture;
      shows = c.in_ok-picture.ensures;
      says = c.in_ok-print_picture.ensures;
    }

pub returns-clause-ends : goal.returns-clause-ends
returns-clause-ends c =
    let fabric = c.args.topology.now.fabric in
    let tables = tables_of c.args.tables.now.cells in
    is_ending fabric tables c.args.self.now.traffic c.status_of.result (c.status_of.ensures fabric tables c.args.self.now.traffic c.in_ok-judged.ensures)
