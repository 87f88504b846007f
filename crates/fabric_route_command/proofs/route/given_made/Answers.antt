use Rattle.fabric_tables.specs.Cells.{tables_of}
use Rattle.fabric_route_command.proofs.NoSwitchLemmas.{all_arrive, no_cycle}
use Rattle.fabric_route_command.proofs.route.given_made.Goals as goal

pub print-requires-clause-reserved : goal.print-requires-clause-reserved
print-requires-clause-reserved c none switch = c.requires.tables.owned switch 0 none

pub given_none-requires-clause-some : goal.given_none-requires-clause-some
given_none-requires-clause-some c none =
    let fabric = c.args.fabric.now in
    let tables = tables_of c.args.cells.now in
    c.passes.ensures.no fabric tables c.args.traffic c.in_ok-judged.ensures c.if-not-passes.true (no_cycle fabric tables c.args.traffic c.requires.fabric none) (all_arrive fabric tables c.args.traffic c.requires.fabric none)

pub returns : goal.returns
returns c =
    let cells = c.args.cells.now in
    let pass = c.passes.ensures.yes c.args.fabric.now (tables_of cells) c.args.traffic c.in_ok-judged.ensures c.if-not-passes.false in (
      record { tables = tables_of cells; ranks = pass.0; passes = pass.1; text = c.in_ok-print.ensures },
      (c.in_ok-measure.field-0, c.in_ok-measure.ensures, c.in_ok-measure_line.ensures),
    )
