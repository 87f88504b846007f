use Rattle.std.proofs.Common.{◌∙◌, inl, refl, rules, subst, sym}
use Rattle.fabric_tables.specs.Cells.{TablesOf, tables_of}
use Rattle.fabric_print_tables.specs.Texts.{IsTextOf}
use Rattle.fabric_repair_commands.specs.Given.{WereMadeOf}
use Rattle.fabric_repair_commands.specs.Repairs.{rows_set}
use Rattle.fabric_repair_commands.proofs.commands.RepairedTablesCommand.given.Goals as goal

pub returns-in_ok-print-in-Ok-clause-given : goal.returns-in_ok-print-in-Ok-clause-given
returns-in_ok-print-in-Ok-clause-given c =
    let fabric = c.args.topology.now.fabric in
    let given = c.args.tables.now.cells in
    let made = c.in-Ok.made in
    let were : WereMadeOf c.args.self.now.traffic fabric given made = search rules in
    inl (record {
      rows = rows_set fabric (tables_of given) (tables_of made);
      to_be_set = record { made = made; were_made = were; rows_are = refl };
      told = subst (λ (tables : TablesOf). IsTextOf fabric c.in_ok-print-in-Ok.field-0.items tables) (sym were.set) c.in_ok-print-in-Ok.ensures;
      status_is = refl;
    })

pub print-requires-clause-reserved : goal.print-requires-clause-reserved
print-requires-clause-reserved c none switch =
    let were : WereMadeOf c.args.self.now.traffic c.args.topology.now.fabric c.args.tables.now.cells c.in-Ok.made = search rules in
    were.shape.unowned switch 0 none ∙ c.requires.reserved switch
