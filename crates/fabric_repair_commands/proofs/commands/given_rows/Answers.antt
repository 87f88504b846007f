use Rattle.std.proofs.Common.{◌∙◌, refl, subst, sym, List}
use Rattle.fabric_tables.specs.Cells.{TablesOf}
use Rattle.fabric_routes.specs.Counting.{IsCountOf}
use Rattle.fabric_route_command.specs.Measured.{AreMeasures}
use Rattle.fabric_repair_commands.specs.declared.rows.SetRow.{SetRow}
use Rattle.fabric_repair_commands.specs.Given.{AreToBeSet}
use Rattle.fabric_repair_commands.specs.Repairs.{IsSetFor}
use Rattle.fabric_repair_commands.proofs.SameLemmas.{set_are_made}
use Rattle.fabric_repair_commands.proofs.commands.given_rows.Goals as goal

pub returns-clause-given : goal.returns-clause-given
returns-clause-given c =
    let fabric = c.args.fabric.now in
    let given = c.args.tables.now.cells in
    let rows = c.in_ok-rows.rows.items in
    let set : AreToBeSet c.args.traffic fabric given rows = record { made = c.args.made.now; were_made = c.requires.made; rows_are = c.in_ok-rows.ensures } in
    record {
      report = record {
        traffic = c.in_ok-of.field-0;
        cells = c.count_cells.result;
        lids = c.in_ok-count_lids.field-0;
        before = c.in_ok-measure.field-0;
        after = c.in_ok-measure-2.field-0;
        rows = c.in_ok-rows.rows;
      };
      to_be_set = set;
      traffic_is = c.in_ok-of.ensures ∙ c.as_bytes.ensures.value ∙ c.word_of.ensures;
      cells = c.count_cells.ensures;
      lids = subst (λ (all : List SetRow). IsCountOf (IsSetFor all) c.in_ok-count_lids.field-0) c.deref.ensures.value c.in_ok-count_lids.ensures;
      before = c.in_ok-measure.ensures;
      after = subst (λ (tables : TablesOf). AreMeasures fabric tables c.in_ok-measure-2.field-0) (sym (set_are_made c.args.traffic fabric given rows set)) c.in_ok-measure-2.ensures;
      says = c.in_ok-print_report.ensures;
      status_is = refl;
    }
