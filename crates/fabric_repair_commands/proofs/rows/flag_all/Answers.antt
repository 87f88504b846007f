use Rattle.std.proofs.Common.{◌+◌, None, arith, subst, sym, take, List}
use Rattle.std.proofs.lemmas.List.{take_all}
use Rattle.fabric_routes.specs.Counting.{IsCountOf}
use Rattle.fabric_repair_commands.specs.declared.rows.SetRow.{SetRow}
use Rattle.fabric_repair_commands.specs.Flags.{AreFlagged}
use Rattle.fabric_repair_commands.specs.Repairs.{IsSetFor}
use Rattle.fabric_repair_commands.proofs.LidLemmas.{none_flagged, rows_more}
use Rattle.fabric_repair_commands.proofs.rows.flag_all.Goals as goal

pub rows-init : goal.rows-init
rows-init c = record { flagged = none_flagged c.args.flags.now c.requires; few = omega arith }

pub rows-preserved : goal.rows-preserved
rows-preserved c =
    let rows = c.args.rows.now in
    let k = c.rows.row-index in
    let first : SetRow = record { guid = 0; lid = 0; port = 0; had = None } in
    record {
      flagged = subst (λ (some : List SetRow). AreFlagged some c.flag-count.new.flags (c.rows.count + c.flag-count.result)) (sym (rows_more rows k first c.rows-test.true)) (c.flag-count.ensures.flagged (take k rows) c.rows.count c.rows.invariant.flagged);
      few = (let one = c.flag-count.ensures.few in let had = c.rows.invariant.few in omega arith);
    }

pub returns : goal.returns
returns c = subst (λ (some : List SetRow). IsCountOf (IsSetFor some) c.rows.count) (take_all c.rows.row-index c.args.rows.now c.rows-test.false) c.rows.invariant.flagged.counted
