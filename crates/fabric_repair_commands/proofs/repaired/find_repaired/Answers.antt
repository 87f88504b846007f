use Rattle.std.proofs.Common.{◌≡◌, subst, sym}
use Rattle.fabric_tables.specs.Cells.{TablesOf, tables_of}
use Rattle.fabric_call.specs.declared.status.Status.TheVariants.{Ok}
use Rattle.fabric_judge_commands.specs.Judged.{IsEndOf}
use Rattle.fabric_repair_commands.specs.Repairs.{Pass}
use Rattle.fabric_repair_commands.proofs.repaired.find_repaired.Goals as goal

-- the given tables pass, so their copy does
pub returns-in_ok-made-in-Ok-clause-made : goal.returns-in_ok-made-in-Ok-clause-made
returns-in_ok-made-in-Ok-clause-made c =
    let fabric = c.args.fabric.now in
    let given = tables_of c.args.cells.now in
    let kept = c.in_ok-made-in-Ok in
    let ok : c.in_ok-status.status ≡ Ok = cc (c.in-Ok.is) in
    record {
      shape = kept.ensures.shape;
      pass = subst (λ (tables : TablesOf). Pass c.args.traffic fabric tables) (sym kept.ensures.same) (subst (IsEndOf fabric given c.args.traffic) ok c.in_ok-status.ensures);
      set = c.see_set.ensures;
    }
