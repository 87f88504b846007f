use Rattle.std.proofs.Common.{◌∙◌}
use Rattle.fabric_tables.specs.Cells.{tables_of}
use Rattle.fabric_repair.proofs.CopyLemmas.{filled_same}
use Rattle.fabric_repair.proofs.writing.write_tables.Goals as goal

pub returns : goal.returns
returns c = record {
  switches = c.copy_switches.ensures.switches ∙ c.put_rows.ensures.tables.switches;
  blocks = c.copy_switches.ensures.blocks ∙ c.put_rows.ensures.blocks ∙ c.in_ok-made.ensures.blocks;
  kept = c.copy_switches.ensures.kept;
  unowned = λ switch lid nobody. filled_same (tables_of c.args.given.now) (tables_of c.put_rows.new.made) (tables_of c.copy_switches.new.made) switch lid (c.put_rows.ensures.tables.owned switch lid nobody) c.copy_switches.ensures.filled (c.copy_switches.ensures.kept switch lid);
}
