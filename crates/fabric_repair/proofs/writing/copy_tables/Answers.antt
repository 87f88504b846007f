use Rattle.std.proofs.Common.{◌∙◌}
use Rattle.fabric_tables.specs.Cells.{tables_of}
use Rattle.fabric_repair.proofs.CopyLemmas.{all_same, filled_same}
use Rattle.fabric_repair.proofs.writing.copy_tables.Goals as goal

pub returns-clause-made : goal.returns-clause-made
returns-clause-made c = record {
  switches = c.copy_switches.ensures.switches ∙ c.in_ok-made.ensures.switches ∙ c.requires;
  blocks = c.copy_switches.ensures.blocks ∙ c.in_ok-made.ensures.blocks;
  kept = c.copy_switches.ensures.kept;
  unowned = λ switch lid nobody. filled_same (tables_of c.args.given.now) (tables_of c.in_ok-made.made) (tables_of c.copy_switches.new.made) switch lid (c.in_ok-made.ensures.none switch lid) c.copy_switches.ensures.filled (c.copy_switches.ensures.kept switch lid);
}

pub returns-clause-same : goal.returns-clause-same
returns-clause-same c = all_same (tables_of c.args.given.now) (tables_of c.in_ok-made.made) (tables_of c.copy_switches.new.made) c.in_ok-made.ensures.none c.copy_switches.ensures.filled c.copy_switches.ensures.kept
