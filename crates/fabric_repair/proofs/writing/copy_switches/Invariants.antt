use Rattle.std.proofs.Common.{◌≡◌, ◌<◌, ℕ}
use Rattle.fabric_tables.specs.Cells.{tables_of}
use Rattle.fabric_repair.specs.Repaired.{AreFilledFrom, HasKept}
use Rattle.fabric_repair.proofs.writing.copy_switches.Given as goal

-- there are as many cells, the switches so far are copied, and nothing else was put
abbrev pub invariant-switches : goal.invariant-switches
invariant-switches l = record {
  switches : l.made.switches ≡ l.initial.made.switches;
  blocks : l.made.blocks ≡ l.initial.made.blocks;
  kept : (switch lid : ℕ) → switch < l.switch → HasKept (tables_of l.given) (tables_of l.made) switch lid;
  filled : AreFilledFrom (tables_of l.given) (tables_of l.initial.made) (tables_of l.made);
}
