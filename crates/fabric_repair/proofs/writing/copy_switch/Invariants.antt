use Rattle.std.proofs.Common.{◌≡◌, ◌<◌, ℕ}
use Rattle.fabric_tables.specs.Cells.{tables_of}
use Rattle.fabric_repair.specs.Repaired.{AllKept, AreFilledFrom, HasKept}
use Rattle.fabric_repair.proofs.writing.copy_switch.Given as goal

-- there are as many cells, no port is less, the LIDs so far are copied, and nothing else was put
abbrev pub invariant-lids : goal.invariant-lids
invariant-lids l = record {
  switches : l.made.switches ≡ l.initial.made.switches;
  blocks : l.made.blocks ≡ l.initial.made.blocks;
  kept : AllKept (tables_of l.initial.made) (tables_of l.made);
  here : (lid : ℕ) → lid < l.lid → HasKept (tables_of l.given) (tables_of l.made) l.switch lid;
  filled : AreFilledFrom (tables_of l.given) (tables_of l.initial.made) (tables_of l.made);
}
