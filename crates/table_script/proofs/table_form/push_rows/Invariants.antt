use Rattle.std.proofs.Common.{◌≡◌, ◌++◌, map, length}
use Rattle.common_lines.specs.Lines.{parts_of}
use Rattle.table_script.specs.TableRules.{are_pairs, row_of}
use Rattle.table_script.proofs.table_form.push_rows.Given as goal

-- the pairs that are left rise above the last one, and their rows are what is still to be added
abbrev pub invariant-pairs : goal.invariant-pairs
invariant-pairs l = record {
  fit : are_pairs l.above (parts_of l.left) ≡ are_pairs 0 (parts_of l.pairs);
  rows : record l.draft { rows = l.draft.rows ++ map (row_of l.s l.entry) (parts_of l.left) } ≡ record l.fn.draft { rows = l.fn.draft.rows ++ map (row_of l.s l.entry) (parts_of l.pairs) };
}

abbrev pub decreases-pairs : goal.decreases-pairs
decreases-pairs l = length l.left
