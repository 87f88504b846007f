use Rattle.std.proofs.Common.{◌≡◌, ◌≤◌, length}
use Rattle.common_lines.specs.Lines.{parts_of}
use Rattle.table_script.proofs.table_words.next_word.Given as goal

-- blanks were passed over
abbrev pub invariant-blanks : goal.invariant-blanks
invariant-blanks l = record {
  words : parts_of l.rest ≡ parts_of l.text;
  fewer : length l.rest ≤ length l.text;
}

abbrev pub decreases-blanks : goal.decreases-blanks
decreases-blanks l = length l.rest
