use Rattle.std.proofs.Common.{◌≡◌, ◌++◌}
use Rattle.std.specs.List.{flat_map, range_with_len}
use Rattle.check_text.specs.Check.{number_ranks}
use Rattle.check_text.proofs.check.Naming.push_ranks.Given as goal

-- the numbers so far
abbrev pub invariant-numbers : goal.invariant-numbers
invariant-numbers l = l.text.items ≡ l.fn.text.items ++ flat_map (number_ranks l.self.script.now l.self.entries.now l.self.numbers.now l.ranks) (range_with_len 0 l.number)
