use Rattle.std.proofs.Common.{◌≡◌, map}
use Rattle.std.specs.List.{range_with_len}
use Rattle.table_script.specs.TableRules.{number_of}
use Rattle.table_script.proofs.table_reader.numbers_of.Given as goal

-- the numbers of the switches so far
abbrev pub invariant-switches : goal.invariant-switches
invariant-switches l = l.numbers.items ≡ map (number_of l.draft) (range_with_len 0 l.s)
