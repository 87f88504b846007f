use Rattle.std.proofs.Common.{◌≡◌, filter, not}
use Rattle.std.specs.List.{range_with_len}
use Rattle.switch_numbering.specs.Numbering.{is_proposed, proposals}
use Rattle.switch_numbering.proofs.numbering.free_numbers.Given as goal

-- the free ones so far
abbrev pub invariant-numbers : goal.invariant-numbers
invariant-numbers l = l.free.items ≡ filter (λ n. not (is_proposed (proposals l.entries) n)) (range_with_len 1 l.below)
