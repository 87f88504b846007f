use Rattle.std.proofs.Common.{◌≡◌, ℕ, ◌<◌, ◌≤◌, map}
use Rattle.std.specs.Prelude.{slice_index_or}
use Rattle.std.specs.List.{range_with_len}
use Rattle.an_base.specs.Values.{EntryOf}
use Rattle.switch_numbering.specs.Numbering.{number_at, others_before, proposals}
use Rattle.switch_numbering.proofs.numbering.number.Given as goal

-- the numbers so far; and what the entries so far propose is within 1 to 126
abbrev pub invariant-entries : goal.invariant-entries
invariant-entries l =
    (l.numbers.items ≡ map (number_at (proposals l.entries)) (range_with_len 0 l.i))
    × (l.others ≡ others_before (proposals l.entries) l.i)
    × ((k : ℕ) (d : EntryOf) → k < l.i → (1 ≤ (slice_index_or l.entries k d).proposed) × ((slice_index_or l.entries k d).proposed ≤ 126))
