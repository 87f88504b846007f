-- The numbers of entries in order of life: the first that proposes a number gets it; the others get free ones.
use Rattle.std.specs.Prelude.{◌==◌, ℕ, zero, suc, ◌+◌, List, length, take, map, filter, Bool, not}
use Rattle.std.specs.Prelude.{if◌then◌else◌}
use Rattle.std.specs.Prelude.{slice_index}
use Rattle.std.specs.List.{list_any, range_with_len}
use Rattle.an_base.specs.Values.{EntryOf}
use Rattle.an_base.specs.declared.limits.TheConstants.{MOST_NUMBER}

-- whether `number` is among the numbers `proposed`
abbrev pub is_proposed : List ℕ → ℕ → Bool
is_proposed proposed number = list_any (λ other. other == number) proposed

-- all valid numbers, from 1
unfoldable pub all_numbers : List ℕ
all_numbers = range_with_len 1 MOST_NUMBER

-- the numbers that nobody proposed, in ascending order
abbrev pub free : List ℕ → List ℕ
free proposed = filter (λ number. not (is_proposed proposed number)) all_numbers

-- whether the entry at index `place` is the first that proposes its number
abbrev pub is_first : List ℕ → ℕ → Bool
is_first proposed place = not (is_proposed (take place proposed) (slice_index proposed place))

-- how many entries before the index `place` are not the first that propose their number
abbrev pub others_before : List ℕ → ℕ → ℕ
others_before proposed zero = 0
others_before proposed (suc place) = others_before proposed place + (if is_first proposed place then 0 else 1)

-- The number of the entry at index `place`: the one that it proposes, if it is the first that proposes it. The others
-- get the numbers that nobody proposed, in order.
abbrev pub number_at : List ℕ → ℕ → ℕ
number_at proposed place =
    if is_first proposed place
    then slice_index proposed place
    else slice_index (free proposed) (others_before proposed place)

-- the numbers that the entries propose
abbrev pub proposals : List EntryOf → List ℕ
proposals entries = map (λ entry. entry.proposed) entries

-- the numbers of entries that are in ascending order of life, in the same order
abbrev pub numbering : List EntryOf → List ℕ
numbering entries = map (number_at (proposals entries)) (range_with_len 0 (length entries))
