use Rattle.std.proofs.Common.{◌≡◌, ◌∙◌, ap, refl, ℕ, ◌+◌, ◌<◌, List, [], ◌∷◌, Some, None, Bool, true, false, arith, length, get_or, AllPairs, Less, Equal, Greater, inl, inr, ◌⊎◌, ◌==◌, ◌&&◌}
use Rattle.std.specs.Prelude.{find, slice_get}
use Rattle.std.specs.declared.cmp.Ordering.{Ordering}
use Rattle.std.specs.declared.result.Result.TheVariants.{Err}
use Rattle.std.specs.Ordering.{nat_cmp, ordering_then, is_lt}
use Rattle.std.specs.Cmp.{IsTotalOrder, then_total, on_total, nat_cmp_total}
use Rattle.std.specs.List.Sorted.{IsBinarySearchResult}
use Rattle.std.proofs.lemmas.Bool.{cases_lt}
use Rattle.std.proofs.lemmas.Bool.Decides.{nat_tests}
use Rattle.std.proofs.lemmas.Option.{slice_get-get_or}
use Rattle.std.proofs.lemmas.List.Sums.{position_or_len_is}
use Rattle.std.proofs.lemmas.List.Folds.{find_at}
use Rattle.std.proofs.lemmas.List.Sorted.{searchable_from_sorted}
use Rattle.an_base.specs.Rows.{RowOf}
use Rattle.table_build.specs.Tables.{TableOf, IsBefore, exits_of}

-- rows by entry, then by number
abbrev pub row_cmp : RowOf → RowOf → Ordering
row_cmp a b = ordering_then (nat_cmp a.entry b.entry) (nat_cmp a.to b.to)

row_total : IsTotalOrder row_cmp
row_total = then_total (on_total (λ r. r.entry) nat_cmp_total) (on_total (λ r. r.to) nat_cmp_total)

-- a row of an entry and a number
abbrev pub sought : ℕ → ℕ → RowOf
sought entry number = record { at = 0; entry = entry; to = number; exits = [] }

-- whether a row is that of an entry and a number
abbrev pub is_sought : ℕ → ℕ → RowOf → Bool
is_sought entry number r = (r.entry == entry) && (r.to == number)

equal_sought : (a b c d : ℕ) → ordering_then (nat_cmp a b) (nat_cmp c d) ≡ Equal → ((a == b) && (c == d)) ≡ true
equal_sought a b c d e = grind (arith, nat_tests)

less_not_sought : (a b c d : ℕ) → ordering_then (nat_cmp a b) (nat_cmp c d) ≡ Less → ((a == b) && (c == d)) ≡ false
less_not_sought a b c d e = grind (arith, nat_tests)

greater_not_sought : (a b c d : ℕ) → ordering_then (nat_cmp a b) (nat_cmp c d) ≡ Greater → ((a == b) && (c == d)) ≡ false
greater_not_sought a b c d e = grind (arith, nat_tests)

before_not_sought : (a b c d e f : ℕ) → (a < b) ⊎ ((a ≡ b) × (c < d)) → ((b == e) && (d == f)) ≡ true → ((a == e) && (c == f)) ≡ false
before_not_sought a b c d e f before test = grind (arith, nat_tests)

before_not_after : (a b c d : ℕ) → (a < b) ⊎ ((a ≡ b) × (c < d)) → is_lt (ordering_then (nat_cmp b a) (nat_cmp d c)) ≡ false
before_not_after a b c d before = grind (arith, nat_tests)

-- what is found is the row
pub row_found : (t : TableOf) (entry number i : ℕ) (r : RowOf) → AllPairs IsBefore t.rows → i < length t.rows → ((d : RowOf) → row_cmp (get_or t.rows i d) (sought entry number) ≡ Equal) → r ≡ get_or t.rows i r → r.exits ≡ exits_of t entry number
row_found t entry number i r rising low equal is =
    let at : RowOf = get_or t.rows i r in
    let here : is_sought entry number at ≡ true = equal_sought at.entry entry at.to number (equal r) in
    let first = position_or_len_is (is_sought entry number) t.rows i r (omega arith)
    (λ k less. let b = get_or t.rows k r in before_not_sought b.entry at.entry b.to at.to entry number (rising k i r less low) here)
    (λ _. here) in
    let found : find (is_sought entry number) t.rows ≡ Some at = find_at (is_sought entry number) t.rows ∙ ap (slice_get t.rows) first ∙ slice_get-get_or t.rows i r low in
    rw found (ap (λ (q : RowOf). q.exits) is)

-- and where nothing is found there is none
pub row_lost : (t : TableOf) (entry number i : ℕ) → AllPairs IsBefore t.rows → IsBinarySearchResult (λ r. row_cmp r (sought entry number)) t.rows (Err i) → [] ≡ exits_of t entry number
row_lost t entry number i rising result =
    let none = sought entry number in
    let parts = result (searchable_from_sorted row_total (λ r. r) t.rows none (λ k d least low. let a = get_or t.rows k d in let b = get_or t.rows (k + 1) d in before_not_after a.entry b.entry a.to b.to (rising k (k + 1) d (omega arith) low))) in
    let first = position_or_len_is (is_sought entry number) t.rows (length t.rows) none (omega arith)
    (λ k low. let r = get_or t.rows k none in elim (cases_lt k i) [
      | inl before ↦ less_not_sought r.entry entry r.to number (parts.0 k none (omega arith) before)
      | inr after ↦ greater_not_sought r.entry entry r.to number (parts.1 k none (omega arith) low)
    ])
    (λ low. absurd (omega arith)) in
    let past : slice_get t.rows (length t.rows) ≡ None = past_end t.rows in
    let found : find (is_sought entry number) t.rows ≡ None = find_at (is_sought entry number) t.rows ∙ ap (slice_get t.rows) first ∙ past in
    rw found refl
  where
    past_end : (rows : List RowOf) → slice_get rows (length rows) ≡ None
    past_end [] = refl
    past_end (r ∷ rows) = past_end rows
