-- The rows of a list, as rows of a dump.
use Rattle.std.proofs.Common.{◌≡◌, ◌∙◌, sym, ap, refl, ℕ, ◌<◌, List, [], ◌∷◌, ◌++◌, arith, length, get_or, take, None, false, nat_le}
use Rattle.std.proofs.lemmas.Bool.Decides.{nat_tests}
use Rattle.std.proofs.lemmas.List.{drop_all, get_or-take, length-append}
use Rattle.fabric_words.specs.Cuts.{after}
use Rattle.fabric_words.specs.Rows.{row}
use Rattle.fabric_words.proofs.RowLemmas.{no_row, row_by_front}
use Rattle.fabric_read_tables.specs.TableLines.{listed}

abbrev with_seven : (front rest : List ℕ) → List ℕ
with_seven front rest =
    get_or front 0 0 ∷ get_or front 1 0 ∷ get_or front 2 0 ∷ get_or front 3 0 ∷ get_or front 4 0 ∷ get_or front 5 0
    ∷ get_or front 6 0 ∷ rest

-- lists of seven bytes, and of three or more
seven : (front : List ℕ) → length front ≡ 7 → front ≡ with_seven front []
seven [] is = absurd (omega (arith, is))
seven (a ∷ []) is = absurd (omega (arith, is))
seven (a ∷ b ∷ []) is = absurd (omega (arith, is))
seven (a ∷ b ∷ c ∷ []) is = absurd (omega (arith, is))
seven (a ∷ b ∷ c ∷ d ∷ []) is = absurd (omega (arith, is))
seven (a ∷ b ∷ c ∷ d ∷ e ∷ []) is = absurd (omega (arith, is))
seven (a ∷ b ∷ c ∷ d ∷ e ∷ f ∷ []) is = absurd (omega (arith, is))
seven (a ∷ b ∷ c ∷ d ∷ e ∷ f ∷ g ∷ []) is = refl
seven (a ∷ b ∷ c ∷ d ∷ e ∷ f ∷ g ∷ h ∷ more) is = absurd (omega (arith, is))

three : (rest : List ℕ) → length rest ≡ 3 → rest ≡ get_or rest 0 0 ∷ get_or rest 1 0 ∷ get_or rest 2 0 ∷ []
three [] is = absurd (omega (arith, is))
three (x ∷ []) is = absurd (omega (arith, is))
three (x ∷ y ∷ []) is = absurd (omega (arith, is))
three (x ∷ y ∷ z ∷ []) is = refl
three (x ∷ y ∷ z ∷ w ∷ more) is = absurd (omega (arith, is))

four : (rest : List ℕ) → 3 < length rest → take 4 rest ≡ get_or rest 0 0 ∷ get_or rest 1 0 ∷ get_or rest 2 0 ∷ get_or rest 3 0 ∷ []
four [] long = absurd (omega arith)
four (x ∷ []) long = absurd (omega arith)
four (x ∷ y ∷ []) long = absurd (omega arith)
four (x ∷ y ∷ z ∷ []) long = absurd (omega arith)
four (x ∷ y ∷ z ∷ w ∷ more) long = refl

joined : (front rest : List ℕ) → length front ≡ 7 → front ++ rest ≡ with_seven front rest
joined front rest is = ap (λ (bytes : List ℕ). bytes ++ rest) (seven front is)

-- the row that seven bytes and others are
pub no_joined : (front rest : List ℕ) → length front ≡ 7 → length rest < 3 → None ≡ row (front ++ rest)
no_joined front rest is few =
    let short : nat_le 10 (length (front ++ rest)) ≡ false = let size = length-append front rest in grind (arith, nat_tests) in
    no_row (front ++ rest) (rw short refl)

pub short_joined : (front rest : List ℕ) → length front ≡ 7 → length rest ≡ 3 → row (with_seven front (get_or rest 0 0 ∷ get_or rest 1 0 ∷ get_or rest 2 0 ∷ [])) ≡ row (front ++ rest)
short_joined front rest is few = ap row (ap (with_seven front) (sym (three rest few)) ∙ sym (joined front rest is))

pub long_joined : (front rest : List ℕ) → length front ≡ 7 → 3 < length rest → row (with_seven front (get_or rest 0 0 ∷ get_or rest 1 0 ∷ get_or rest 2 0 ∷ get_or rest 3 0 ∷ [])) ≡ row (front ++ rest)
long_joined front rest is long =
    let whole = front ++ rest in
    let size = length-append front rest in
    let begins : take 11 whole ≡ with_seven front (take 4 rest) = ap (take 11) (joined front rest is) in
    let eleven : take 11 whole ≡ with_seven front (get_or rest 0 0 ∷ get_or rest 1 0 ∷ get_or rest 2 0 ∷ get_or rest 3 0 ∷ []) = begins ∙ ap (with_seven front) (four rest long) in
    let counted : length (take 11 whole) ≡ 11 = ap length eleven in
    ap row (sym eleven) ∙ row_by_front (take 11 whole) whole (omega (arith, counted)) (omega (arith, size, is)) (λ k below. get_or-take 11 whole k 0 below)

-- a line that is too short
pub none_listed : (line : List ℕ) → length line < 7 → None ≡ listed line
unfolding listed after
none_listed line short = rw (drop_all 7 line (omega arith)) refl
