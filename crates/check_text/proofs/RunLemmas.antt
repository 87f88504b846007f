use Rattle.std.proofs.Common.{◌≡◌, ◌∙◌, sym, ap, subst, refl, ℕ, ◌+◌, ◌<◌, List, [], ◌∷◌, ◌++◌, Bool, true, false, All, map, take, length, get_or, append_assoc, arith}
use Rattle.std.specs.Prelude.{filter, if◌then◌else◌}
use Rattle.std.proofs.lemmas.List.{flat_map_more, get_or-map, length-map, take_more, map-append}
use Rattle.std.proofs.lemmas.List.Elements.{All-head, All-push, All-tail, filter-append}
use Rattle.an_base.specs.Rows.{RowOf}
use Rattle.check_text.specs.Runs.{AreRuns, IsRun, rows_in}

-- Rows in runs.

-- a row more of the same switch
pub run_on : (rows : List RowOf) (at n i : ℕ) (row : RowOf) → n ≡ i → All (λ r. r.at ≡ at) (take i rows) → i < length rows → row ≡ get_or rows i row → row.at ≡ at → (n + 1 ≡ i + 1) × All (λ r. r.at ≡ at) (take (i + 1) rows)
run_on rows at n i row same all low is of = (
  ap (λ (k : ℕ). k + 1) same,
  subst (All (λ r. r.at ≡ at)) (sym (take_more rows i row low)) (All-push (λ r. r.at ≡ at) (take i rows) (get_or rows i row) all (ap (λ (r : RowOf). r.at) (sym is) ∙ of)),
)

pub run_is : (rows : List RowOf) (at n i : ℕ) → n ≡ i → All (λ r. r.at ≡ at) (take i rows) → IsRun (take n rows)
run_is rows at n i same all = (at, subst (λ (k : ℕ). All (λ r. r.at ≡ at) (take k rows)) (sym same) all)

-- a run more
pub runs_more : {B : Type 0} (rows rest behind : List RowOf) (old new : List B) (run : B) (now : B → List RowOf) → new ≡ old ++ run ∷ [] → rows_in (map now old) ++ rest ≡ rows → All IsRun (map now old) → rest ≡ now run ++ behind → IsRun (now run) → (rows_in (map now new) ++ behind ≡ rows) × All IsRun (map now new)
runs_more rows rest behind old new run now more all each split one =
    let is : map now new ≡ map now old ++ now run ∷ [] = ap (map now) more ∙ map-append now old (run ∷ []) in
    let in_all : rows_in (map now new) ≡ rows_in (map now old) ++ now run = ap rows_in is ∙ sym (flat_map_more (λ (r : List RowOf). r) [] (map now old) (now run)) in (
      ap (λ (l : List RowOf). l ++ behind) in_all ∙ append_assoc (rows_in (map now old)) (now run) behind ∙ ap (λ (l : List RowOf). rows_in (map now old) ++ l) (sym split) ∙ all,
      subst (All IsRun) (sym is) (All-push IsRun (map now old) (now run) each one),
    )

-- where all elements pass, and where none does
pub filter_alike : {X : Type 0} (p : X → Bool) (xs : List X) (b : Bool) → All (λ x. p x ≡ b) xs → (if b then xs else []) ≡ filter p xs
filter_alike p [] true all = refl
filter_alike p [] false all = refl
filter_alike p (x ∷ xs) true all = rw (All-head (λ y. p y ≡ true) x xs all, sym (filter_alike p xs true (All-tail (λ y. p y ≡ true) x xs all))) refl
filter_alike p (x ∷ xs) false all = rw (All-head (λ y. p y ≡ false) x xs all, sym (filter_alike p xs false (All-tail (λ y. p y ≡ false) x xs all))) refl

-- a run of rows
pub run_at : {B : Type 0} (runs : List B) (now : B → List RowOf) (i : ℕ) (run : B) → i < length runs → run ≡ get_or runs i run → now run ≡ get_or (map now runs) i (now run)
run_at runs now i run low is = ap now is ∙ sym (get_or-map now runs i run (now run) low)

pub run_there : {B : Type 0} (rows : List RowOf) (runs : List B) (now : B → List RowOf) (i : ℕ) (run : B) → AreRuns rows (map now runs) → i < length runs → run ≡ get_or runs i run → IsRun (now run)
run_there rows runs now i run are low is = subst IsRun (sym (run_at runs now i run low is)) (are.each i (now run) (let e = length-map runs now in omega arith))

-- those that pass of a run more
pub rows_more : {B : Type 0} (f : RowOf → RowOf) (p : RowOf → Bool) (runs : List B) (now : B → List RowOf) (i : ℕ) (run : B) (kept old new : List RowOf) → i < length runs → run ≡ get_or runs i run → kept ≡ filter p (now run) → old ≡ map f (filter p (rows_in (take i (map now runs)))) → new ≡ old ++ map f kept
    → new ≡ map f (filter p (rows_in (take (i + 1) (map now runs))))
rows_more f p runs now i run kept old new low at is so_far more =
    let all = map now runs in
    let next : rows_in (take (i + 1) all) ≡ rows_in (take i all) ++ now run =
    ap rows_in (take_more all i (now run) (let e = length-map runs now in omega arith) ∙ ap (λ (r : List RowOf). take i all ++ r ∷ []) (sym (run_at runs now i run low at))) ∙ sym (flat_map_more (λ (r : List RowOf). r) [] (take i all) (now run)) in
    more ∙ ap (λ (l : List RowOf). l ++ map f kept) so_far ∙ ap (λ (l : List RowOf). map f (filter p (rows_in (take i all))) ++ map f l) is
    ∙ sym (map-append f (filter p (rows_in (take i all))) (filter p (now run))) ∙ ap (map f) (sym (filter-append p (rows_in (take i all)) (now run))) ∙ ap (λ (l : List RowOf). map f (filter p l)) (sym next)
