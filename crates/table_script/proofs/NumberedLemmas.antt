use Rattle.std.proofs.Common.{◌≡◌, ◌∙◌, sym, ap, subst, refl, ℕ, ◌+◌, ◌<◌, List, [], ◌∷◌, ◌++◌, arith, length, take, drop, suc, zero, map, get_or, add-one}
use Rattle.std.specs.Prelude.{slice_index_or, slice_set}
use Rattle.an_base.specs.Rows.{RowOf}

-- an element that is replaced by its image
set_image : (f : RowOf → RowOf) (xs : List RowOf) (i : ℕ) (d : RowOf) → i < length xs → slice_set (map f (take i xs) ++ drop i xs) i (f (get_or xs i d)) ≡ map f (take (suc i) xs) ++ drop (suc i) xs
set_image f [] i d low = absurd (omega arith)
set_image f (x ∷ xs) zero d low = refl
set_image f (x ∷ xs) (suc i) d low = ap (λ (l : List RowOf). f x ∷ l) (set_image f xs i d (omega arith))

same_at : (f : RowOf → RowOf) (xs : List RowOf) (i : ℕ) (d : RowOf) → i < length xs → get_or (map f (take i xs) ++ drop i xs) i d ≡ get_or xs i d
same_at f [] i d low = absurd (omega arith)
same_at f (x ∷ xs) zero d low = refl
same_at f (x ∷ xs) (suc i) d low = same_at f xs i d (omega arith)

-- one row more whose place is replaced
pub numbered_more : (f : RowOf → RowOf) (xs rows : List RowOf) (i : ℕ) (row new : RowOf) → i < length xs → rows ≡ map f (take i xs) ++ drop i xs → row ≡ get_or rows i row → new ≡ f row → slice_set rows i new ≡ map f (take (i + 1) xs) ++ drop (i + 1) xs
numbered_more f xs rows i row new low is at new_is =
    let there : row ≡ get_or xs i row = at ∙ ap (λ (l : List RowOf). get_or l i row) is ∙ same_at f xs i row low in
    rw (add-one i) (ap (λ (l : List RowOf). slice_set l i new) is ∙ ap (λ (y : RowOf). slice_set (map f (take i xs) ++ drop i xs) i y) (new_is ∙ ap f there) ∙ set_image f xs i row low)
