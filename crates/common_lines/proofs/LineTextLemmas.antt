use Rattle.std.proofs.Common.{◌≡◌, ◌∙◌, sym, ap, refl, ℕ, ◌+◌, ◌<◌, ◌≤◌, ◌⊎◌, List, [], ◌∷◌, ◌++◌, append_assoc, arith, length, length-take, get_or, take, cond, ltb, true, false, inl, inr, map, Bor}
use Rattle.std.specs.List.{join_with_byte}
use Rattle.std.proofs.lemmas.Bool.{cases_lt}
use Rattle.std.proofs.lemmas.Bool.Decides.{nat_tests}
use Rattle.std.proofs.lemmas.List.{take_more, nil_from_length, length-map, get_or-map}

-- words joined, with one more behind others
join_push : (xs : List (List ℕ)) (y : List ℕ) → 0 < length xs → join_with_byte 32 (xs ++ y ∷ []) ≡ join_with_byte 32 xs ++ 32 ∷ y
join_push [] y some = absurd (omega arith)
join_push (x ∷ []) y some = refl
join_push (x ∷ z ∷ more) y some =
    ap (λ (b : List ℕ). x ++ 32 ∷ b) (join_push (z ∷ more) y (omega arith))
    ∙ sym (append_assoc x (32 ∷ join_with_byte 32 (z ∷ more)) (32 ∷ y))

-- a space where a word stands before
abbrev pub space_at : ℕ → List ℕ
space_at i = cond (ltb 0 i) (32 ∷ []) []

-- words joined, with one more at a place
pub join_more : (ws : List (List ℕ)) (i : ℕ) → i < length ws → join_with_byte 32 (take (i + 1) ws) ≡ join_with_byte 32 (take i ws) ++ (space_at i ++ get_or ws i [])
join_more ws i within = ap (join_with_byte 32) (take_more ws i [] within) ∙ go (cases_lt 0 i)
  where
    front : length (take i ws) ≡ i
    front = omega (arith, length-take i ws)

    go : (0 < i) ⊎ (i ≤ 0) → join_with_byte 32 (take i ws ++ get_or ws i [] ∷ []) ≡ join_with_byte 32 (take i ws) ++ (space_at i ++ get_or ws i [])
    go (inl some) = let t : ltb 0 i ≡ true = grind (arith, nat_tests) in join_push (take i ws) (get_or ws i []) (omega (arith, front)) ∙ rw t refl
    go (inr none) = let t : ltb 0 i ≡ false = grind (arith, nat_tests) in rw (t, nil_from_length (take i ws) (omega (arith, front))) refl

-- a word of a line, with what stood before
pub line_more : (words : List (Bor (List ℕ))) (i : ℕ) (d : Bor (List ℕ)) (old text spaced all : List ℕ) → i < length words → text ≡ old ++ join_with_byte 32 (take i (map (λ w. w.now) words)) → spaced ≡ text ++ space_at i → all ≡ spaced ++ (get_or words i d).now → all ≡ old ++ join_with_byte 32 (take (i + 1) (map (λ w. w.now) words))
line_more words i d old text spaced all within so_far space last =
    let ws = map {A = Bor (List ℕ)} (λ w. w.now) words in
    let low : i < length ws = omega (arith, length-map words (λ (w : Bor (List ℕ)). w.now)) in
    let here : get_or ws i [] ≡ (get_or words i d).now = get_or-map (λ (w : Bor (List ℕ)). w.now) words i d [] within in
    last
    ∙ ap (λ (s : List ℕ). s ++ (get_or words i d).now) (space ∙ ap (λ (b : List ℕ). b ++ space_at i) so_far)
    ∙ ap (λ (b : List ℕ). b ++ (get_or words i d).now) (append_assoc old (join_with_byte 32 (take i ws)) (space_at i))
    ∙ append_assoc old (join_with_byte 32 (take i ws) ++ space_at i) (get_or words i d).now
    ∙ ap (λ (b : List ℕ). old ++ b) (append_assoc (join_with_byte 32 (take i ws)) (space_at i) (get_or words i d).now ∙ ap (λ (b : List ℕ). join_with_byte 32 (take i ws) ++ (space_at i ++ b)) (sym here) ∙ sym (join_more ws i low))
