-- The first line of bytes, and words of which none is empty.
use Rattle.std.proofs.Common.{◌≡◌, ◌≢◌, ◌∙◌, sym, ap, refl, ℕ, ◌+◌, ◌-◌, ◌<◌, ◌≤◌, List, [], ◌∷◌, ◌++◌, append_assoc, length, length-take, get_or, take, drop, drop-cons, add-one, Some, None, true, false, eqb, All, arith, map, not, subst, Bor}
use Rattle.std.specs.List.{position, slice_split}
use Rattle.std.proofs.lemmas.Bool.Decides.{Decides-eqb, nat_tests}
use Rattle.std.proofs.lemmas.List.{take_rest, take_all, take-append-drop, get_or-take, length-map, get_or-map, map_push}
use Rattle.std.proofs.lemmas.List.Folds.{list_all_more, list_all_at}
use Rattle.std.proofs.lemmas.List.Elements.{All-from_get_or}
use Rattle.std.proofs.lemmas.List.Quantifiers.{position-Some}
use Rattle.std.proofs.lemmas.List.Splits.{slice_split_none, slice_split_at}
use Rattle.common_lines.proofs.LineLemmas.{position_none}
use Rattle.journal.specs.Words.{words_of, has_words}
use Rattle.journal.specs.Texts.{IsFirstLine}

no_feed : (c : ℕ) → eqb c 10 ≡ false → c ≢ 10
no_feed c t same = grind (arith, nat_tests)

-- bytes without a line feed
pub feedless : (bytes : List ℕ) → position (λ c. eqb c 10) bytes ≡ None → All (λ c. c ≢ 10) bytes
feedless bytes none = All-from_get_or (λ c. c ≢ 10) bytes 0 (λ k low. no_feed (get_or bytes k 0) (position_none (λ (c : ℕ). eqb c 10) bytes 0 none k low))

-- the first line, up to the first line feed
pub first_is : (bytes : List ℕ) (i : ℕ) → position (λ c. eqb c 10) bytes ≡ Some i → IsFirstLine bytes (take i bytes) (take (length bytes - (i + 1)) (drop (i + 1) bytes))
first_is bytes i at =
    let here = position-Some (λ (c : ℕ). eqb c 10) bytes i 0 at in
    let within : i < length bytes = here.0 in
    let feed : get_or bytes i 0 ≡ 10 = (Decides-eqb (get_or bytes i 0) 10).0 here.1 in
    let rest : drop i bytes ≡ 10 ∷ drop (i + 1) bytes = rw (add-one, drop-cons bytes i 0 within, feed) refl in
    record {
      parts = sym (take-append-drop i bytes) ∙ ap (λ (xs : List ℕ). take i bytes ++ xs) (rest ∙ ap (λ (xs : List ℕ). 10 ∷ xs) (sym (take_rest bytes (i + 1))));
      no_feed = All-from_get_or (λ c. c ≢ 10) (take i bytes) 0 (λ k low. let below : k < i = omega (arith, length-take i bytes) in no_feed (get_or (take i bytes) k 0) (ap (λ (c : ℕ). eqb c 10) (get_or-take i bytes k 0 below) ∙ here.2 k below));
    }

-- the first of two or more words, up to the first space
pub first_word_is : (line : List ℕ) (i : ℕ) → position (λ c. eqb c 32) line ≡ Some i → words_of line ≡ take i line ∷ words_of (take (length line - (i + 1)) (drop (i + 1) line))
unfolding words_of
first_word_is line i at =
    let here = position-Some (λ (c : ℕ). eqb c 32) line i 0 at in
    let within : i < length line = here.0 in
    let space : get_or line i 0 ≡ 32 = (Decides-eqb (get_or line i 0) 32).0 here.1 in
    let rest : drop i line ≡ 32 ∷ drop (i + 1) line = rw (add-one, drop-cons line i 0 within, space) refl in
    let parts : line ≡ take i line ++ 32 ∷ drop (i + 1) line = sym (take-append-drop i line) ∙ ap (λ (xs : List ℕ). take i line ++ xs) rest in
    let free : All (λ c. eqb c 32 ≡ false) (take i line) = All-from_get_or (λ c. eqb c 32 ≡ false) (take i line) 0 (λ k low. let below : k < i = omega (arith, length-take i line) in ap (λ (c : ℕ). eqb c 32) (get_or-take i line k 0 below) ∙ here.2 k below) in
    ap (slice_split (λ c. eqb c 32)) parts
    ∙ slice_split_at (λ c. eqb c 32) (take i line) 32 (drop (i + 1) line) free refl
    ∙ ap (λ (xs : List ℕ). take i line ∷ slice_split (λ c. eqb c 32) xs) (sym (take_rest line (i + 1)))

-- a line without a space is one word
pub one_word_is : (line : List ℕ) → position (λ c. eqb c 32) line ≡ None → words_of line ≡ line ∷ []
unfolding words_of
one_word_is line none = slice_split_none (λ c. eqb c 32) line (All-from_get_or (λ c. eqb c 32 ≡ false) line 0 (position_none (λ (c : ℕ). eqb c 32) line 0 none))

-- one more word of a line was cut off
pub cut_more : (words : List (Bor (List ℕ))) (word : Bor (List ℕ)) (all parts rest : List (List ℕ)) → map (λ w. w.now) words ++ parts ≡ all → parts ≡ word.now ∷ rest → map (λ w. w.now) (words ++ word ∷ []) ++ rest ≡ all
cut_more words word all parts rest so_far cut =
    ap (λ (ws : List (List ℕ)). ws ++ rest) (map_push (λ (w : Bor (List ℕ)). w.now) words word)
    ∙ append_assoc (map (λ (w : Bor (List ℕ)). w.now) words) (word.now ∷ []) rest
    ∙ ap (λ (ws : List (List ℕ)). map (λ (w : Bor (List ℕ)). w.now) words ++ ws) (sym cut)
    ∙ so_far

-- and then the last
pub cut_all : (words : List (Bor (List ℕ))) (word : Bor (List ℕ)) (all parts : List (List ℕ)) → map (λ w. w.now) words ++ parts ≡ all → parts ≡ word.now ∷ [] → map (λ w. w.now) (words ++ word ∷ []) ≡ all
cut_all words word all parts so_far last =
    map_push (λ (w : Bor (List ℕ)). w.now) words word ∙ ap (λ (ws : List (List ℕ)). map (λ (w : Bor (List ℕ)). w.now) words ++ ws) (sym last) ∙ so_far

-- the words so far, with one more, where none is empty
pub words_more : (words : List (Bor (List ℕ))) (i : ℕ) (d : Bor (List ℕ)) → i < length words → has_words (take i (map (λ w. w.now) words)) ≡ true → eqb (length (get_or words i d).now) 0 ≡ false → has_words (take (i + 1) (map (λ w. w.now) words)) ≡ true
words_more words i d within so_far some =
    let ws = map (λ (w : Bor (List ℕ)). w.now) words in
    let low : i < length ws = omega (arith, length-map words (λ (w : Bor (List ℕ)). w.now)) in
    list_all_more (λ (w : List ℕ). not (eqb (length w) 0)) ws i [] low
    ∙ rw (so_far, get_or-map (λ (w : Bor (List ℕ)). w.now) words i d [] within, some) refl

-- an empty word
pub words_fail : (words : List (Bor (List ℕ))) (i : ℕ) (d : Bor (List ℕ)) → i < length words → eqb (length (get_or words i d).now) 0 ≡ true → has_words (map (λ w. w.now) words) ≡ false
words_fail words i d within none =
    let ws = map (λ (w : Bor (List ℕ)). w.now) words in
    let low : i < length ws = omega (arith, length-map words (λ (w : Bor (List ℕ)). w.now)) in
    list_all_at (λ (w : List ℕ). not (eqb (length w) 0)) ws i [] low (rw (get_or-map (λ (w : Bor (List ℕ)). w.now) words i d [] within, none) refl)

-- all words
pub words_all : (words : List (Bor (List ℕ))) (i : ℕ) → length words ≤ i → has_words (take i (map (λ w. w.now) words)) ≡ true → has_words (map (λ w. w.now) words) ≡ true
words_all words i past so_far = subst (λ (ws : List (List ℕ)). has_words ws ≡ true) (take_all i (map (λ (w : Bor (List ℕ)). w.now) words) (omega (arith, length-map words (λ (w : Bor (List ℕ)). w.now)))) so_far
