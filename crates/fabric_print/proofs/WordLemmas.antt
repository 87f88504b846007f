-- A row, word after word.
use Rattle.std.proofs.Common.{◌≡◌, ◌∙◌, sym, ap, ℕ, ◌+◌, ◌<◌, List, [], ◌∷◌, ◌++◌, append_assoc, append-nil, length, get_or, take, map}
use Rattle.std.specs.List.{flat_map}
use Rattle.std.proofs.lemmas.List.{take_more, map_push}
use Rattle.std.proofs.lemmas.Grind.{flat_map-append}
use Rattle.common_lines.specs.Lines.{line_text, forms_text_by}
use Rattle.common_lines.proofs.FormTexts.{line_pieces, text_push}
use Rattle.fabric_print.specs.declared.row.RowWord.{RowWord}
use Rattle.fabric_print.specs.RowWords.{word_text}

-- words with a space before each
abbrev pub spaced : List RowWord → List ℕ
spaced words = flat_map (λ v. 32 ∷ v) (map word_text words)

spaced_push : (ws : List RowWord) (w : RowWord) → spaced (ws ++ w ∷ []) ≡ spaced ws ++ 32 ∷ word_text w
spaced_push ws w =
    ap (flat_map (λ (v : List ℕ). 32 ∷ v)) (map_push word_text ws w)
    ∙ flat_map-append (λ (v : List ℕ). 32 ∷ v) (map word_text ws) (word_text w ∷ [])
    ∙ ap (λ (b : List ℕ). spaced ws ++ b) (append-nil (32 ∷ word_text w))

-- one more word
pub word_more : (words : List RowWord) (i : ℕ) (w first : RowWord) (old text apart all : List ℕ) → i < length words → w ≡ get_or words i first → text ≡ old ++ spaced (take i words) → apart ≡ text ++ 32 ∷ [] → all ≡ apart ++ word_text w → all ≡ old ++ spaced (take (i + 1) words)
word_more words i w first old text apart all low is so_far space last =
    last
    ∙ ap (λ (t : List ℕ). t ++ word_text w) (space ∙ ap (λ (t : List ℕ). t ++ 32 ∷ []) so_far)
    ∙ append_assoc (old ++ spaced (take i words)) (32 ∷ []) (word_text w)
    ∙ append_assoc old (spaced (take i words)) (32 ∷ word_text w)
    ∙ ap (λ (b : List ℕ). old ++ b) (sym (spaced_push (take i words) w) ∙ ap spaced (ap (λ (n : RowWord). take i words ++ n ∷ []) is ∙ sym (take_more words i first low)))

-- all words, and the end of the line
pub row_is : (first : RowWord) (more : List RowWord) (old begun text all : List ℕ) → begun ≡ old ++ word_text first → text ≡ begun ++ spaced more → all ≡ text ++ 10 ∷ [] → all ≡ old ++ line_text (word_text first ∷ map word_text more)
row_is first more old begun text all start so_far last =
    last
    ∙ ap (λ (t : List ℕ). t ++ 10 ∷ []) (so_far ∙ ap (λ (t : List ℕ). t ++ spaced more) start)
    ∙ append_assoc (old ++ word_text first) (spaced more) (10 ∷ [])
    ∙ append_assoc old (word_text first) (spaced more ++ 10 ∷ [])
    ∙ ap (λ (t : List ℕ). old ++ t) (sym (line_pieces (word_text first) (map word_text more)))

-- the rows of items, with one more
pub rows_more : {Item : Type 0} (row_of : Item → List (List ℕ)) (items : List Item) (i : ℕ) (item : Item) (old text all : List ℕ) → i < length items → item ≡ get_or items i item → text ≡ old ++ forms_text_by row_of (take i items) → all ≡ text ++ line_text (row_of item) → all ≡ old ++ forms_text_by row_of (take (i + 1) items)
rows_more {Item} row_of items i item old text all low is so_far last =
    text_push row_of (take i items) item old text all so_far last
    ∙ ap (λ (xs : List Item). old ++ forms_text_by row_of xs) (ap (λ (x : Item). take i items ++ x ∷ []) is ∙ sym (take_more items i item low))
