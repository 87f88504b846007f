use Rattle.std.proofs.Common.{◌≡◌, ◌∙◌, sym, ap, refl, ℕ, ◌+◌, List, [], ◌∷◌, ◌++◌, Bool, true, false, append_assoc, append-nil, map}
use Rattle.std.specs.Prelude.{filter, codes}
use Rattle.std.specs.Fmt.{decimal}
use Rattle.std.specs.List.{flat_map, range_with_len}
use Rattle.std.proofs.lemmas.List.{map_push}
use Rattle.std.proofs.lemmas.List.Elements.{filter-append}
use Rattle.an_base.specs.Values.{LifeId}
use Rattle.an_base.specs.Rows.{RowOf}
use Rattle.common_values.proofs.ListLemmas.{places_more}
use Rattle.common_lines.specs.Lines.{line_text}
use Rattle.common_lines.proofs.FormTexts.{text_push, line_pieces}
use Rattle.net_script.specs.Scripts.{ScriptOf}
use Rattle.row_text.specs.TableForms.{TableForm, table_words}
use Rattle.row_text.specs.Names.{life_text}
use Rattle.row_text.specs.Pieces.{spaced_pair}
use Rattle.row_text.specs.Rows.{pair_word, rows_at, row_form}
use Rattle.row_text.specs.TableForms.{table_text}

-- PIECES OF A ROW'S LINE

-- a pair behind a space
spaced_is : (row : RowOf) → spaced_pair row ≡ 32 ∷ pair_word row
unfolding spaced_pair
spaced_is row = simp append_assoc

pairs_are : (rows : List RowOf) → flat_map spaced_pair rows ≡ flat_map (λ v. 32 ∷ v) (map pair_word rows)
pairs_are [] = refl
pairs_are (r ∷ rows) = rw (spaced_is r, pairs_are rows) refl

-- the line of an entry, piece after piece
pub row_pieces : (s : ScriptOf) (life : LifeId) (rows : List RowOf) (entry : ℕ) (t0 t1 t2 t3 t4 t5 t6 : List ℕ) → t1 ≡ t0 ++ codes "row " → t2 ≡ t1 ++ life_text s life → t3 ≡ t2 ++ codes " " → t4 ≡ t3 ++ decimal entry → t5 ≡ t4 ++ flat_map spaced_pair (rows_at rows entry) → t6 ≡ t5 ++ codes "\n" → t6 ≡ t0 ++ line_text (table_words (row_form s life rows entry))
row_pieces s life rows entry t0 t1 t2 t3 t4 t5 t6 e1 e2 e3 e4 e5 e6 =
    let pairs = flat_map (λ v. 32 ∷ v) (map pair_word (rows_at rows entry)) in
    e6 ∙ ap (λ (t : List ℕ). t ++ 10 ∷ []) (e5 ∙ ap (λ (t : List ℕ). t ++ flat_map spaced_pair (rows_at rows entry)) (e4 ∙ ap (λ (t : List ℕ). t ++ decimal entry) (e3 ∙ ap (λ (t : List ℕ). t ++ 32 ∷ []) (e2 ∙ ap (λ (t : List ℕ). t ++ life_text s life) e1))))
    ∙ ap (λ (ps : List ℕ). ((((t0 ++ codes "row ") ++ life_text s life) ++ 32 ∷ []) ++ decimal entry) ++ ps ++ 10 ∷ []) (pairs_are (rows_at rows entry))
    ∙ joined (life_text s life) (decimal entry) pairs
    ∙ ap (λ (t : List ℕ). t0 ++ t) (sym (line_pieces (codes "row") (life_text s life ∷ decimal entry ∷ map pair_word (rows_at rows entry))))
  where
    joined : (name at ps : List ℕ) → ((((t0 ++ codes "row ") ++ name) ++ 32 ∷ []) ++ at) ++ ps ++ 10 ∷ [] ≡ t0 ++ (codes "row" ++ (((32 ∷ name) ++ ((32 ∷ at) ++ ps)) ++ 10 ∷ []))
    joined name at ps = simp append_assoc

-- LINES OF ENTRIES

-- the line of one entry more
pub entries_more : (f : ℕ → TableForm) (p : ℕ → Bool) (base text new : List ℕ) (n : ℕ) → p n ≡ true → text ≡ base ++ table_text (map f (filter p (range_with_len 0 n))) → new ≡ text ++ line_text (table_words (f n)) → new ≡ base ++ table_text (map f (filter p (range_with_len 0 (n + 1))))
entries_more f p base text new n passes so_far one =
    let last : filter p (n ∷ []) ≡ n ∷ [] = rw passes refl in
    let all : filter p (range_with_len 0 (n + 1)) ≡ filter p (range_with_len 0 n) ++ n ∷ [] =
    ap (filter p) (places_more n) ∙ filter-append p (range_with_len 0 n) (n ∷ []) ∙ ap (λ (ns : List ℕ). filter p (range_with_len 0 n) ++ ns) last in
    text_push table_words (map f (filter p (range_with_len 0 n))) (f n) base text new so_far one
    ∙ ap (λ (fs : List TableForm). base ++ table_text fs) (sym (ap (map f) all ∙ map_push f (filter p (range_with_len 0 n)) n))

-- a number that is no entry
pub entries_same : (f : ℕ → TableForm) (p : ℕ → Bool) (base text new : List ℕ) (n : ℕ) → p n ≡ false → text ≡ base ++ table_text (map f (filter p (range_with_len 0 n))) → new ≡ text → new ≡ base ++ table_text (map f (filter p (range_with_len 0 (n + 1))))
entries_same f p base text new n fails so_far same =
    let last : filter p (n ∷ []) ≡ [] = rw fails refl in
    let all : filter p (range_with_len 0 (n + 1)) ≡ filter p (range_with_len 0 n) =
    ap (filter p) (places_more n) ∙ filter-append p (range_with_len 0 n) (n ∷ []) ∙ ap (λ (ns : List ℕ). filter p (range_with_len 0 n) ++ ns) last ∙ append-nil (filter p (range_with_len 0 n)) in
    same ∙ so_far ∙ ap (λ (ns : List ℕ). base ++ table_text (map f ns)) (sym all)
