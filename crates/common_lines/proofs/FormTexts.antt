use Rattle.std.proofs.Common.{◌≡◌, ◌∙◌, sym, ap, refl, ℕ, ◌+◌, ◌<◌, List, [], ◌∷◌, ◌++◌, append_assoc, append-nil, arith, length, length-take, get_or, take, map}
use Rattle.std.specs.List.{zip, flat_map, join_with_byte}
use Rattle.std.proofs.lemmas.List.{take_more, map_push, map-append}
use Rattle.std.proofs.lemmas.Grind.{flat_map-append}
use Rattle.common_lines.specs.Lines.{line_text, forms_text_by}
use Rattle.common_values.proofs.ListLemmas.{zip_push}

-- The text of lines of forms.
module _ {Form : Type 0} (words_of_form : Form → List (List ℕ)) where
  -- with one more line
  pub forms_push : (fs : List Form) (f : Form) → forms_text_by words_of_form (fs ++ f ∷ []) ≡ forms_text_by words_of_form fs ++ line_text (words_of_form f)
  forms_push fs f =
      ap (flat_map line_text) (map_push words_of_form fs f)
      ∙ flat_map-append line_text (map words_of_form fs) (words_of_form f ∷ [])
      ∙ ap (λ (b : List ℕ). forms_text_by words_of_form fs ++ b) (append-nil (line_text (words_of_form f)))

  -- a text with one more line
  pub text_push : (fs : List Form) (f : Form) (old text all : List ℕ) → text ≡ old ++ forms_text_by words_of_form fs → all ≡ text ++ line_text (words_of_form f) → all ≡ old ++ forms_text_by words_of_form (fs ++ f ∷ [])
  text_push fs f old text all so_far last =
      last ∙ ap (λ (b : List ℕ). b ++ line_text (words_of_form f)) so_far ∙ append_assoc old (forms_text_by words_of_form fs) (line_text (words_of_form f)) ∙ ap (λ (b : List ℕ). old ++ b) (sym (forms_push fs f))

  -- the lines of pairs, with one more
  pub pairs_more : {X Y : Type 0} (f : X × Y → Form) (xs : List X) (ys : List Y) (i : ℕ) (x first : X) (d : Y) (old text all : List ℕ) → i < length xs → i < length ys → x ≡ get_or xs i first → text ≡ old ++ forms_text_by words_of_form (map f (zip (take i xs) (take i ys))) → all ≡ text ++ line_text (words_of_form (f (x, get_or ys i d))) → all ≡ old ++ forms_text_by words_of_form (map f (zip (take (i + 1) xs) (take (i + 1) ys)))
  pairs_more {X} {Y} f xs ys i x first d old text all low within is so_far last =
      let ps = zip (take i xs) (take i ys) in
      let p : X × Y = (x, get_or ys i d) in
      let front : take (i + 1) xs ≡ take i xs ++ x ∷ [] = take_more xs i first low ∙ ap (λ (n : X). take i xs ++ n ∷ []) (sym is) in
      let more : zip (take (i + 1) xs) (take (i + 1) ys) ≡ ps ++ p ∷ [] =
      ap (λ (l : List X). zip l (take (i + 1) ys)) front ∙ ap (λ (l : List Y). zip (take i xs ++ x ∷ []) l) (take_more ys i d within)
      ∙ zip_push (take i xs) (take i ys) x (get_or ys i d) (omega (arith, length-take i xs, length-take i ys)) in
      text_push (map f ps) (f p) old text all so_far last
      ∙ ap (λ (fs : List Form). old ++ forms_text_by words_of_form fs) (sym (ap (map f) more ∙ map_push f ps p))

  -- the text of lines and further lines
  pub forms_append : (fs gs : List Form) → forms_text_by words_of_form (fs ++ gs) ≡ forms_text_by words_of_form fs ++ forms_text_by words_of_form gs
  forms_append fs gs = ap (flat_map line_text) (map-append words_of_form fs gs) ∙ flat_map-append line_text (map words_of_form fs) (map words_of_form gs)

  -- a text that goes on
  pub go_on : (fs gs : List Form) (old text all : List ℕ) → text ≡ old ++ forms_text_by words_of_form fs → all ≡ text ++ forms_text_by words_of_form gs → all ≡ old ++ forms_text_by words_of_form (fs ++ gs)
  go_on fs gs old text all so_far last =
      last ∙ ap (λ (b : List ℕ). b ++ forms_text_by words_of_form gs) so_far ∙ append_assoc old (forms_text_by words_of_form fs) (forms_text_by words_of_form gs) ∙ ap (λ (b : List ℕ). old ++ b) (sym (forms_append fs gs))

-- a line of words as its pieces: a space stands before each word but the first, and a line feed ends it
pub line_pieces : (w : List ℕ) (ws : List (List ℕ)) → line_text (w ∷ ws) ≡ w ++ (flat_map (λ v. 32 ∷ v) ws ++ 10 ∷ [])
line_pieces w [] = refl
line_pieces w (v ∷ ws) =
    append_assoc w (32 ∷ join_with_byte 32 (v ∷ ws)) (10 ∷ [])
    ∙ ap (λ (t : List ℕ). w ++ (32 ∷ t)) (line_pieces v ws ∙ sym (append_assoc v (flat_map (λ u. 32 ∷ u) ws) (10 ∷ [])))
