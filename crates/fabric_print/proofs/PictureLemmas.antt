-- The rows of a picture, one after another.
use Rattle.std.proofs.Common.{◌≡◌, ◌∙◌, sym, ap, ℕ, List, [], ◌∷◌, ◌++◌, append_assoc, append-nil, length, map, refl, ◌≢◌, ◌<◌, ◌+◌, take, get_or, eqb, false, arith}
use Rattle.std.specs.Prelude.{codes}
use Rattle.std.specs.Fmt.{decimal}
use Rattle.std.proofs.lemmas.Bool.Decides.{nat_tests}
use Rattle.std.proofs.lemmas.Grind.{flat_map-append}
use Rattle.std.proofs.lemmas.List.{take_more}
use Rattle.common_lines.specs.Lines.{line_text, lines_text}
use Rattle.fabric_print.specs.declared.answer.Name.{Name}
use Rattle.fabric_print.specs.declared.picture.Arrow.{Arrow}
use Rattle.fabric_print.specs.declared.picture.Picture.{Picture}
use Rattle.fabric_print.specs.Answers.{Row}
use Rattle.fabric_print.specs.Pictures.{arrow_row, arrow_row_by, closed_word, end_rows, escape, escaped, loop_word, picture_rows_by, picture_text, picture_text_by, style_rows, switch_row, switch_word}
use Rattle.fabric_print.proofs.RowLemmas.{onward}

-- the words for a channel
pub arrow_words : (label : List ℕ) (arrow : Arrow) (port entry lid : ℕ) → port ≡ arrow.step.port → entry ≡ arrow.entry → lid ≡ arrow.step.lid → (switch_word arrow.step.guid ∷ codes "->" ∷ switch_word arrow.to ∷ codes "[ taillabel =" ∷ decimal port ∷ codes "headlabel =" ∷ decimal entry ∷ label ∷ decimal lid ∷ codes "from" ∷ closed_word arrow.step.source ∷ codes "]" ∷ []) ≡ arrow_row_by label arrow
arrow_words label arrow port entry lid one two three = rw (one, two, three) refl

-- a name in a label with one more byte
pub escaped_more : (name : List ℕ) (i : ℕ) (old text all : List ℕ) → i < length name → text ≡ old ++ escaped (take i name) → all ≡ text ++ escape (get_or name i 0) → all ≡ old ++ escaped (take (i + 1) name)
escaped_more name i old text all low so_far last =
    let byte = get_or name i 0 in
    let front = escaped (take i name) in
    last ∙ ap (λ (t : List ℕ). t ++ escape byte) so_far ∙ append_assoc old front (escape byte)
    ∙ ap (λ (t : List ℕ). old ++ t) (ap (λ (t : List ℕ). front ++ t) (sym (append-nil (escape byte))) ∙ sym (flat_map-append escape (take i name) (byte ∷ [])) ∙ ap escaped (sym (take_more name i 0 low)))

-- the rows after the first two
last_rows : (names arrows : List Row) → lines_text (style_rows ++ names ++ arrows ++ end_rows) ≡ lines_text style_rows ++ (lines_text names ++ (lines_text arrows ++ line_text (codes "}" ∷ [])))
last_rows names arrows =
    flat_map-append line_text ((style_rows ++ names) ++ arrows) end_rows
    ∙ ap (λ (t : List ℕ). t ++ lines_text end_rows) (flat_map-append line_text (style_rows ++ names) arrows ∙ ap (λ (t : List ℕ). t ++ lines_text arrows) (flat_map-append line_text style_rows names))
    ∙ ap (λ (t : List ℕ). ((lines_text style_rows ++ lines_text names) ++ lines_text arrows) ++ t) (append-nil (line_text (codes "}" ∷ [])))
    ∙ append_assoc (lines_text style_rows ++ lines_text names) (lines_text arrows) (line_text (codes "}" ∷ []))
    ∙ append_assoc (lines_text style_rows) (lines_text names) (lines_text arrows ++ line_text (codes "}" ∷ []))

pub picture_is : {Channel : Type 0} (row_of : Channel → Row) (title : Row) (names : List Name) (channels : List Channel) (t0 t1 t2 t3 t4 t5 t6 : List ℕ) → t1 ≡ t0 ++ line_text (codes "digraph cycle {" ∷ []) → t2 ≡ t1 ++ line_text (codes "label = \"traffic" ∷ title) → t3 ≡ t2 ++ lines_text style_rows → t4 ≡ t3 ++ lines_text (map switch_row names) → t5 ≡ t4 ++ lines_text (map row_of channels) → t6 ≡ t5 ++ line_text (codes "}" ∷ []) → t6 ≡ t0 ++ picture_text_by row_of title names channels
unfolding picture_rows_by
picture_is {Channel} row_of title names channels t0 t1 t2 t3 t4 t5 t6 h1 h2 h3 h4 h5 h6 =
    let p1 = line_text (codes "digraph cycle {" ∷ []) in
    let p2 = line_text (codes "label = \"traffic" ∷ title) in
    let p3 = lines_text style_rows in
    let p4 = lines_text (map switch_row names) in
    let p5 = lines_text (map row_of channels) in
    let p6 = line_text (codes "}" ∷ []) in
    let e46 = onward t4 p5 p6 t5 t6 h5 h6 in
    let e36 = onward t3 p4 (p5 ++ p6) t4 t6 h4 e46 in
    let e26 = onward t2 p3 (p4 ++ (p5 ++ p6)) t3 t6 h3 e36 in
    let e16 = onward t1 p2 (p3 ++ (p4 ++ (p5 ++ p6))) t2 t6 h2 e26 in
    let e06 = onward t0 p1 (p2 ++ (p3 ++ (p4 ++ (p5 ++ p6)))) t1 t6 h1 e16 in
    e06 ∙ ap (λ (t : List ℕ). t0 ++ (p1 ++ (p2 ++ t))) (sym (last_rows (map switch_row names) (map row_of channels)))

-- the parts of a picture, as they are lent
pub picture_by : (p : Picture) (traffic : List ℕ) (many : ℕ) (names : List Name) (arrows : List Arrow) (text : List ℕ) → traffic ≡ p.traffic.now → many ≡ length p.arrows.items → names ≡ p.names.items → arrows ≡ p.arrows.items → text ≡ picture_text_by arrow_row (traffic ∷ loop_word many ∷ []) names arrows → text ≡ picture_text p
picture_by p traffic many names arrows text one two three four is = is ∙ rw (one, two, three, four) refl

-- what loop there is, if there is one
loop_some : (many : ℕ) → many ≢ 0 → codes "has a credit loop of " ++ (decimal many ++ codes " channels\"") ≡ loop_word many
loop_some many some = let t : eqb many 0 ≡ false = grind (arith, nat_tests) in rw t refl

pub loop_is : (many : ℕ) (t0 t1 t2 t3 : List ℕ) → many ≢ 0 → t1 ≡ t0 ++ codes "has a credit loop of " → t2 ≡ t1 ++ decimal many → t3 ≡ t2 ++ codes " channels\"" → t3 ≡ t0 ++ loop_word many
loop_is many t0 t1 t2 t3 some h1 h2 h3 =
    let first = codes "has a credit loop of " in
    let last = codes " channels\"" in
    onward t0 first (decimal many ++ last) t1 t3 h1 (onward t1 (decimal many) last t2 t3 h2 h3) ∙ ap (λ (t : List ℕ). t0 ++ t) (loop_some many some)
