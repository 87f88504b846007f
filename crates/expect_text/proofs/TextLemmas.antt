use Rattle.std.proofs.Common.{◌≡◌, ◌∙◌, sym, ap, subst, ℕ, ◌+◌, ◌<◌, List, [], ◌∷◌, ◌++◌, Bool, arith, length, length-append, append_assoc, append-nil, get_or, take, map, All, inl, inr}
use Rattle.std.specs.List.{zip}
use Rattle.std.proofs.lemmas.Bool.{cases_eq}
use Rattle.std.proofs.lemmas.List.{take_more, map-append, get_or_push, get_or_append_left}
use Rattle.std.proofs.lemmas.List.Elements.{All-push}
use Rattle.std.proofs.lemmas.Grind.{flat_map-append}
use Rattle.an_base.specs.Values.{EntryOf}
use Rattle.common_lines.specs.Lines.{line_text}
use Rattle.common_lines.proofs.FormTexts.{text_push, go_on}
use Rattle.net_script.specs.Scripts.{ScriptOf}
use Rattle.row_text.specs.TableForms.{TableForm, EndLine, table_words}
use Rattle.switch_numbering.specs.Numbering.{numbering}
use Rattle.table_build.specs.Tables.{TableOf, IsTable}
use Rattle.row_text.specs.Rows.{member_rows, table_forms}
use Rattle.expect_text.specs.Expect.{AreTables, Part, component_form, member_form, number_form, part_forms, expect_forms, expect_text}
use Rattle.row_text.specs.TableForms.{table_text}

-- one table more
pub tables_more : (es : List EntryOf) (any : Bool) (x : ℕ) (ts : List TableOf) (t : TableOf) → AreTables es any x ts → IsTable es (numbering es) any x t → AreTables es any (x + 1) (ts ++ t ∷ [])
tables_more es any x ts t so_far is = record {
  count = omega (arith, so_far.count, length-append ts (t ∷ []));
  each = λ y low. elim (cases_eq y x) [
    | inl same ↦ rw (same, get_or_push ts t (record { number = 0; rows = [] }) x so_far.count) is
    | inr other ↦ subst (λ (u : TableOf). IsTable es (numbering es) any y u) (sym (get_or_append_left ts (t ∷ []) (record { number = 0; rows = [] }) y (omega (arith, so_far.count)))) (so_far.each y (omega arith))
  ];
}

-- and its lines
forms_more : (s : ScriptOf) (es : List EntryOf) (a : ℕ) (ts : List TableOf) (t : TableOf) → table_forms s es a (ts ++ t ∷ []) ≡ table_forms s es a ts ++ member_rows s es (a + length ts) t.rows
forms_more s es a [] t = let e : a ≡ a + 0 = omega arith in append-nil (member_rows s es a t.rows) ∙ ap (λ (n : ℕ). member_rows s es n t.rows) e
forms_more s es a (u ∷ ts) t =
    let e : (a + 1) + length ts ≡ a + length (u ∷ ts) = omega arith in
    ap (λ (fs : List TableForm). member_rows s es a u.rows ++ fs) (forms_more s es (a + 1) ts t)
    ∙ sym (append_assoc (member_rows s es a u.rows) (table_forms s es (a + 1) ts) (member_rows s es ((a + 1) + length ts) t.rows))
    ∙ ap (λ (n : ℕ). (member_rows s es a u.rows ++ table_forms s es (a + 1) ts) ++ member_rows s es n t.rows) e

pub tables_text : (s : ScriptOf) (es : List EntryOf) (x : ℕ) (ts : List TableOf) (t : TableOf) (base text new : List ℕ) → length ts ≡ x → text ≡ base ++ table_text (table_forms s es 0 ts) → new ≡ text ++ table_text (member_rows s es x t.rows) → new ≡ base ++ table_text (table_forms s es 0 (ts ++ t ∷ []))
tables_text s es x ts t base text new count so_far one =
    let e : length ts ≡ 0 + length ts = omega arith in
    go_on table_words (table_forms s es 0 ts) (member_rows s es x t.rows) base text new so_far one
    ∙ ap (λ (fs : List TableForm). base ++ table_text fs) (ap (λ (n : ℕ). table_forms s es 0 ts ++ member_rows s es n t.rows) (sym count ∙ e) ∙ sym (forms_more s es 0 ts t))

-- the lines of a component, one after another
pub component_text : (s : ScriptOf) (es : List EntryOf) (ts : List TableOf) (t0 t1 t2 t3 t4 : List ℕ) → t1 ≡ t0 ++ line_text (table_words (component_form s es)) → t2 ≡ t1 ++ table_text (map (member_form s) es) → t3 ≡ t2 ++ table_text (map (number_form s) (zip es (numbering es))) → t4 ≡ t3 ++ table_text (table_forms s es 0 ts) → t4 ≡ t0 ++ table_text (part_forms s (record { entries = es; tables = ts }))
component_text s es ts t0 t1 t2 t3 t4 e1 e2 e3 e4 =
    let members = map (member_form s) es in
    let numbers = map (number_form s) (zip es (numbering es)) in
    let tables = table_forms s es 0 ts in
    let head : t1 ≡ t0 ++ table_text (component_form s es ∷ []) = e1 ∙ ap (λ (t : List ℕ). t0 ++ t) (sym (append-nil (line_text (table_words (component_form s es))))) in
    let from_members = go_on table_words numbers tables t2 t3 t4 e3 e4 in
    let from_head = go_on table_words members (numbers ++ tables) t1 t2 t4 e2 from_members in
    go_on table_words (component_form s es ∷ []) (members ++ (numbers ++ tables)) t0 t1 t4 head from_head

-- one component more
pub parts_more : (s : ScriptOf) (any : Bool) (forest : List (List EntryOf)) (i : ℕ) (es : List EntryOf) (ts : List TableOf) (parts : List Part) (text new : List ℕ) → i < length forest → es ≡ get_or forest i es → AreTables es any (length es) ts → map (λ p. p.entries) parts ≡ take i forest → All (λ p. AreTables p.entries any (length p.entries) p.tables) parts → text ≡ table_text (expect_forms s parts) → new ≡ text ++ table_text (part_forms s (record { entries = es; tables = ts }))
    → (all : List Part) × (map (λ p. p.entries) all ≡ take (i + 1) forest) × All (λ p. AreTables p.entries any (length p.entries) p.tables) all × (new ≡ table_text (expect_forms s all))
parts_more s any forest i es ts parts text new low at are so_far each text_is one =
    let part : Part = record { entries = es; tables = ts } in
    let entries : Part → List EntryOf = λ p. p.entries in
    let forms : expect_forms s (parts ++ part ∷ []) ≡ expect_forms s parts ++ part_forms s part = flat_map-append (part_forms s) parts (part ∷ []) ∙ ap (λ (fs : List TableForm). expect_forms s parts ++ fs) (append-nil (part_forms s part)) in (
      parts ++ part ∷ [],
      map-append entries parts (part ∷ []) ∙ ap (λ (f : List (List EntryOf)). f ++ es ∷ []) so_far ∙ ap (λ (e : List EntryOf). take i forest ++ e ∷ []) at ∙ sym (take_more forest i es low),
      All-push (λ p. AreTables p.entries any (length p.entries) p.tables) parts part each are,
      go_on table_words (expect_forms s parts) (part_forms s part) [] text new text_is one ∙ ap table_text (sym forms),
    )

-- and the last line
pub ended_text : (s : ScriptOf) (parts : List Part) (text new : List ℕ) → text ≡ table_text (expect_forms s parts) → new ≡ text ++ line_text (table_words EndLine) → new ≡ expect_text s parts
unfolding expect_text
ended_text s parts text new so_far last = text_push table_words (expect_forms s parts) EndLine [] text new so_far last
