use Rattle.std.proofs.Common.{◌≡◌, ◌∙◌, sym, ap, refl, subst, ℕ, ◌<◌, List, [], ◌∷◌, ◌++◌, append-nil, arith, length, length-append, map, None, Bool, true, false, cond, leb, All}
use Rattle.std.specs.List.{join_with_byte, list_all, slice_split, onto_first}
use Rattle.std.specs.Str.Lines.{lines_of_parts, strip_carriage_return}
use Rattle.std.proofs.lemmas.Bool.Decides.{nat_tests}
use Rattle.net_script.specs.declared.cause.ScriptCause.TheVariants.{NotAscii, LineTooLong}
use Rattle.net_script.specs.declared.draft.Draft.{Draft}
use Rattle.net_script.specs.declared.draft.Part.{Part}
use Rattle.net_script.specs.declared.draft.Part.TheVariants.{Header, Items, After}
use Rattle.common_lines.specs.Lines.{lines_of, words_of, lines_text, is_line_byte}
use Rattle.common_lines.specs.Faults.{unless}
use Rattle.common_lines.specs.Chains.{LeadsBy}
use Rattle.net_script.specs.Scripts.{ScriptOf}
use Rattle.net_script.specs.Drafts.{start}
use Rattle.net_script.specs.Texts.{AddsWords, Adds, Leads, bytes_cause, IsText}
use Rattle.net_script.proofs.TextLemmas.{AddsRow}
use Rattle.table_script.specs.TableDrafts.{TableDraftOf, no_tables}
use Rattle.table_script.specs.TableRules.{tables_of}
use Rattle.table_script.specs.TableTexts.{AddsTable, Told, none_told, AddsToldIn, AddsTold, IsTextWith}
use Rattle.table_script.proofs.TableLaws.{AddsTableRow}
use Rattle.common_lines.proofs.FaultLemmas.{no_first, holds}
use Rattle.common_lines.proofs.LineLemmas.{is_feed, first_of_parts, parts_some}
use Rattle.common_lines.proofs.SpellLemmas.{IsWord, lines_of-text, no_line as none_of}

-- a byte put before the first of some parts
onto_append : (x : ℕ) (parts more : List (List ℕ)) → 0 < length parts → onto_first x (parts ++ more) ≡ onto_first x parts ++ more
onto_append x [] more some = absurd (omega arith)
onto_append x (p ∷ ps) more some = refl

-- the parts of bytes around a line feed
split_append : (bytes rest : List ℕ) → slice_split is_feed (bytes ++ 10 ∷ rest) ≡ slice_split is_feed bytes ++ slice_split is_feed rest
split_append [] rest = refl
split_append (b ∷ bs) rest = rw (split_append bs rest) (go (is_feed b))
  where
    go : (t : Bool) → cond t ([] ∷ (slice_split is_feed bs ++ slice_split is_feed rest)) (onto_first b (slice_split is_feed bs ++ slice_split is_feed rest)) ≡ cond t ([] ∷ slice_split is_feed bs) (onto_first b (slice_split is_feed bs)) ++ slice_split is_feed rest
    go true = refl
    go false = onto_append b (slice_split is_feed bs) (slice_split is_feed rest) (parts_some bs)

-- all parts before others are lines
lines_append : (parts more : List (List ℕ)) → 0 < length more → lines_of_parts (parts ++ more) ≡ map strip_carriage_return parts ++ lines_of_parts more
lines_append [] more some = refl
lines_append (p ∷ ps) more some =
    first_of_parts p (ps ++ more) (omega (arith, length-append ps more))
    ∙ ap (λ (ls : List (List ℕ)). strip_carriage_return p ∷ ls) (lines_append ps more some)

-- the lines of bytes before a line feed, and of those after it
feed_lines : (bytes rest : List ℕ) → lines_of (bytes ++ 10 ∷ rest) ≡ map strip_carriage_return (slice_split is_feed bytes) ++ lines_of rest
unfolding lines_of
feed_lines bytes rest = ap lines_of_parts (split_append bytes rest) ∙ lines_append (slice_split is_feed bytes) (slice_split is_feed rest) (parts_some rest)

pub lines_on : (bytes rest : List ℕ) → lines_of (bytes ++ 10 ∷ rest) ≡ lines_of (bytes ++ 10 ∷ []) ++ lines_of rest
lines_on bytes rest =
    let front : lines_of (bytes ++ 10 ∷ []) ≡ map strip_carriage_return (slice_split is_feed bytes) = feed_lines bytes [] ∙ ap (λ (ls : List (List ℕ)). map strip_carriage_return (slice_split is_feed bytes) ++ ls) none_of ∙ append-nil (map strip_carriage_return (slice_split is_feed bytes)) in
    feed_lines bytes rest ∙ ap (λ (ls : List (List ℕ)). ls ++ lines_of rest) (sym front)

-- good lines, and more after them
pub LeadsBy-append : {S : Type 0} (adds : S → List ℕ → S → Type 0) (d : S) (lines more : List (List ℕ)) (e f : S) → LeadsBy adds d lines e → LeadsBy adds e more f → LeadsBy adds d (lines ++ more) f
LeadsBy-append adds d [] more e f one two = subst (λ (m : _). LeadsBy adds m more f) (sym one) two
LeadsBy-append adds d (l ∷ ls) more e f one two = (one.0, one.1, LeadsBy-append adds one.0 ls more e f one.2 two)

-- bytes that are good in a line of a script are good in a line of tables
bytes_more : (line : List ℕ) → bytes_cause 200 line ≡ None → bytes_cause 4000 line ≡ None
bytes_more line good =
    let parts = no_first (unless (leb (length line) 200) LineTooLong) _ good in
    let short : leb (length line) 200 ≡ true = holds _ LineTooLong parts.0 in
    let plain = holds (list_all is_line_byte line) NotAscii (no_first (unless (list_all is_line_byte line) NotAscii) None parts.1).0 in
    let fits : leb (length line) 4000 ≡ true = grind (arith, nat_tests) in
    rw (fits, plain) refl

-- a line of a script after its `end` says nothing
after_row : (d e : Draft) (words : List (List ℕ)) → d.part ≡ After → AddsRow d words e → AddsTableRow d.script no_tables words no_tables × (e ≡ d)
after_row d e [] part adds = (refl, adds)
after_row d e (w ∷ ws) part adds = absurd (subst (λ (p : Part). AddsWords p d (w ∷ ws) e) part adds)

-- what lines of a script alone say
abbrev scripted : Draft → Told
scripted d = record { script = d; tables = no_tables }

-- a line of the script is one of the text
script_adds : (p : Part) (d : Draft) (line : List ℕ) (e : Draft) → d.part ≡ p → Adds d line e → AddsToldIn p (scripted d) line (scripted e)
script_adds Header d line e part adds = (adds, refl)
script_adds Items d line e part adds = (adds, refl)
script_adds After d line e part adds = let h = after_row d e (words_of line) part adds.row in (record { bytes = bytes_more line adds.bytes; row = h.0 }, h.1)

-- and so are all
script_leads : (d : Draft) (lines : List (List ℕ)) (e : Draft) → Leads d lines e → LeadsBy AddsTold (scripted d) lines (scripted e)
script_leads d [] e leads = ap scripted leads
script_leads d (l ∷ ls) e leads = (scripted leads.0, script_adds d.part d l leads.0 refl leads.1, script_leads leads.0 ls e leads.2)

-- a script and tables that were told
abbrev told : Draft → TableDraftOf → Told
told d t = record { script = d; tables = t }

-- lines of tables after the script's `end` are lines of the text
table_leads : (d : Draft) → d.part ≡ After → (t : TableDraftOf) (lines : List (List ℕ)) (u : TableDraftOf) → LeadsBy (AddsTable d.script) t lines u → LeadsBy AddsTold (told d t) lines (told d u)
table_leads d part t [] u leads = ap (told d) leads
table_leads d part t (l ∷ ls) u leads =
    (told d leads.0, subst (λ (p : Part). AddsToldIn p (told d t) l (told d leads.0)) (sym part) (leads.1, refl), table_leads d part leads.0 ls u leads.2)

-- the text of a script, and printed lines that are good as tables after it
pub own_told : (bytes : List ℕ) (s : ScriptOf) (rows : List (List (List ℕ))) (d : TableDraftOf) → IsText (bytes ++ 10 ∷ []) s → All (All IsWord) rows → LeadsBy (AddsTable s) no_tables (map (join_with_byte 32) rows) d → d.ended ≡ true → IsTextWith (bytes ++ 10 ∷ lines_text rows) s (tables_of (length s.wires.switches) d)
own_told bytes s rows d text words leads ended = record {
  last = told text.last d;
  good = subst (λ (ls : List (List ℕ)). LeadsBy AddsTold none_told ls (told text.last d)) (sym lines)
      (LeadsBy-append AddsTold none_told (lines_of (bytes ++ 10 ∷ [])) (map (join_with_byte 32) rows) (scripted text.last) (told text.last d)
      (script_leads start (lines_of (bytes ++ 10 ∷ [])) text.last text.good)
      (table_leads text.last text.ended no_tables (map (join_with_byte 32) rows) d (subst (λ (r : ScriptOf). LeadsBy (AddsTable r) no_tables (map (join_with_byte 32) rows) d) text.says leads)));
  ended = ended;
  says = text.says;
  tables = refl;
}
  where
    lines : lines_of (bytes ++ 10 ∷ lines_text rows) ≡ lines_of (bytes ++ 10 ∷ []) ++ map (join_with_byte 32) rows
    lines = lines_on bytes (lines_text rows) ∙ ap (λ (ls : List (List ℕ)). lines_of (bytes ++ 10 ∷ []) ++ ls) (lines_of-text rows words)
