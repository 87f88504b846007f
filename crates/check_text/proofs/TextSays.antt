-- What the text of a script with tables says: a script, and tables of its network.
use Rattle.std.proofs.Common.{◌≡◌, ◌∙◌, sym, ap, subst, refl, ℕ, ◌-◌, List, [], ◌∷◌, ◌++◌, arith, length, get_or, All, None, Bool, true, false, eqb, leb, inl, inr}
use Rattle.std.specs.List.{list_all, slice_split}
use Rattle.std.specs.Str.Lines.{lines_of_parts, strip_carriage_return}
use Rattle.std.proofs.lemmas.Bool.Decides.{nat_tests}
use Rattle.std.proofs.lemmas.List.Elements.{All-weaker}
use Rattle.std.proofs.lemmas.List.Splits.{slice_split_at}
use Rattle.std.proofs.lemmas.List.Sums.{AllPass-from_list_all}
use Rattle.common_lines.specs.Lines.{lines_of, words_of, is_line_byte}
use Rattle.common_lines.specs.Chains.{LeadsBy}
use Rattle.common_lines.specs.Faults.{unless}
use Rattle.common_lines.proofs.ChainLaws.{LeadsBy-push}
use Rattle.common_lines.proofs.FaultLemmas.{no_first, holds}
use Rattle.common_lines.proofs.LineLemmas.{is_feed, first_of_parts, parts_some}
use Rattle.common_lines.proofs.SpellLemmas.{no_line}
use Rattle.net_script.specs.declared.cause.ScriptCause.TheVariants.{NotAscii, LineTooLong}
use Rattle.net_script.specs.declared.draft.Draft.{Draft}
use Rattle.net_script.specs.declared.draft.Part.{Part}
use Rattle.net_script.specs.declared.draft.Part.TheVariants.{Header, Items, After}
use Rattle.net_script.specs.Drafts.{start}
use Rattle.net_script.specs.Scripts.{IsScript, ScriptOf}
use Rattle.net_script.specs.Texts.{Adds, Leads, bytes_cause}
use Rattle.net_script.proofs.ScriptKept.{text_kept}
use Rattle.net_script.proofs.TextLemmas.{ended_or}
use Rattle.table_script.specs.Tables.{TablesOf, IsTables, AreTablesOf}
use Rattle.table_script.specs.TableDrafts.{TableDraftOf, no_tables}
use Rattle.table_script.specs.TableRules.{IsKept, tables_of}
use Rattle.table_script.specs.TableTexts.{AddsTable, AddsTableWords, AddsTold, AddsToldIn, IsTextWith, Told, none_told}
use Rattle.table_script.proofs.FinalLemmas.{tables_kept, tables_of_network}
use Rattle.table_script.proofs.KeptLemmas.{form_kept, none_kept}
use Rattle.table_script.proofs.TableLaws.{AddsTableRow}

-- GOOD LINES OF A SCRIPT ARE THOSE OF A TEXT

-- lines, each ended by a line feed
text_of : List (List ℕ) → List ℕ
text_of [] = []
text_of (line ∷ lines) = line ++ 10 ∷ text_of lines

abbrev IsLineByte : ℕ → Type 0
IsLineByte c = is_line_byte c ≡ true

not_feed : (c : ℕ) → IsLineByte c → is_feed c ≡ false
not_feed c is = grind (arith, nat_tests)

no_return : (line : List ℕ) → All IsLineByte line → eqb (get_or line (length line - 1) 0) 13 ≡ false
no_return [] all = refl
no_return (c ∷ line) all = let last = all (length (c ∷ line) - 1) 0 (omega arith) in grind (arith, nat_tests)

line_bytes : (line : List ℕ) → bytes_cause 200 line ≡ None → All IsLineByte line
line_bytes line good =
    let parts = no_first (unless (leb (length line) 200) LineTooLong) _ good in
    let plain = holds (list_all is_line_byte line) NotAscii (no_first (unless (list_all is_line_byte line) NotAscii) None parts.1).0 in
    AllPass-from_list_all is_line_byte line plain

line_first : (line rest : List ℕ) → All IsLineByte line → lines_of (line ++ 10 ∷ rest) ≡ line ∷ lines_of rest
unfolding lines_of
line_first line rest all =
    let kept : strip_carriage_return line ≡ line = rw (no_return line all) refl in
    ap lines_of_parts (slice_split_at is_feed line 10 rest (All-weaker IsLineByte (λ c. is_feed c ≡ false) not_feed line all) refl)
    ∙ first_of_parts line (slice_split is_feed rest) (parts_some rest)
    ∙ ap (λ (l : List ℕ). l ∷ lines_of_parts (slice_split is_feed rest)) kept

lines_back : (d e : Draft) (lines : List (List ℕ)) → Leads d lines e → lines_of (text_of lines) ≡ lines
unfolding text_of
lines_back d e [] leads = no_line
lines_back d e (line ∷ lines) leads =
    line_first line (text_of lines) (line_bytes line leads.1.bytes)
    ∙ ap (λ (ls : List (List ℕ)). line ∷ ls) (lines_back leads.0 e lines leads.2)

-- so those up to the `end` say a script
script_is : (d : Draft) (lines : List (List ℕ)) → Leads start lines d → d.part ≡ After → IsScript d.script
script_is d lines leads ended = text_kept (text_of lines) d.script (record {
  last = d;
  good = subst (λ (ls : List (List ℕ)). Leads start ls d) (sym (lines_back start d lines leads)) leads;
  ended = ended;
  says = refl;
})

-- WHAT GOOD LINES KEEP

-- the lines of the script lead to it; there are no tables before its `end`, and what they must keep after it
record Keeps (t : Told) : Type 0 where
  lines : List (List ℕ)
  leads : Leads start lines t.script
  before : (t.script.part ≡ After → ⊥) → t.tables ≡ no_tables
  after : t.script.part ≡ After → IsKept t.script.script t.tables

none_keeps : Keeps none_told
none_keeps = record { lines = []; leads = refl; before = λ unended. refl; after = λ ended. absurd (cc) }

-- a line of the script
script_line : (t u : Told) (line : List ℕ) → Keeps t → (t.script.part ≡ After → ⊥) → Adds t.script line u.script → u.tables ≡ t.tables → Keeps u
script_line t u line keeps unended adds same =
    let lines = keeps.lines ++ line ∷ [] in
    let leads : Leads start lines u.script = LeadsBy-push Adds start keeps.lines t.script line u.script keeps.leads adds in
    let none : u.tables ≡ no_tables = same ∙ keeps.before unended in
    record {
      lines = lines;
      leads = leads;
      before = λ unended. none;
      after = λ ended. subst (IsKept u.script.script) (sym none) (none_kept u.script.script (script_is u.script lines leads ended).switch_count);
    }

-- a line of tables
words_kept : (ended : Bool) (s : ScriptOf) (d e : TableDraftOf) (words : List (List ℕ)) → d.ended ≡ ended → IsKept s d → AddsTableWords ended s d words e → IsKept s e
words_kept false s d e words is kept adds = subst (IsKept s) (sym adds.then) (form_kept s d adds.form kept is adds.good)
words_kept true s d e words is kept adds = absurd adds

row_kept : (s : ScriptOf) (d e : TableDraftOf) (words : List (List ℕ)) → IsKept s d → AddsTableRow s d words e → IsKept s e
row_kept s d e [] kept adds = subst (IsKept s) (sym adds) kept
row_kept s d e (w ∷ words) kept adds = words_kept d.ended s d e (w ∷ words) refl kept adds

table_line : (t u : Told) (line : List ℕ) → Keeps t → t.script.part ≡ After → AddsTable t.script.script t.tables line u.tables → u.script ≡ t.script → Keeps u
table_line t u line keeps ended adds same =
    let kept = row_kept t.script.script t.tables u.tables (words_of line) (keeps.after ended) adds.row in
    record {
      lines = keeps.lines;
      leads = subst (λ (d : Draft). Leads start keeps.lines d) (sym same) keeps.leads;
      before = λ unended. absurd (unended (ap (λ (d : Draft). d.part) same ∙ ended));
      after = λ ended. subst (λ (d : Draft). IsKept d.script u.tables) (sym same) kept;
    }

line_keeps : (p : Part) (t u : Told) (line : List ℕ) → t.script.part ≡ p → Keeps t → AddsToldIn p t line u → Keeps u
line_keeps Header t u line is keeps adds = script_line t u line keeps (λ ended. absurd (let no : Header ≡ After = sym is ∙ ended in cc)) adds.0 adds.1
line_keeps Items t u line is keeps adds = script_line t u line keeps (λ ended. absurd (let no : Items ≡ After = sym is ∙ ended in cc)) adds.0 adds.1
line_keeps After t u line is keeps adds = table_line t u line keeps is adds.0 adds.1

lines_keep : (t u : Told) (lines : List (List ℕ)) → Keeps t → LeadsBy AddsTold t lines u → Keeps u
lines_keep t u [] keeps leads = subst Keeps leads keeps
lines_keep t u (line ∷ lines) keeps leads = lines_keep leads.0 u lines (line_keeps t.script.part t leads.0 line refl keeps leads.1) leads.2

-- WHAT A TEXT SAYS

pub record AreSaid (s : ScriptOf) (t : TablesOf) : Type 0 where
  pub script : IsScript s
  pub tables : IsTables t
  pub of_network : AreTablesOf s.wires t

pub text_says : (bytes : List ℕ) (s : ScriptOf) (t : TablesOf) → IsTextWith bytes s t → AreSaid s t
text_says bytes s t text =
    let d = text.last.script in
    let u = text.last.tables in
    let ended = text.ended in
    let keeps = lines_keep none_told text.last (lines_of bytes) none_keeps text.good in
    let after : d.part ≡ After = elim (ended_or d) [
      | inl after ↦ after
      | inr before ↦ absurd (let none : u.ended ≡ false = ap (λ (v : TableDraftOf). v.ended) (keeps.before before) in cc)
    ] in
    let kept = keeps.after after in
    let said : AreSaid d.script (tables_of (length d.script.wires.switches) u) = record {
      script = script_is d keeps.lines keeps.leads after;
      tables = tables_kept d.script u kept (kept.ended ended);
      of_network = tables_of_network d.script u kept (kept.ended ended);
    } in
    subst (λ (v : TablesOf). AreSaid s v) (sym text.tables) (subst (λ (r : ScriptOf). AreSaid r (tables_of (length r.wires.switches) u)) (sym text.says) said)
