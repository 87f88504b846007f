use Rattle.std.proofs.Common.{◌≡◌, ◌≢◌, ℕ, ◌<◌, ◌≤◌, List, [], ◌∷◌, ◌++◌, length, map, None, true, All, AllPairs}
use Rattle.std.specs.Prelude.{Any}
use Rattle.an_base.specs.Values.{LifeId}
use Rattle.an_base.specs.Rows.{RowOf}
use Rattle.net_graph.specs.Forest.{IsForest}
use Rattle.table_script.specs.declared.table_draft.NumberAt.{NumberAt}
use Rattle.table_script.specs.declared.table_draft.EntryAt.{EntryAt}
use Rattle.common_lines.specs.Words.{number_value, is_number_in}
use Rattle.net_names.specs.Words.{IsName}
use Rattle.net_script.specs.Rules.{place, known_cause}
use Rattle.net_script.specs.Scripts.{ScriptOf, IsScript}
use Rattle.row_text.specs.TableForms.{TableForm, ComponentLine, MemberLine, NumberLine, RowLine, EndLine, table_words}
use Rattle.table_script.specs.TableDrafts.{TableDraftOf}
use Rattle.table_script.specs.TableRules.{row_of, entry_cause, are_pairs, AreNumbersApart}
use Rattle.common_lines.proofs.SpellLemmas.{IsWord}
use Rattle.row_text.specs.Names.{life_text}
use Rattle.expect_text.specs.Expect.{Part, AreTables}

-- WHAT FORMS SAY

-- the numbers
abbrev pub numbers_in : ScriptOf → List TableForm → List NumberAt
numbers_in s [] = []
numbers_in s (NumberLine name n ∷ fs) = record { s = place s.switch_names name; number = number_value n } ∷ numbers_in s fs
numbers_in s (ComponentLine more ∷ fs) = numbers_in s fs
numbers_in s (MemberLine more ∷ fs) = numbers_in s fs
numbers_in s (RowLine name entry pairs ∷ fs) = numbers_in s fs
numbers_in s (EndLine ∷ fs) = numbers_in s fs

-- the entries that have a line
abbrev pub entries_in : ScriptOf → List TableForm → List EntryAt
entries_in s [] = []
entries_in s (RowLine name entry pairs ∷ fs) = record { s = place s.switch_names name; entry = number_value entry } ∷ entries_in s fs
entries_in s (ComponentLine more ∷ fs) = entries_in s fs
entries_in s (MemberLine more ∷ fs) = entries_in s fs
entries_in s (NumberLine name n ∷ fs) = entries_in s fs
entries_in s (EndLine ∷ fs) = entries_in s fs

-- the rows
abbrev pub rows_in : ScriptOf → List TableForm → List RowOf
rows_in s [] = []
rows_in s (RowLine name entry pairs ∷ fs) = map (row_of (place s.switch_names name) (number_value entry)) pairs ++ rows_in s fs
rows_in s (ComponentLine more ∷ fs) = rows_in s fs
rows_in s (MemberLine more ∷ fs) = rows_in s fs
rows_in s (NumberLine name n ∷ fs) = rows_in s fs
rows_in s (EndLine ∷ fs) = rows_in s fs

-- what the forms and the last line say together
abbrev pub drafted : ScriptOf → List TableForm → TableDraftOf
drafted s fs = record { numbers = numbers_in s fs; entries = entries_in s fs; rows = rows_in s fs; ended = true }

-- WHAT MAKES FORMS GOOD

-- nothing is wrong with the fields of a form by themselves; the last line is no such form
abbrev pub IsPlain : ScriptOf → TableForm → Type 0
IsPlain s (ComponentLine more) = Unit {0}
IsPlain s (MemberLine more) = Unit {0}
IsPlain s (NumberLine name n) = (known_cause s.switch_names name ≡ None) × (is_number_in 1 126 n ≡ true)
IsPlain s (RowLine name entry pairs) = (known_cause s.switch_names name ≡ None) × (entry_cause entry ≡ None) × (are_pairs 0 pairs ≡ true)
IsPlain s EndLine = ⊥

-- its line is printed words, and not too long
pub record IsPrintedForm (f : TableForm) : Type 0 where
  pub words : All IsWord (table_words f)
  pub few : length (table_words f) ≤ 129

abbrev pub AreEntriesApart : EntryAt → EntryAt → Type 0
AreEntriesApart a b = a.s ≡ b.s → a.entry ≢ b.entry

-- forms that, with a last line, are the text of tables
pub record AreWhole (s : ScriptOf) (fs : List TableForm) : Type 0 where
  pub printed : All IsPrintedForm fs
  pub plain : All (IsPlain s) fs
  pub numbers : AllPairs (AreNumbersApart s.wires) (numbers_in s fs)
  pub entries : AllPairs AreEntriesApart (entries_in s fs)
  pub numbered : (x : ℕ) → x < length s.wires.switches → Any (λ n. n.s ≡ x) (numbers_in s fs)

-- the parts of what is expected of a script
pub record AreParts (s : ScriptOf) (parts : List Part) : Type 0 where
  pub kept : IsScript s
  pub trees : IsForest s.wires (map (λ p. p.entries) parts)
  pub tables : All (λ p. AreTables p.entries s.any_routes (length p.entries) p.tables) parts

-- the life is printed as a name, which is found at the switch x
pub record IsNamed (s : ScriptOf) (life : LifeId) (x : ℕ) : Type 0 where
  pub low : x < length s.wires.switches
  pub name : IsName (life_text s life)
  pub found : place s.switch_names (life_text s life) ≡ x
  pub known : known_cause s.switch_names (life_text s life) ≡ None
