use Rattle.std.specs.Prelude.{ℕ, List, [], ◌∷◌, codes}
use Rattle.common_lines.specs.Lines.{forms_text_by}

-- The forms of the lines of tables.

-- a line of tables, with the words in its fields; readers ignore lines of the first two forms
pub data TableForm : Type 0 where
  ComponentLine : (more : List (List ℕ)) → TableForm
  MemberLine : (more : List (List ℕ)) → TableForm
  NumberLine : (name number : List ℕ) → TableForm
  RowLine : (name entry : List ℕ) (pairs : List (List ℕ)) → TableForm
  EndLine : TableForm

-- the words of a line of this form
abbrev pub table_words : TableForm → List (List ℕ)
table_words (ComponentLine more) = codes "component" ∷ more
table_words (MemberLine more) = codes "member" ∷ more
table_words (NumberLine name number) = codes "number" ∷ name ∷ number ∷ []
table_words (RowLine name entry pairs) = codes "row" ∷ name ∷ entry ∷ pairs
table_words EndLine = codes "end" ∷ []

-- the text of lines of tables
abbrev pub table_text : List TableForm → List ℕ
table_text = forms_text_by table_words
