use Rattle.std.specs.Prelude.{◌≡◌, ◌≢◌, ℕ, List, [], ◌∷◌, ◌++◌, map, All, None}
use Rattle.common_lines.specs.Lines.{lines_of, with_words}
use Rattle.net_script.specs.declared.draft.Draft.{Draft}
use Rattle.net_script.specs.Drafts.{begun}
use Rattle.net_script.specs.Forms.{Form, End, form_words, header_words}
use Rattle.net_script.specs.Rules.{cause_of, with_form}
use Rattle.net_script.specs.Scripts.{ScriptOf}
use Rattle.net_script.specs.Texts.{bytes_cause}

-- The text of a script as a list of forms, one on each line.

-- every form has no error after the forms before it, and the forms lead from `draft` to `last`
abbrev pub FormsLead : Draft → List Form → Draft → Type 0
FormsLead draft [] last = draft ≡ last
FormsLead draft (form ∷ forms) last =
    (cause_of draft form ≡ None) × FormsLead (with_form draft form) forms last

-- `bytes` are a text of `forms`: every line has at most 200 bytes, all of them allowed in a line; the lines with words
-- are `autonet 1`, one for each form, in order, and `end`, which is not among the forms; and the forms, after only the
-- first line, say `script`
pub record IsTextOf (bytes : List ℕ) (forms : List Form) (script : ScriptOf) : Type 0 where
  pub fine : All (λ line. bytes_cause 200 line ≡ None) (lines_of bytes)
  pub rows : with_words (lines_of bytes) ≡ header_words ∷ (map form_words forms ++ form_words End ∷ [])
  pub inner : All (λ form. form ≢ End) forms
  pub last : Draft
  pub good : FormsLead begun forms last
  pub says : script ≡ last.script
