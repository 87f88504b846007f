use Rattle.std.specs.Prelude.{◌≡◌, ◌≢◌, ℕ, List, Option}
use Rattle.common_lines.specs.Lines.{lines_of}
use Rattle.common_lines.specs.Chains.{LeadsBy, IsFaultOf}
use Rattle.common_lines.specs.Grammar.{IsFaultyFormBy, AddsFormBy, AddsLineBy, IsFaultyLineBy}
use Rattle.common_lines.specs.Grammar.{bytes_cause_by}
use Rattle.net_script.specs.declared.cause.ScriptCause.{ScriptCause}
use Rattle.net_script.specs.declared.cause.ScriptCause.TheVariants.{NotAscii, BadHeader, UnknownWord}
use Rattle.net_script.specs.declared.cause.ScriptCause.TheVariants.{AfterEnd, LineTooLong, NoEnd}
use Rattle.net_script.specs.declared.draft.Part.{Part}
use Rattle.net_script.specs.declared.draft.Part.TheVariants.{Header, Items, After}
use Rattle.net_script.specs.declared.draft.Draft.{Draft}
use Rattle.net_script.specs.Scripts.{ScriptOf}
use Rattle.net_script.specs.Forms.{form_words, header_words}
use Rattle.net_script.specs.Drafts.{start}
use Rattle.net_script.specs.Rules.{cause_of, with_form}

-- The text of a script: the first line with words is `autonet 1`; lines of forms follow, and the last of them is `end`;
-- no line after it has words. A line has at most 200 bytes.

-- the words have a form without an error after a draft, and lead to the draft with what that form adds
abbrev pub AddsForm : Draft → List (List ℕ) → Draft → Type 0
AddsForm = AddsFormBy form_words cause_of with_form

-- the words of a line after `draft` are good and lead to `after`: the first line is `autonet 1`, forms follow, and no
-- words come after the last
abbrev pub AddsWords : Part → Draft → List (List ℕ) → Draft → Type 0
AddsWords Header draft words after = (words ≡ header_words) × (after ≡ record draft { part = Items })
AddsWords Items draft words after = AddsForm draft words after
AddsWords After draft words after = ⊥

-- the error, if any, of the bytes of a line: too many, or a byte not allowed in a line
abbrev pub bytes_cause : ℕ → List ℕ → Option ScriptCause
bytes_cause = bytes_cause_by LineTooLong NotAscii

-- a line after a draft is good and leads to another draft
abbrev pub Adds : Draft → List ℕ → Draft → Type 0
Adds = AddsLineBy (λ draft. AddsWords draft.part draft) (bytes_cause 200)

-- the words have no form, or a form with an error after a draft, and the cause says which
abbrev pub IsFaultyForm : Draft → List (List ℕ) → ScriptCause → Type 0
IsFaultyForm = IsFaultyFormBy form_words cause_of UnknownWord

-- the words of a line after `draft` have the error `cause`
abbrev pub IsFaultyWords : Part → Draft → List (List ℕ) → ScriptCause → Type 0
IsFaultyWords Header draft words cause = (words ≢ header_words) × (cause ≡ BadHeader)
IsFaultyWords Items draft words cause = IsFaultyForm draft words cause
IsFaultyWords After draft words cause = cause ≡ AfterEnd

-- the first error of a line after a draft is the cause
abbrev pub IsFaulty : Draft → List ℕ → ScriptCause → Type 0
IsFaulty = IsFaultyLineBy (λ draft. IsFaultyWords draft.part draft) (bytes_cause 200)

-- every line is good after the lines before it, and the lines lead from one draft to another
abbrev pub Leads : Draft → List (List ℕ) → Draft → Type 0
Leads = LeadsBy Adds

-- the last line with words has been read
abbrev pub IsEnded : Draft → Type 0
IsEnded draft = draft.part ≡ After

-- `bytes` are the text of `script`: every line is good after the lines before it, the last with words is `end`, and
-- the lines say `script`
pub record IsText (bytes : List ℕ) (script : ScriptOf) : Type 0 where
  pub last : Draft
  pub good : Leads start (lines_of bytes) last
  pub ended : IsEnded last
  pub says : script ≡ last.script

-- the first error of the bytes is in a line, and has a cause: the line is the first that is not good after the lines
-- before it, or all lines are good and `end` is missing
abbrev pub IsFault : List ℕ → ℕ → ScriptCause → Type 0
IsFault = IsFaultOf start Adds IsFaulty IsEnded NoEnd
