use Rattle.std.specs.Prelude.{◌≡◌, ℕ, List, Some}
use Rattle.common_lines.specs.declared.stop.Stop.{Stop}
use Rattle.common_lines.specs.declared.stop.Refusal.{Refusal}
use Rattle.common_lines.specs.Stops.{IsRefusalBy, ReadsFormBy}
use Rattle.net_script.specs.declared.cause.ScriptCause.{ScriptCause}
use Rattle.net_script.specs.declared.draft.Draft.{Draft}
use Rattle.net_script.specs.Forms.{Form}
use Rattle.net_script.specs.Rules.{cause_of, with_form}
use Rattle.net_script.specs.Texts.{IsFault}

-- The steps of the reader.

-- the reasons why a line of a script adds nothing (`ScriptStop`), and why bytes were not read as a script
-- (`ReadRefusal`)
abbrev pub ScriptStop : Type 0
ScriptStop = Stop ScriptCause

abbrev pub ReadRefusal : Type 0
ReadRefusal = Refusal ScriptCause

-- a line of a form has no error after a draft, and leads to the draft with what it adds
abbrev pub ReadsForm : Draft → Form → Draft → Type 0
ReadsForm = ReadsFormBy cause_of with_form

-- the error of a line of `form` after `draft` is `cause`
abbrev pub IsWrong : Draft → Form → ScriptCause → Type 0
IsWrong draft form cause = cause_of draft form ≡ Some cause

-- the bytes were not read because of their first error, or because memory ran out
abbrev pub IsRefusal : List ℕ → ReadRefusal → Type 0
IsRefusal bytes = IsRefusalBy (IsFault bytes)
