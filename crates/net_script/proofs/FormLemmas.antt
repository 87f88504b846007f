use Rattle.std.proofs.Common.{◌≡◌, refl, ℕ, List, None, Result, inl}
use Rattle.net_script.specs.declared.cause.ScriptCause.TheVariants.{UnknownWord}
use Rattle.net_script.specs.declared.draft.Draft.{Draft}
use Rattle.net_script.specs.Forms.{Form, form_words}
use Rattle.net_script.specs.Texts.{AddsForm, IsFaultyForm}
use Rattle.common_lines.specs.Stops.{IsStep}
use Rattle.common_lines.proofs.StopLemmas.{form_step_by}
use Rattle.net_script.specs.Rules.{cause_of, with_form}
use Rattle.net_script.specs.Steps.{ScriptStop, ReadsForm, IsWrong}
use Rattle.net_script.proofs.FormOf.{form_of, no_form}

-- what the reading of a form says of its words
pub form_step : {T : Type 0} (r : Result T ScriptStop) (d e : Draft) (form : Form) (words : List (List ℕ)) → words ≡ form_words form → IsStep r (ReadsForm d form e) (IsWrong d form) → IsStep r (AddsForm d words e) (IsFaultyForm d words)
form_step r d e form words is step = form_step_by form_words cause_of with_form UnknownWord r d e form words is step

-- words without a form are faulty
pub unknown : (d : Draft) (words : List (List ℕ)) → form_of words ≡ None → IsFaultyForm d words UnknownWord
unknown d words none = inl (no_form words none, refl)
