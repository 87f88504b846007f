use Rattle.std.proofs.Common.{◌≡◌, ℕ, List, Option, Some, Result, Ok, Err, inr}
use Rattle.common_lines.specs.declared.stop.Stop.{Stop}
use Rattle.common_lines.specs.declared.stop.Stop.TheVariants.{Fault, OutOfMemory}
use Rattle.common_lines.specs.Grammar.{AddsFormBy, IsFaultyFormBy}
use Rattle.common_lines.specs.Stops.{IsStep, ReadsFormBy}

-- what the reading of a form says of its words
pub form_step_by : {Form State Cause Done : Type 0} (words_of_form : Form → List (List ℕ)) (cause_of : State → Form → Option Cause) (with_form : State → Form → State) (unknown : Cause) (r : Result Done (Stop Cause)) (d e : State) (form : Form) (words : List (List ℕ)) → words ≡ words_of_form form → IsStep r (ReadsFormBy cause_of with_form d form e) (λ c. cause_of d form ≡ Some c) → IsStep r (AddsFormBy words_of_form cause_of with_form d words e) (IsFaultyFormBy words_of_form cause_of unknown d words)
form_step_by words_of_form cause_of with_form unknown (Ok done) d e form words is step = record { form = form; line = is; good = step.0; then = step.1 }
form_step_by words_of_form cause_of with_form unknown (Err (Fault c)) d e form words is step = inr (record { form = form; line = is; wrong = step })
form_step_by words_of_form cause_of with_form unknown (Err OutOfMemory) d e form words is step = tt
