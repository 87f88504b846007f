-- What a line says leads on, or is faulty.
use Rattle.std.proofs.Common.{◌≡◌, ◌∙◌, ap, refl, ℕ, ◌<◌, List, length, Result, Ok, Err, true, ltb}
use Rattle.std.proofs.lemmas.Bool.{lt-ltb}
use Rattle.common_lines.specs.Stops.{IsStep}
use Rattle.common_lines.specs.declared.stop.Stop.{Stop}
use Rattle.common_lines.specs.declared.stop.Stop.TheVariants.{Fault, OutOfMemory}
use Rattle.fabric_words.specs.Says.{and_then, unless_long, IsSaid, LedToOrWant}

-- a line that is too long
pub long_err : {A Cause : Type 0} (line : List ℕ) (cause : Cause) (said : Result A Cause) → 4096 < length line → unless_long line cause said ≡ Err cause
long_err line cause said long = let t : ltb 4096 (length line) ≡ true = lt-ltb 4096 (length line) long in rw t refl

module _ {Line Told Cause : Type 0} (said : Result Line Cause) (told_with : Line → Result Told Cause) (after : Told) where
  pub step_by : {Done : Type 0} (r : Result Done (Stop Cause)) (line : Line) → said ≡ Ok line → LedToOrWant r after (told_with line) → IsStep r (and_then said told_with ≡ Ok after) (λ cause. and_then said told_with ≡ Err cause)
  step_by (Ok done) line is led = ap (λ s. and_then s told_with) is ∙ led
  step_by (Err (Fault cause)) line is led = ap (λ s. and_then s told_with) is ∙ led
  step_by (Err OutOfMemory) line is led = tt

  pub stop_by : (stop : Stop Cause) → IsSaid {A = Line} (Err stop) said → IsStep {Done = Unit {0}} (Err stop) (and_then said told_with ≡ Ok after) (λ cause. and_then said told_with ≡ Err cause)
  stop_by (Fault cause) is = ap (λ s. and_then s told_with) is
  stop_by OutOfMemory is = tt
