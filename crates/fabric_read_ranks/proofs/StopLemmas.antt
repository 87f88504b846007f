-- The first fault of a text, where reading stops.
use Rattle.std.proofs.Common.{◌≡◌, ◌∙◌, ap, refl, ℕ, inl, inr, List, ◌∷◌, [], ◌++◌, Err}
use Rattle.common_lines.specs.Chains.{IsFaultOf}
use Rattle.common_lines.specs.Lines.{lines_of}
use Rattle.common_lines.specs.Stops.{IsStep, IsRefusalBy, refusal_at}
use Rattle.common_lines.specs.declared.stop.Stop.{Stop}
use Rattle.common_lines.specs.declared.stop.Stop.TheVariants.{Fault, OutOfMemory}
use Rattle.common_lines.proofs.ChainLaws.{IsReadBy, all_read}

module _ {State Cause : Type 0} (start : State) (adds : State → List ℕ → State → Type 0)
    (faulty : State → List ℕ → Cause → Type 0) (IsEnded : State → Type 0) (no_end : Cause)
    (bytes rest : List ℕ) (said : State) (line : ℕ) (read : IsReadBy adds start bytes rest said line) where
  -- at a line that is stopped
  pub stopped : (Done Good : Type 0) (here after : List ℕ) (stop : Stop Cause) → lines_of rest ≡ here ∷ lines_of after → IsStep {Done = Done} (Err stop) Good (faulty said here) → IsRefusalBy (IsFaultOf start adds faulty IsEnded no_end bytes) (refusal_at line stop)
  stopped Done Good here after (Fault cause) next step = inl (record {
    before = read.before;
    here = here;
    after = lines_of after;
    parts = read.parts ∙ ap (λ (ls : List (List ℕ)). read.before ++ ls) next;
    said = said;
    good = read.good;
    number = read.number;
    faulty_here = step;
  })
  stopped Done Good here after OutOfMemory next step = tt

  -- at the end of a text whose end is not there
  pub unended : lines_of rest ≡ [] → (¬ IsEnded said) → IsFaultOf start adds faulty IsEnded no_end bytes line no_end
  unended none not =
      let all = all_read adds start bytes rest said line read none in
      inr (record { said = said; good = all.0; unended = not; number = all.1; cause_is = refl })
