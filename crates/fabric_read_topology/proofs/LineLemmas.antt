-- The first fault of a text, where reading stops.
use Rattle.std.proofs.Common.{◌≡◌, ◌∙◌, sym, ap, refl, ℕ, inl, inr, List, [], ◌∷◌, ◌++◌, true, false, Err}
use Rattle.common_lines.specs.Lines.{lines_of}
use Rattle.common_lines.specs.Stops.{IsStep, IsRefusalBy, refusal_at}
use Rattle.common_lines.specs.declared.stop.Stop.{Stop}
use Rattle.common_lines.specs.declared.stop.Stop.TheVariants.{Fault, OutOfMemory}
use Rattle.common_lines.proofs.ChainLaws.{IsReadBy, all_read}
use Rattle.fabric_topology.specs.declared.cause.TopologyCause.TheVariants.{NoEnd}
use Rattle.fabric_topology.specs.declared.fact.Fact.{Fact}
use Rattle.fabric_topology.specs.declared.fact.Part.{Part}
use Rattle.fabric_topology.specs.declared.fact.Part.TheVariants as part
use Rattle.fabric_topology.specs.Texts.{may_end}
use Rattle.fabric_read_topology.specs.declared.cause.FabricCause.{FabricCause}
use Rattle.fabric_read_topology.specs.declared.cause.FabricCause.TheVariants.{Text}
use Rattle.fabric_read_topology.specs.Lines.{AddsLine, IsFaultFrom, IsFaultyLine}

module _ {Told : Type 0} (adds : Told → Fact → Told → Type 0) (faulty : Told → Fact → FabricCause → Type 0)
    (old : Told) (bytes rest : List ℕ) (said : Part × Told) (line : ℕ) (read : IsReadBy (AddsLine adds) (part.Start, old) bytes rest said line) where
  -- at a line that is stopped
  pub stopped : (Done Good : Type 0) (here after : List ℕ) (stop : Stop FabricCause) → lines_of rest ≡ here ∷ lines_of after → IsStep {Done = Done} (Err stop) Good (IsFaultyLine adds faulty said here) → IsRefusalBy (IsFaultFrom adds faulty old bytes) (refusal_at line stop)
  stopped Done Good here after (Fault cause) next step = inl (record {
    before = read.before;
    here = here;
    after = lines_of after;
    parts = read.parts ∙ ap (λ (ls : List (List ℕ)). read.before ++ ls) next;
    said = said;
    good = read.good;
    number = read.number;
    faulty_here = step;
  })
  stopped Done Good here after OutOfMemory next step = tt

  -- at the end of a text that may not end
  pub unended : lines_of rest ≡ [] → may_end said.0 ≡ false → IsFaultFrom adds faulty old bytes line (Text NoEnd)
  unended none not =
      let all = all_read (AddsLine adds) (part.Start, old) bytes rest said line read none in
      inr (record { said = said; good = all.0; unended = λ ends. let e : true ≡ false = sym ends ∙ not in absurd (cc); number = all.1; cause_is = refl })
