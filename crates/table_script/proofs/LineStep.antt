use Rattle.std.proofs.Common.{◌≡◌, sym, subst, refl, ℕ, List, [], ◌∷◌, inr, Result, Ok, Err, None}
use Rattle.common_lines.specs.Lines.{words_of}
use Rattle.common_lines.specs.Grammar.{AddsRowBy, IsFaultyRowBy}
use Rattle.common_lines.specs.Stops.{IsStep}
use Rattle.common_lines.specs.declared.stop.Stop.TheVariants.{Fault, OutOfMemory}
use Rattle.net_script.specs.Scripts.{ScriptOf}
use Rattle.net_script.specs.Steps.{ScriptStop}
use Rattle.net_script.specs.Texts.{bytes_cause}
use Rattle.table_script.specs.TableDrafts.{TableDraftOf}
use Rattle.table_script.specs.TableTexts.{AddsTable, AddsTableWords, IsFaultyTable, IsFaultyTableWords}

-- what the reading of a line's words says of the line, if it has some
pub line_step : {T : Type 0} (r : Result T ScriptStop) (s : ScriptOf) (d e : TableDraftOf) (line word : List ℕ) (words : List (List ℕ)) → bytes_cause 4000 line ≡ None → words_of line ≡ word ∷ words
    → IsStep r (AddsTableWords d.ended s d (words_of line) e) (IsFaultyTableWords d.ended s d (words_of line)) → IsStep r (AddsTable s d line e) (IsFaultyTable s d line)
line_step (Ok x) s d e line word words bytes is step =
    record {
      bytes = bytes;
      row = subst (λ (ws : List (List ℕ)). AddsRowBy (λ (draft : TableDraftOf). AddsTableWords draft.ended s draft) d ws e) (sym is) (subst (λ (ws : List (List ℕ)). AddsTableWords d.ended s d ws e) is step);
    }
line_step (Err (Fault c)) s d e line word words bytes is step =
    inr (bytes, subst (λ (ws : List (List ℕ)). IsFaultyRowBy (λ (draft : TableDraftOf). IsFaultyTableWords draft.ended s draft) d ws c) (sym is) (subst (λ (ws : List (List ℕ)). IsFaultyTableWords d.ended s d ws c) is step))
line_step (Err OutOfMemory) s d e line word words bytes is step = tt

-- a line without words adds nothing
pub empty_line : (s : ScriptOf) (d : TableDraftOf) (line : List ℕ) → bytes_cause 4000 line ≡ None → words_of line ≡ [] → AddsTable s d line d
empty_line s d line bytes none = record { bytes = bytes; row = subst (λ (ws : List (List ℕ)). AddsRowBy (λ (draft : TableDraftOf). AddsTableWords draft.ended s draft) d ws d) (sym none) refl }
