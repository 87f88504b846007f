use Rattle.std.proofs.Common.{◌≡◌, ◌∙◌, ap, refl, ℕ, List, Some, None, true, false}
use Rattle.net_script.specs.declared.cause.ScriptCause.TheVariants.{NameTwice}
use Rattle.common_lines.specs.Words.{number_value}
use Rattle.net_script.specs.Rules.{place, known_cause, number_cause}
use Rattle.net_script.specs.Scripts.{ScriptOf}
use Rattle.table_script.specs.TableDrafts.{TableDraftOf}
use Rattle.table_script.specs.TableRules.{is_numbered, is_number_taken, number_line_cause, with_number}

-- a number line whose fields are good but for a number that is taken, or not
pub number_twice : (s : ScriptOf) (d : TableDraftOf) (name n : List ℕ) (x m : ℕ) → known_cause s.switch_names name ≡ None → x ≡ place s.switch_names name → is_numbered d x ≡ false → number_cause 1 126 n ≡ None → m ≡ number_value n → is_number_taken s.wires d x m ≡ true → number_line_cause s d name n ≡ Some NameTwice
unfolding number_line_cause
number_twice s d name n x m known at new good is taken = rw (known, ← at, new, good, ← is, taken) refl

pub number_new : (s : ScriptOf) (d e : TableDraftOf) (name n : List ℕ) (x m : ℕ) → known_cause s.switch_names name ≡ None → x ≡ place s.switch_names name → is_numbered d x ≡ false → number_cause 1 126 n ≡ None → m ≡ number_value n → is_number_taken s.wires d x m ≡ false → e ≡ with_number d x m → (number_line_cause s d name n ≡ None) × (e ≡ with_number d (place s.switch_names name) (number_value n))
unfolding number_line_cause
number_new s d e name n x m known at new good is free then = (rw (known, ← at, new, good, ← is, free) refl, then ∙ ap (λ (y : ℕ). with_number d y m) at ∙ ap (with_number d (place s.switch_names name)) is)
