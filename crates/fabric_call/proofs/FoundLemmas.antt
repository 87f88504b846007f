-- What is so of all that is found, is so of what was.
use Rattle.std.proofs.Common.{◌≡◌, sym, subst, ℕ, List}
use Rattle.std.specs.Prelude.{IfErr, IfOk, Result, Ok, Err}
use Rattle.outside.specs.Told.{Seen}
use Rattle.fabric_call.specs.declared.command.Given.{Given}
use Rattle.fabric_call.specs.declared.status.Status.{Status}
use Rattle.fabric_call.specs.Answer.{IsAnswerBy, IsCause, WasFound, WasNone, cut, stopped, written}

module _ (is : Status → List ℕ → Type 0) (none : Status → Type 0) where
  so : (given : Given) (status : Status) (text : List ℕ) → is given.status given.text.items → (status ≡ given.status) × (text ≡ given.text.items) → is status text
  so given status text holds (one, two) = rw (one, two) holds

  module _ (out out' : Seen) where
    cause_by : (found : Result Given Status) (status : Status) → IfOk found (λ given. is given.status given.text.items) → IfErr found none → IsCause (WasFound found) (WasNone found) out out' status → IsCause is none out out' status
    cause_by (Ok given) status holds ends (written w) = written (record { written = w.written; given = so given status w.written holds w.given; gains = w.gains })
    cause_by (Ok given) status holds ends (cut end w) = cut end (record { end = w.end; written = w.written; given = so given w.end w.written holds w.given; gains = w.gains; failed = w.failed })
    cause_by (Ok given) status holds ends (stopped stops kept) = absurd stops
    cause_by (Err why) status holds ends (written w) = absurd w.given
    cause_by (Err why) status holds ends (cut end w) = absurd w.given
    cause_by (Err why) status holds ends (stopped stops kept) = stopped (subst none (sym stops) ends) kept

    pub answer_by : (found : Result Given Status) (err err' : Seen) (answer : ℕ) → IfOk found (λ given. is given.status given.text.items) → IfErr found none → IsAnswerBy (WasFound found) (WasNone found) out out' err err' answer → IsAnswerBy is none out out' err err' answer
    answer_by found err err' answer holds ends told = record { status = told.status; cause = cause_by found told.status holds ends told.cause; told = told.told }
