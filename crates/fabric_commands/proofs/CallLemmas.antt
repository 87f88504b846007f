-- The answer to words.
use Rattle.std.proofs.Common.{◌≡◌, sym, subst, ℕ, List}
use Rattle.fabric_call.specs.Answer.{IsUsageAnswer, Streams}
use Rattle.fabric_judge_call.specs.declared.words.Call.{Call}
use Rattle.fabric_judge_call.specs.declared.words.Task.{Task}
use Rattle.fabric_commands.specs.Call.{IsAnswerOf, IsAnswerTo, More}
use Rattle.fabric_judge_call.specs.Words.{AreNoCall, IsCall}
use Rattle.fabric_judge_call.proofs.WordLemmas.{one_call}

module _ (words : List (List ℕ)) (has has' : More) (old new : Streams) (answer : ℕ) where
  pub answers_call : (call : Call) (task : Task) → IsCall words call → call.task ≡ task → IsAnswerOf task words call has has' old new answer → IsAnswerTo words has has' old new answer
  answers_call call task is same answers = record {
    call = λ other too. subst (λ (c : Call). IsAnswerOf c.task words c has has' old new answer) (one_call words call other is too) (subst (λ (t : Task). IsAnswerOf t words call has has' old new answer) (sym same) answers);
    usage = λ none. absurd (none call is);
  }

  pub answers_usage : AreNoCall words → has' ≡ has → IsUsageAnswer old new answer → IsAnswerTo words has has' old new answer
  answers_usage none kept usage = record { call = λ call is. absurd (none call is); usage = λ _. (kept, usage) }
