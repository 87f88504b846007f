use Rattle.std.proofs.Common.{◌≡◌, sym, subst, ℕ, ◌≤◌, List, [], ◌∷◌, ◌++◌, length, Some, Bool, true, false}
use Rattle.net_script.specs.Scripts.{ScriptOf}
use Rattle.table_script.specs.Tables.{TablesOf}
use Rattle.table_script.specs.TableTexts.{IsFaultWith, IsTextWith}
use Rattle.table_script.proofs.TableLaws.{one_text_with, no_fault_with}
use Rattle.check_text.specs.Check.{IsJudged}
use Rattle.check_text.proofs.OwnLaw.{own_tables_pass}
use Rattle.autonet_call.specs.declared.status.Status.{Status}
use Rattle.autonet_call.specs.Answer.{Streams, IsAnswer, input_limit, refuses_nothing}
use Rattle.autonet_call.specs.Expect.{IsExpectedOf}
use Rattle.autonet_file_commands.specs.Check.{IsJudgedOf, gives_judged, gives_passing, refuses_tables, status_of}
use Rattle.autonet_file_commands.specs.Answers.{IsCheckAnswer}
use Rattle.autonet_call.proofs.AllToldLemmas.{answered_as, not_refused}

-- the bytes are the text of a script with tables that are never refused
record AreFine (bytes : List ℕ) : Type 0 where
  script : ScriptOf
  tables : TablesOf
  is_text : IsTextWith bytes script tables
  fine : (out : List ℕ) → ¬ IsJudged script tables false out

-- what comes of such tables is that they pass
judged_fine : (bytes text : List ℕ) (status : Status) (passed : Bool) → AreFine bytes → status ≡ status_of passed → IsJudgedOf passed text bytes → gives_passing bytes status text
judged_fine bytes text status true are is judged = (is, judged)
judged_fine bytes text status false are is judged =
    let one = one_text_with bytes are.script judged.script are.tables judged.tables are.is_text judged.is_text in
    absurd (are.fine text (subst (λ (u : TablesOf). IsJudged are.script u false text) (sym one.1) (subst (λ (r : ScriptOf). IsJudged r judged.tables false text) (sym one.0) judged.judged)))

-- what is expected of a script, behind its text, is refused neither as a script nor for its tables
pub own_passes : (answer : ℕ) (bytes text : List ℕ) (old new : Streams) → IsExpectedOf text (bytes ++ 10 ∷ []) → old.source.told ≡ Some (bytes ++ 10 ∷ text) → length (bytes ++ 10 ∷ text) ≤ input_limit → IsCheckAnswer old new answer → IsAnswer input_limit gives_passing refuses_nothing old new answer
own_passes answer bytes text old new expected told few is =
    let whole = bytes ++ 10 ∷ text in
    let (t, from, fine) = own_tables_pass bytes expected.script text expected.is_text expected.said in
    let are : AreFine whole = record { script = expected.script; tables = t; is_text = from; fine = fine } in
    answered_as gives_judged gives_passing refuses_tables whole old new told
    (λ status out (passed, is_status, judged). judged_fine whole out status passed are is_status judged)
    (λ status. not_refused status (IsFaultWith whole) (λ line cause fault. no_fault_with whole are.script are.tables line cause are.is_text fault))
    answer is
