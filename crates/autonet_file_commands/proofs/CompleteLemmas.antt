-- What `check` answers to a source that tells a script with tables.
use Rattle.std.proofs.Common.{◌≡◌, subst, ℕ, ◌≤◌, List, length, Some}
use Rattle.net_script.specs.Scripts.{ScriptOf}
use Rattle.table_script.specs.Tables.{TablesOf}
use Rattle.table_script.specs.TableTexts.{IsFaultWith, IsTextWith}
use Rattle.table_script.proofs.TableLaws.{no_fault_with, one_text_with}
use Rattle.check_text.specs.Check.{IsJudged}
use Rattle.autonet_call.specs.Answer.{Streams, IsAnswer, input_limit, refuses_nothing}
use Rattle.autonet_file_commands.specs.Check.{gives_judged, refuses_tables}
use Rattle.autonet_file_commands.specs.Complete.{gives_judged_of}
use Rattle.autonet_file_commands.specs.Answers.{IsCheckAnswer}
use Rattle.autonet_call.proofs.AllToldLemmas.{answered_as, not_refused}

pub text_is_judged : (answer : ℕ) (bytes : List ℕ) (script : ScriptOf) (tables : TablesOf) (old new : Streams) → IsTextWith bytes script tables → old.source.told ≡ Some bytes → length bytes ≤ input_limit → IsCheckAnswer old new answer → IsAnswer input_limit (gives_judged_of script tables) refuses_nothing old new answer
text_is_judged answer bytes script tables old new is_text told few is =
    answered_as gives_judged (gives_judged_of script tables) refuses_tables bytes old new told
    (λ status text (passed, is_status, of).
    let one = one_text_with bytes of.script script of.tables tables of.is_text is_text in
    (passed, is_status, subst (λ (t : TablesOf). IsJudged script t passed text) one.1 (subst (λ (s : ScriptOf). IsJudged s of.tables passed text) one.0 of.judged)))
    (λ status. not_refused status (IsFaultWith bytes) (λ line cause fault. no_fault_with bytes script tables line cause is_text fault))
    answer is
