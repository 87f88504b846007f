-- What a command that reads a script alone answers to a source that tells the text of one.
use Rattle.std.proofs.Common.{◌≡◌, subst, ℕ, ◌≤◌, List, length, Some}
use Rattle.net_script.specs.Scripts.{ScriptOf}
use Rattle.net_script.specs.Texts.{IsFault, IsText}
use Rattle.net_script.proofs.TextLemmas.{no_fault, one_text}
use Rattle.autonet_call.specs.declared.status.Status.TheVariants.{Ok}
use Rattle.autonet_call.specs.Answer.{Streams, IsAnswer, input_limit, refuses_nothing}
use Rattle.autonet_call.specs.Scripted.{Says, gives_said, refuses_script}
use Rattle.autonet_call.proofs.AllToldLemmas.{answered_as, not_refused}

-- a command that reads a script alone
pub text_is_said : (says : Says) (answer : ℕ) (bytes : List ℕ) (script : ScriptOf) (old new : Streams) → IsText bytes script → old.source.told ≡ Some bytes → length bytes ≤ input_limit → IsAnswer input_limit (gives_said says) refuses_script old new answer → IsAnswer input_limit (λ b status text. (status ≡ Ok) × says script text) refuses_nothing old new answer
text_is_said says answer bytes script old new is_text told few is =
    answered_as (gives_said says) (λ b status text. (status ≡ Ok) × says script text) refuses_script bytes old new told
    (λ status text (ok, of). (ok, subst (λ (s : ScriptOf). says s text) (one_text bytes of.script script of.is_text is_text) of.said))
    (λ status. not_refused status (IsFault bytes) (λ line cause fault. no_fault bytes script line cause is_text fault))
    answer is
