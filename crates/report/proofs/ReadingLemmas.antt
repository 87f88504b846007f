-- A journal is read event by event.
use Rattle.std.proofs.Common.{◌≡◌, ℕ, List, [], ◌∷◌, ◌++◌, Option, Some}
use Rattle.an_base.specs.declared.event.Event.{Event}
use Rattle.net_script.specs.Scripts.{ScriptOf}
use Rattle.journal.specs.Reading.{HasRead, IsNext, ReaderOf}
use Rattle.journal.proofs.ReadingLemmas.{next_some}

-- A READER

-- of whatever bytes a reader has read nothing yet, it has now read these events
abbrev pub HasReadFrom : ScriptOf → ReaderOf → List Event → ReaderOf → Type 0
HasReadFrom script start events reader = (bytes : List ℕ) → HasRead script bytes [] start → HasRead script bytes events reader

-- one event more
pub next_from : (script : ScriptOf) (start old new : ReaderOf) (events : List Event) (next : Option Event) (event : Event) → HasReadFrom script start events old → next ≡ Some event → ((script : ScriptOf) (bytes : List ℕ) (events : List Event) → HasRead script bytes events old → IsNext script bytes events new next) → HasReadFrom script start (events ++ event ∷ []) new
next_from script start old new events next event from is reads bytes has =
    next_some script bytes events new next event is (reads script bytes events (from bytes has))
