-- Histories in which one event is changed.

use Rattle.std.specs.Prelude.{ℕ, suc, List, ◌∷◌, ◌++◌, take, drop}
use Rattle.an_base.specs.declared.event.Event.{Event}
use Rattle.net_script.specs.Scripts.{ScriptOf}
use Rattle.net_world.specs.Histories.{IsFirstFault}

-- the history with an event added after the first `count`
abbrev pub with_added : ℕ → Event → List Event → List Event
with_added count event history = take count history ++ event ∷ drop count history

-- the history without the event after the first `count`
abbrev pub with_left_out : ℕ → List Event → List Event
with_left_out count history = take count history ++ drop (suc count) history

-- the first `count` events are lawful, and the one after them is not
pub record IsRefusedAfter (count : ℕ) (script : ScriptOf) (history : List Event) : Type 0 where
  pub event : Event
  pub after : List Event
  pub first : IsFirstFault script history (take count history) event after
