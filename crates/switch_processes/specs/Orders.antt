-- One order of all calls of all processes, which is a history of the network.

use Rattle.std.specs.Prelude.{◌≡◌, ℕ, List, [], ◌∷◌, if◌then◌else◌}
use Rattle.std.specs.Ordering.{is_eq}
use Rattle.an_base.specs.Values.{LifeId}
use Rattle.an_base.specs.Order.{life_cmp}
use Rattle.an_base.specs.declared.frame.Frame.{Frame}
use Rattle.epoch_game.specs.Slice.{Earlier}
use Rattle.epoch_game.specs.Game.{Game, after_load, begins}
use Rattle.switch_core.specs.Switch.{SwitchOf}
use Rattle.switch_core.specs.Steps.{clocked}
use Rattle.switch_game.specs.Network.{Happens, Network, PowerOn, clock_moves, dark, frame_moves, stepped}
use Rattle.switch_processes.specs.Processes.{Call, Clocks, Event, Hears, IsOf, Loads, called, switch_after}

-- a call, and the life that made it
pub record CallOf : Type 0 where
  pub life : LifeId
  pub call : Call

-- the calls of one life among those of all lives, the newest first
abbrev pub calls_of : LifeId → List CallOf → List Call
calls_of life [] = []
calls_of life (one ∷ earlier) =
    if is_eq (life_cmp one.life life) then one.call ∷ calls_of life earlier else calls_of life earlier

-- an interleaving has all calls of each life, in their local order
abbrev pub IsInterleaving : (LifeId → List Call) → List CallOf → Type 0
IsInterleaving did order = (life : LifeId) → calls_of life order ≡ did life

-- the event that a call is, after the earlier calls
abbrev pub event_of : CallOf → List CallOf → Event
event_of one earlier = record { life = one.life; call = one.call; before = calls_of one.life earlier }

-- each frame comes in after the event that sent it
abbrev pub AreSentBefore : (Event → Event) → List CallOf → Type 0
AreSentBefore sending [] = Unit {0}
AreSentBefore sending (one ∷ earlier) =
    ((port : ℕ) (frame : Frame) → one.call ≡ Hears port frame
    → IsOf (λ life. calls_of life earlier) (sending (event_of one earlier)))
    × AreSentBefore sending earlier

-- the network after the calls
abbrev pub network_after : PowerOn → List CallOf → Network
network_after on [] = dark on
network_after on (one ∷ earlier) =
    stepped (network_after on earlier) one.life
    (called one.call ((network_after on earlier).switches one.life))

-- the moves of the game that a call is, and the game after all of them
abbrev pub call_moves : LifeId → Call → SwitchOf → Game → Game
call_moves life (Clocks now samples) switch game =
    clock_moves life switch (clocked now samples switch).switch game
call_moves life (Hears port frame) switch game = frame_moves life port frame switch game
call_moves life (Loads number) switch game = after_load game life

abbrev pub game_after : PowerOn → List CallOf → Game
game_after on [] = begins on.epoch
game_after on (one ∷ earlier) =
    call_moves one.life one.call ((network_after on earlier).switches one.life) (game_after on earlier)

-- There is one order of all that the processes did. At each point in time it is a history of the network, each life
-- is at a point in time of its process, and its switch is the one that its process has then.
pub record HasOneOrder (lives : List LifeId) (on : PowerOn) (did : LifeId → List Call)
    (sending : Event → Event) : Type 0 where
  pub order : List CallOf
  pub interleaving : IsInterleaving did order
  pub sent_before : AreSentBefore sending order
  pub happens : (past : List CallOf) → Earlier past order
      → Happens lives (dark on) (begins on.epoch) (network_after on past) (game_after on past)
  pub moments : (past : List CallOf) → Earlier past order → (life : LifeId)
      → Earlier (calls_of life past) (did life)
  pub switches : (past : List CallOf) → Earlier past order → (life : LifeId)
      → (network_after on past).switches life ≡ switch_after on life (calls_of life past)

-- `order` has all that was done up to `cut` before all else, and the network continues from there.
pub record Passes (lives : List LifeId) (on : PowerOn) (cut : LifeId → List Call) (order : List CallOf)
    : Type 0 where
  pub past : List CallOf
  pub earlier : Earlier past order
  pub interleaving : IsInterleaving cut past
  pub switches : (life : LifeId) → (network_after on past).switches life ≡ switch_after on life (cut life)
  pub since : Happens lives (network_after on past) (game_after on past) (network_after on order)
      (game_after on order)
