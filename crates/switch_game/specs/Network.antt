-- All lives as switches in a network of which nothing is known: what can happen there, and which moves of the game
-- that is.

use Rattle.std.specs.Prelude.{◌≡◌, ◌==◌, ◌≤◌, nat_lt, ℕ, List, [], ◌∷◌, ◌++◌, map, Bool, true, false, if◌then◌else◌, Contains}
use Rattle.std.specs.Ordering.{is_eq}
use Rattle.an_base.specs.Values.{LifeId}
use Rattle.an_base.specs.Order.{life_cmp}
use Rattle.an_base.specs.Frames.{CarryOf}
use Rattle.an_base.specs.declared.body.Body.{Body}
use Rattle.an_base.specs.declared.frame.Frame.{Frame}
use Rattle.an_base.specs.declared.frame.Frame.TheVariants.{Carry, Ack, Probe, Reply}
use Rattle.an_base.specs.declared.port.Sample.{Sample}
use Rattle.epoch_core.specs.Log.{CardOf, Log}
use Rattle.epoch_game.specs.Game.{Game, after_join, after_accept, after_load}
use Rattle.switch_core.specs.Switch.{SwitchOf, started, counts}
use Rattle.ordered_link.specs.Receiving.{accepted_by}
use Rattle.switch_core.specs.Steps.{Sent, Step, joins, framed, clocked, loaded, still}

-- How each life is powered on: in which epoch, with which short address, and whether its tables have all legal
-- routes.
pub record PowerOn : Type 0 where
  pub epoch : LifeId → ℕ
  pub had : LifeId → ℕ
  pub any : LifeId → Bool

-- A network of which nothing is known: the switch that each life is, and each frame that a switch ever sent. It has
-- no wires. To a life that is not powered on yet, or no longer is, nothing happens.
pub record Network : Type 0 where
  pub switches : LifeId → SwitchOf
  pub sent : List Frame

-- the network in which all lives are as they are powered on, and nothing was sent
abbrev pub dark : PowerOn → Network
dark on = record { switches = λ life. started life (on.epoch life) (on.had life) (on.any life); sent = [] }

-- the switches, after that of one life is replaced
abbrev pub with_switch : (LifeId → SwitchOf) → LifeId → SwitchOf → LifeId → SwitchOf
with_switch switches life switch other = if is_eq (life_cmp life other) then switch else switches other

abbrev pub frames_of : List Sent → List Frame
frames_of sent = map (λ (out : Sent). out.frame) sent

-- the network after a life takes a step; what goes out by the step is sent for ever
abbrev pub stepped : Network → LifeId → Step → Network
stepped network life step =
    record {
      switches = with_switch network.switches life step.switch;
      sent = frames_of step.frames ++ network.sent;
    }

-- The game after a life, which has this card and has accepted this list so far, accepts bodies on a port.
abbrev pub all_accepted : LifeId → ℕ → List Body → CardOf → Log → Game → Game
all_accepted life port [] card log game = game
all_accepted life port (body ∷ bodies) card log game =
    all_accepted life port bodies card (record { port = port; body = body } ∷ log)
    (after_accept game life (record { card = card; log = log }) port body)

-- The moves of the game that a step of a life is. At a clock it joins the next epoch, or does nothing.
abbrev pub clock_moves : LifeId → SwitchOf → SwitchOf → Game → Game
clock_moves life before switch game =
    if before.epoch == switch.epoch then game else after_join game life switch.epoch switch.card

-- the moves of accepting, in their order, the bodies that the arrival of one lets a life accept
abbrev pub body_moves : LifeId → ℕ → ℕ → Body → SwitchOf → Game → Game
body_moves life port number body switch game =
    all_accepted life port (accepted_by number body (switch.receivings port)) switch.card switch.log game

-- The moves by a body: by one that counts, a life joins a higher epoch, and accepts each body in turn; a body of a
-- lower epoch does nothing.
abbrev pub carry_moves : LifeId → ℕ → CarryOf → SwitchOf → Game → Game
carry_moves life port carry switch game =
    if nat_lt switch.epoch carry.epoch
    then body_moves life port carry.number carry.body (joins carry.epoch switch).switch
    (after_join game life carry.epoch (joins carry.epoch switch).switch.card)
    else if carry.epoch == switch.epoch then body_moves life port carry.number carry.body switch game
    else game

-- the moves by a frame; only a body makes any
abbrev pub frame_moves : LifeId → ℕ → Frame → SwitchOf → Game → Game
frame_moves life port (Carry carry) switch game =
    if counts switch port carry.from carry.to then carry_moves life port carry switch game else game
frame_moves life port (Ack epoch from to number) switch game = game
frame_moves life port (Probe from nonce) switch game = game
frame_moves life port (Reply from to nonce) switch game = game

-- What can happen, whatever the wires do, with the game that it plays: a clock comes to one of the lives, with any
-- tick and samples; any frame that any life ever sent is passed to one of them, at any of its ports, any number of
-- times or never; and a switch that must load a table loads one, of any number. Clocks and frames come only while
-- the epochs of the switch are not spent; a switch whose epochs are spent can still load.
pub data Happens (lives : List LifeId) (earlier : Network) (earlier_game : Game)
    : Network → Game → Type 0 where
  none : Happens lives earlier earlier_game earlier earlier_game
  clocks : (network : Network) (game : Game) (life : LifeId) (now : ℕ) (samples : List Sample)
      → Happens lives earlier earlier_game network game
      → Contains lives life
      → (network.switches life).spent ≡ false
      → Happens lives earlier earlier_game
      (stepped network life (clocked now samples (network.switches life)))
      (clock_moves life (network.switches life) (clocked now samples (network.switches life)).switch game)
  hands : (network : Network) (game : Game) (life : LifeId) (port : ℕ) (frame : Frame)
      → Happens lives earlier earlier_game network game
      → Contains lives life
      → (network.switches life).spent ≡ false → 1 ≤ port → port ≤ 12 → Contains network.sent frame
      → Happens lives earlier earlier_game (stepped network life (framed port frame (network.switches life)))
      (frame_moves life port frame (network.switches life) game)
  loads : (network : Network) (game : Game) (life : LifeId) (number : ℕ)
      → Happens lives earlier earlier_game network game → Contains lives life
      → (network.switches life).load_due ≡ true
      → Happens lives earlier earlier_game
      (stepped network life (still (loaded number (network.switches life)))) (after_load game life)
