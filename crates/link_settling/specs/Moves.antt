-- What a switch does in one session within a step, and what always holds of the sessions.

use Rattle.std.specs.Prelude.{◌≡◌, ◌+◌, ◌==◌, ◌≤◌, ◌<◌, ℕ, All, List, [], ◌∷◌, ◌++◌, length, Option, Some, None, true, if◌then◌else◌}
use Rattle.an_base.specs.Values.{LifeId, EndId}
use Rattle.an_base.specs.declared.body.Body.{Body}
use Rattle.an_base.specs.declared.frame.Frame.{Frame}
use Rattle.an_base.specs.declared.frame.Frame.TheVariants.{Carry, Ack, Probe, Reply}
use Rattle.port_monitor.specs.Histories.{History}
use Rattle.ordered_link.specs.Sending.{Sending, unused, highest, is_outstanding, push, sent_by_push, send_next, next_to_send, send_again}
use Rattle.ordered_link.specs.Receiving.{Receiving}
use Rattle.link_settling.specs.Directions.{last_sent}
use Rattle.switch_core.specs.Switch.{SwitchOf}
use Rattle.switch_core.specs.Steps.{Sent, Step, peer_among}

-- the number of the body in a frame, if it has one
abbrev pub number_of : Frame → List ℕ
number_of (Carry carry) = carry.number ∷ []
number_of (Ack epoch from to number) = []
number_of (Probe from nonce) = []
number_of (Reply from to nonce) = []

-- the numbers of the bodies that go out by a port, in their order
abbrev pub carried_by : ℕ → List Sent → List ℕ
carried_by port [] = []
carried_by port (sent ∷ more) =
    (if sent.port == port then number_of sent.frame else []) ++ carried_by port more

abbrev pub shown : Option ℕ → List ℕ
shown None = []
shown (Some number) = number ∷ []

-- What the sender of a session does in one tick, and the numbers of the bodies that go out, in their order.
pub data Moves (now : ℕ) : Sending → List ℕ → Sending → Type 0 where
  resting : (old : Sending) → Moves now old [] old
  pushing : (body : Body) (old new : Sending) (numbers : List ℕ) → Moves now (push body now old) numbers new
      → Moves now old (shown (sent_by_push body old) ++ numbers) new
  going_on : (old new : Sending) (numbers : List ℕ) → Moves now (send_next now old) numbers new
      → Moves now old (shown (next_to_send old) ++ numbers) new
  repeating : (number : ℕ) (old new : Sending) (numbers : List ℕ) → is_outstanding number old ≡ true
      → Moves now (send_again number now old) numbers new → Moves now old (number ∷ numbers) new

-- at most eight bodies are outstanding, all of them pushed; if a body waits, at least 8 - `room` are outstanding
pub record IsFilledBut (room : ℕ) (sending : Sending) : Type 0 where
  pub within : highest sending ≤ length sending.pushed
  pub window : length sending.sent ≤ 8
  pub full : length sending.sent + room < 8 → length sending.pushed ≤ highest sending

abbrev pub IsFilled : Sending → Type 0
IsFilled sending = IsFilledBut 0 sending

-- the window of the session of each port is filled
abbrev pub AreFilled : SwitchOf → Type 0
AreFilled switch = (port : ℕ) → IsFilled (switch.sendings port)

-- What a step does in the session of `port`, with what was sent before and what is then received. If the window was
-- filled except for `had` bodies, what goes out is permitted, and the window is filled except for `has` bodies. Of
-- any other window nothing is said.
pub record WorksFrom (had has port now : ℕ) (sending : Sending) (receiving : Receiving) (step : Step)
    : Type 0 where
  pub tick : step.switch.tick ≡ now
  pub receivings : step.switch.receivings port ≡ receiving
  pub moves : IsFilledBut had sending
      → Moves now sending (carried_by port step.frames) (step.switch.sendings port)
  pub filled : IsFilledBut had sending → IsFilledBut has (step.switch.sendings port)

-- as `WorksFrom`, of the session as the switch has it before the step
abbrev pub Works : ℕ → ℕ → ℕ → SwitchOf → Step → Type 0
Works had has port switch step =
    WorksFrom had has port switch.tick (switch.sendings port) (switch.receivings port) step

-- each outstanding body last went out less than four ticks ago
abbrev pub IsFresh : ℕ → Sending → Type 0
IsFresh now sending =
    (number : ℕ) → sending.acked < number → number ≤ highest sending → now ≤ last_sent sending number + 3

-- the end that a frame says it is from
abbrev pub from_of : Frame → EndId
from_of (Carry carry) = carry.from
from_of (Ack epoch from to number) = from
from_of (Probe from nonce) = from
from_of (Reply from to nonce) = from

-- a frame says that it is from this life and from the port by which it goes out
abbrev pub IsFrom : LifeId → Sent → Type 0
IsFrom life sent = from_of sent.frame ≡ record { life = life; port = sent.port }

-- after the step of `life`, `ports` is what happened at its ports, and all that goes out is from this life, by the
-- port that it says
pub record Keeps (life : LifeId) (ports : ℕ → History) (step : Step) : Type 0 where
  pub life_is : step.switch.life ≡ life
  pub ports_are : step.switch.ports ≡ ports
  pub out : All (IsFrom life) step.frames

-- nothing was sent at a port that has no link in the present epoch
abbrev pub AreUnused : SwitchOf → Type 0
AreUnused switch =
    (port : ℕ) → peer_among switch.card.links port ≡ None → switch.sendings port ≡ unused
