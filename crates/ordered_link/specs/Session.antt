-- One direction of a session between a sender and a receiver, over wires that lose, repeat and reorder what
-- is put on them.

use Rattle.std.specs.Prelude.{◌≡◌, ℕ, ◌-◌, List, [], ◌∷◌, ◌++◌, slice_get, Option, Some, None, if◌then◌else◌}
use Rattle.an_base.specs.declared.body.Body.{Body}
use Rattle.ordered_link.specs.Sending.{Sending, unused, push, sent_by_push, acknowledge, sent_by_ack}
use Rattle.ordered_link.specs.Sending.{send_again, is_outstanding, next_to_send, send_next}
use Rattle.ordered_link.specs.Receiving.{Receiving, untouched, last, come, follow}

-- a body in flight, with its number
pub record Numbered : Type 0 where
  pub number : ℕ
  pub body : Body

-- the two ends, with all that was ever put on the wires: each body with its number, and the number of each
-- acknowledgement
pub record Session : Type 0 where
  pub sending : Sending
  pub receiving : Receiving
  pub bodies : List Numbered
  pub acks : List ℕ

-- nothing was sent or received
abbrev pub start : Session
start = record { sending = unused; receiving = untouched; bodies = []; acks = [] }

-- an event. More: the first waiting body is sent. Follow: the wanted body is accepted, if it is held. Answer: an
-- acknowledgement goes out. A frame that was ever sent can come at any time, any number of times, or never;
-- `which` counts from the newest, 0
pub data Event : Type 0 where
  Push : (body : Body) → (now : ℕ) → Event
  More : (now : ℕ) → Event
  Send_again : (number : ℕ) → (now : ℕ) → Event
  Body_comes : (which : ℕ) → Event
  Follow : Event
  Answer : Event
  Ack_comes : (which : ℕ) → (now : ℕ) → Event

-- this body with its number, if there is one
abbrev pub numbered : ℕ → Option Body → List Numbered
numbered number None = []
numbered number (Some body) = record { number = number; body = body } ∷ []

-- the body with this number that goes out, if one does
abbrev pub put_out : Sending → Option ℕ → List Numbered
put_out sending None = []
put_out sending (Some number) = numbered number (slice_get sending.pushed (number - 1))

-- the session after its sender became `sending`, and the body with this number, if there is one, was put on the wires
abbrev pub sends : Sending → Option ℕ → Session → Session
sends sending number session =
    record session { sending = sending; bodies = put_out sending number ++ session.bodies }

-- the session after this body comes; nothing changes if there is none
abbrev pub body_comes : Option Numbered → Session → Session
body_comes None session = session
body_comes (Some item) session = record session { receiving = come item.number item.body session.receiving }

-- the session after this acknowledgement comes; nothing changes if there is none
abbrev pub ack_comes : Option ℕ → ℕ → Session → Session
ack_comes None now session = session
ack_comes (Some number) now session =
    sends (acknowledge number now session.sending) (sent_by_ack number session.sending) session

-- the session after an event
abbrev pub happens : Event → Session → Session
happens (Push body now) session =
    sends (push body now session.sending) (sent_by_push body session.sending) session
happens (More now) session = sends (send_next now session.sending) (next_to_send session.sending) session
happens (Send_again number now) session =
    if is_outstanding number session.sending
    then sends (send_again number now session.sending) (Some number) session
    else session
happens (Body_comes which) session = body_comes (slice_get session.bodies which) session
happens Follow session = record session { receiving = follow session.receiving }
happens Answer session = record session { acks = last session.receiving ∷ session.acks }
happens (Ack_comes which now) session = ack_comes (slice_get session.acks which) now session

-- the session after a whole schedule
abbrev pub run : List Event → Session → Session
run [] session = session
run (event ∷ events) session = run events (happens event session)

-- the accepted bodies are a prefix of those pushed
abbrev pub IsFrontOf : List Body → List Body → Type 0
IsFrontOf accepted pushed = (rest : List Body) × (accepted ++ rest ≡ pushed)
