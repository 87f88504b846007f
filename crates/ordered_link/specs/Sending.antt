-- One direction of a session at its sender: the bodies that are pushed and sent, which of them are
-- acknowledged, and when one is sent again.

use Rattle.std.specs.Prelude.{◌≡◌, ℕ, suc, ◌+◌, ◌-◌, ◌<◌, ◌≤◌, ◌&&◌, nat_lt, nat_le, List, [], ◌∷◌, ◌++◌}
use Rattle.std.specs.Prelude.{length, drop, slice_index_or, slice_set, Option, Some, None, Bool, true}
use Rattle.std.specs.Prelude.{if◌then◌else◌}
use Rattle.an_base.specs.declared.body.Body.{Body}

-- the bodies pushed, the k-th of which has number k; the highest number that counts as acknowledged; and, for each
-- outstanding body, which are those after it, the tick at which it was last sent
pub record Sending : Type 0 where
  pub pushed : List Body
  pub acked : ℕ
  pub sent : List ℕ

-- nothing is pushed
abbrev pub unused : Sending
unused = record { pushed = []; acked = 0; sent = [] }

-- the highest number that was sent
abbrev pub highest : Sending → ℕ
highest sending = sending.acked + length sending.sent

-- whether body `number` was sent and is not acknowledged
abbrev pub is_outstanding : ℕ → Sending → Bool
is_outstanding number sending = nat_lt sending.acked number && nat_le number (highest sending)

-- whether a body is pushed and not yet sent
abbrev pub is_waiting : Sending → Bool
is_waiting sending = nat_lt (highest sending) (length sending.pushed)

-- whether the first waiting body can be sent now: there is one, and fewer than eight are outstanding
abbrev pub may_send : Sending → Bool
may_send sending = nat_lt (length sending.sent) 8 && is_waiting sending

-- the number of the body that is sent next, if one can be sent now
abbrev pub next_to_send : Sending → Option ℕ
next_to_send sending = if may_send sending then Some (highest sending + 1) else None

-- the sender after it has sent the next body at tick `now`, if one can be sent
abbrev pub send_next : ℕ → Sending → Sending
send_next now sending =
    if may_send sending then record sending { sent = sending.sent ++ now ∷ [] } else sending

-- the sender with `body` pushed
abbrev pub with_pushed : Body → Sending → Sending
with_pushed body sending = record sending { pushed = sending.pushed ++ body ∷ [] }

-- the sender after `body` is pushed at tick `now`; it is sent at once if fewer than eight are outstanding and none
-- waits
abbrev pub push : Body → ℕ → Sending → Sending
push body now sending =
    if is_waiting sending then with_pushed body sending else send_next now (with_pushed body sending)

-- the number of the body that is sent when `body` is pushed, if one is
abbrev pub sent_by_push : Body → Sending → Option ℕ
sent_by_push body sending = if is_waiting sending then None else next_to_send (with_pushed body sending)

-- the sender with the bodies up to `number` acknowledged
abbrev pub forget : ℕ → Sending → Sending
forget number sending = record sending { acked = number; sent = drop (number - sending.acked) sending.sent }

-- the sender after an acknowledgement, which counts if body `number` is outstanding; the first waiting one is then
-- sent
abbrev pub acknowledge : ℕ → ℕ → Sending → Sending
acknowledge number now sending =
    if is_outstanding number sending then send_next now (forget number sending) else sending

-- the number of the body that is sent when the acknowledgement comes, if one is
abbrev pub sent_by_ack : ℕ → Sending → Option ℕ
sent_by_ack number sending =
    if is_outstanding number sending then next_to_send (forget number sending) else None

-- the sender after outstanding body `number` is sent again at tick `now`
abbrev pub send_again : ℕ → ℕ → Sending → Sending
send_again number now sending =
    record sending { sent = slice_set sending.sent (number - sending.acked - 1) now }

-- the number of ticks without an acknowledgement after which an outstanding body is sent again
abbrev pub patience : ℕ
patience = 4

-- whether a body last sent at tick `tick` is due to be sent again
abbrev pub is_due : ℕ → ℕ → Bool
is_due now tick = nat_le (tick + patience) now

-- body `number` is outstanding and was last sent at least `patience` ticks before `now`
pub record IsDue (sending : Sending) (now number : ℕ) : Type 0 where
  pub outstanding : is_outstanding number sending ≡ true
  pub ticks : slice_index_or sending.sent (number - sending.acked - 1) 0 + patience ≤ now

-- the numbers that are due, in ascending order, of outstanding bodies that are numbered from `number` and were last
-- sent at these ticks
abbrev pub due_from : ℕ → ℕ → List ℕ → List ℕ
due_from now number [] = []
due_from now number (tick ∷ ticks) =
    if is_due now tick then number ∷ due_from now (suc number) ticks else due_from now (suc number) ticks

-- the numbers that are due, in ascending order
abbrev pub due : ℕ → Sending → List ℕ
due now sending = due_from now (suc sending.acked) sending.sent

-- the first of the numbers, if there is one
abbrev pub first_of : List ℕ → Option ℕ
first_of [] = None
first_of (number ∷ numbers) = Some number

-- the lowest number that is due, if one is
abbrev pub first_due : ℕ → Sending → Option ℕ
first_due now sending = first_of (due now sending)

-- what a sender keeps; it need not keep the bodies that are acknowledged
pub record SenderOf : Type 0 where
  pub acked : ℕ
  pub sent : List ℕ
  pub bodies : List Body

-- the sender keeps what remains of `sending`
pub record IsKeptOf (kept : SenderOf) (sending : Sending) : Type 0 where
  pub acked : kept.acked ≡ sending.acked
  pub sent : kept.sent ≡ sending.sent
  pub bodies : kept.bodies ≡ drop sending.acked sending.pushed
  pub within : highest sending ≤ length sending.pushed

-- body `number` is outstanding
abbrev pub IsOut : SenderOf → ℕ → Type 0
IsOut kept number = (kept.acked < number) × (number ≤ kept.acked + length kept.sent)
