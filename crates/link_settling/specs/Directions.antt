-- One direction of a link between two switches, with what was sent and received, and the steps that can change it.

use Rattle.std.specs.Prelude.{◌≡◌, ◌⊎◌, ◌+◌, ◌-◌, ◌≤◌, ◌<◌, ℕ, suc, List, [], ◌∷◌, slice_index_or, Option, Some, Bool, true, IsTrue}
use Rattle.an_base.specs.declared.body.Body.{Body}
use Rattle.ordered_link.specs.Sending.{Sending, unused, highest, is_outstanding, push, sent_by_push, send_next, next_to_send, send_again, acknowledge, sent_by_ack}
use Rattle.ordered_link.specs.Receiving.{Receiving, untouched, last, verdict, received, is_acknowledged}

-- The tick; how long ago an outstanding body can have gone out, 3 if the sender has handled its clock of this tick,
-- otherwise 4; the epochs of the sender and of the far end; what was sent and what was received in the sender's
-- epoch; and which bodies and acknowledgements of that epoch are under way.
pub record Direction : Type 0 where
  pub now : ℕ
  pub late : ℕ
  pub epoch : ℕ
  pub far_epoch : ℕ
  pub sending : Sending
  pub receiving : Receiving
  pub carry : ℕ → Bool
  pub ack : ℕ → Bool

-- the tick in which an outstanding body last went out
abbrev pub last_sent : Sending → ℕ → ℕ
last_sent sending number = slice_index_or sending.sent (number - sending.acked - 1) 0

-- no other bodies (or acknowledgements) come, and those under way stay
pub record Stay (old new : ℕ → Bool) : Type 0 where
  pub no_others : (each : ℕ) → IsTrue (new each) → IsTrue (old each)
  pub stay : (each : ℕ) → IsTrue (old each) → IsTrue (new each)

-- a direction with what is under way in another one
abbrev pub under_way : Direction → Direction → Direction
under_way new old = record old { carry = new.carry; ack = new.ack }

-- the body that goes out, if one does, is under way; from `base` on it is not lost
pub record Gains (base : ℕ) (out : Option ℕ) (old new : Direction) : Type 0 where
  pub carry : (each : ℕ) → IsTrue (new.carry each) → IsTrue (old.carry each) ⊎ (out ≡ Some each)
  pub carry_on : (each : ℕ) → IsTrue (old.carry each) → IsTrue (new.carry each)
  pub put : base ≤ old.now → (number : ℕ) → out ≡ Some number → IsTrue (new.carry number)

-- a tick: nothing is under way
pub record Ticked (old new : Direction) : Type 0 where
  pub before : old.late ≡ 3
  pub is : new ≡ under_way new (record old { now = suc old.now; late = 4 })
  pub carries : Stay old.carry new.carry
  pub acks : Stay old.ack new.ack
  pub no_carry : (each : ℕ) → IsTrue (old.carry each) → ⊥
  pub no_ack : (each : ℕ) → IsTrue (old.ack each) → ⊥

-- the sender's part becomes `sending`, and the body `out` goes out
pub record Sends (base : ℕ) (sending : Sending) (out : Option ℕ) (old new : Direction) : Type 0 where
  pub is : new ≡ under_way new (record old { sending = sending })
  pub gains : Gains base out old new
  pub acks : Stay old.ack new.ack

-- the sender has sent again what was due at its clock
pub record Clocked (old new : Direction) : Type 0 where
  pub is : new ≡ under_way new (record old { late = 3 })
  pub done : (number : ℕ) → old.sending.acked < number → number ≤ highest old.sending
      → old.now ≤ last_sent old.sending number + 3
  pub carries : Stay old.carry new.carry
  pub acks : Stay old.ack new.ack

-- an acknowledgement comes; afterwards it can still be under way, or no longer
pub record Acked (base number : ℕ) (old new : Direction) : Type 0 where
  pub there : IsTrue (old.ack number)
  pub is : new ≡ under_way new (record old { sending = acknowledge number old.now old.sending })
  pub gains : Gains base (sent_by_ack number old.sending) old new
  pub ack : (each : ℕ) → IsTrue (new.ack each) → IsTrue (old.ack each)
  pub ack_on : (each : ℕ) → IsTrue (old.ack each) → IsTrue (new.ack each) ⊎ (each ≡ number)

-- nothing that counts happens
pub record Passed (old new : Direction) : Type 0 where
  pub is : new ≡ under_way new old
  pub carries : Stay old.carry new.carry
  pub acks : Stay old.ack new.ack

-- before `base`, frames are lost, or come to a port that does not take them
pub record Drops (base : ℕ) (old new : Direction) : Type 0 where
  pub early : old.now < base
  pub is : new ≡ under_way new old
  pub carry : (each : ℕ) → IsTrue (new.carry each) → IsTrue (old.carry each)
  pub ack : (each : ℕ) → IsTrue (new.ack each) → IsTrue (old.ack each)

-- the far end is ahead, and ignores a body
pub record Ignored (old new : Direction) : Type 0 where
  pub ahead : old.epoch < old.far_epoch
  pub is : new ≡ under_way new old
  pub carry : (each : ℕ) → IsTrue (new.carry each) → IsTrue (old.carry each)
  pub acks : Stay old.ack new.ack

-- A body comes to the far end, whatever it says; the far end joins the sender's epoch if its own was lower.
pub record Received (base number : ℕ) (body : Body) (old new : Direction) : Type 0 where
  pub there : IsTrue (old.carry number)
  pub not_ahead : old.far_epoch ≤ old.epoch
  pub is : new ≡ under_way new (record old {
    far_epoch = old.epoch;
    receiving = received number body old.receiving;
  })
  pub carry : (each : ℕ) → IsTrue (new.carry each) → IsTrue (old.carry each)
  pub carry_on : (each : ℕ) → IsTrue (old.carry each) → IsTrue (new.carry each) ⊎ (each ≡ number)
  pub put : base ≤ old.now → is_acknowledged (verdict number body old.receiving) ≡ true
      → IsTrue (new.ack (last (received number body old.receiving)))
  pub ack : (each : ℕ) → IsTrue (new.ack each)
      → IsTrue (old.ack each) ⊎ (each ≡ last (received number body old.receiving))
  pub ack_on : (each : ℕ) → IsTrue (old.ack each) → IsTrue (new.ack each)

-- the far end joins a higher epoch by another of its links, or by a clock
pub record FarJoins (old new : Direction) : Type 0 where
  pub greater : old.far_epoch < new.far_epoch
  pub is : new ≡ under_way new (record old { far_epoch = new.far_epoch; receiving = untouched })
  pub carries : Stay old.carry new.carry
  pub ack : (each : ℕ) → IsTrue (new.ack each) → IsTrue (old.ack each)

-- the sender joins a higher epoch, of which the far end has acknowledged nothing; its first bodies go out next
pub record Joins (old new : Direction) : Type 0 where
  pub greater : old.epoch < new.epoch
  pub is : new ≡ under_way new (record old { epoch = new.epoch; sending = unused; receiving = new.receiving })
  pub behind : old.far_epoch < new.epoch → new.receiving ≡ untouched
  pub there : new.epoch ≤ old.far_epoch → new.receiving ≡ old.receiving
  pub no_carry : (each : ℕ) → IsTrue (new.carry each) → ⊥
  pub ack : (each : ℕ) → IsTrue (new.ack each) → (new.epoch ≤ old.far_epoch) × (each ≡ 0)

-- what can happen in this direction; from the tick `base` on, what goes out is not lost
pub data Step (base : ℕ) (old new : Direction) : Type 0 where
  ticks : Ticked old new → Step base old new
  pushes : (body : Body) → Sends base (push body old.now old.sending) (sent_by_push body old.sending) old new
      → Step base old new
  sends_next : Sends base (send_next old.now old.sending) (next_to_send old.sending) old new
      → Step base old new
  sends_again : (number : ℕ) → is_outstanding number old.sending ≡ true
      → Sends base (send_again number old.now old.sending) (Some number) old new → Step base old new
  clocked : Clocked old new → Step base old new
  acks : (number : ℕ) → Acked base number old new → Step base old new
  passes : Passed old new → Step base old new
  drops : Drops base old new → Step base old new
  ignores : Ignored old new → Step base old new
  receives : (number : ℕ) (body : Body) → Received base number body old new → Step base old new
  far_joins : FarJoins old new → Step base old new
  joins : Joins old new → Step base old new

-- steps one after another
pub data Run (base : ℕ) : Direction → Direction → Type 0 where
  rest : (old : Direction) → Run base old old
  then_step : (first old new : Direction) → Run base first old → Step base old new → Run base first new

-- the two lives have no session yet
pub record Starts (old : Direction) : Type 0 where
  pub sending : old.sending ≡ unused
  pub receiving : old.receiving ≡ untouched
  pub no_carry : (each : ℕ) → IsTrue (old.carry each) → ⊥
  pub no_ack : (each : ℕ) → IsTrue (old.ack each) → ⊥

-- the end of a tick: the sender has handled its clock, and nothing is under way
pub record IsStill (old : Direction) : Type 0 where
  pub late : old.late ≡ 3
  pub no_carry : (each : ℕ) → IsTrue (old.carry each) → ⊥
  pub no_ack : (each : ℕ) → IsTrue (old.ack each) → ⊥

-- the number is one of these numbers
abbrev pub IsOneOf : ℕ → List ℕ → Type 0
IsOneOf number [] = ⊥
IsOneOf number (one ∷ more) = (one ≡ number) ⊎ IsOneOf number more

-- the bodies that go out are under way; from `base` on none is lost
pub record SendsAll (base : ℕ) (numbers : List ℕ) (sending : Sending) (old new : Direction) : Type 0 where
  pub is : new ≡ under_way new (record old { sending = sending })
  pub carry : (each : ℕ) → IsTrue (new.carry each) → IsTrue (old.carry each) ⊎ IsOneOf each numbers
  pub carry_on : (each : ℕ) → IsTrue (old.carry each) → IsTrue (new.carry each)
  pub put : base ≤ old.now → (number : ℕ) → IsOneOf number numbers → IsTrue (new.carry number)
  pub acks : Stay old.ack new.ack
