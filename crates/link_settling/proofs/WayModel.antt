-- One direction of a link as numbers alone, and its steps.

use Rattle.std.specs.Prelude.{Bool, IsTrue, ◌≡◌, ℕ, suc, ◌≤◌, ◌<◌, ◌⊎◌, ◌+◌, is_some}
use Rattle.ordered_link.specs.Sending.{highest}
use Rattle.ordered_link.specs.Receiving.{Receiving, last}
use Rattle.link_settling.specs.Directions.{Direction, last_sent, Stay}

-- One direction of a link between two switches, as numbers: the tick; how long ago an outstanding body may
-- have gone out, 3 where the sender has handled its clock of this tick and else 4; the epochs of the sender
-- and of the far end; the greatest number acknowledged, the greatest sent, and in which tick each last went
-- out; the greatest number that the far end accepted, and which it holds, which is nothing where it is in a
-- lower epoch; and which bodies and acknowledgements of the sender's epoch are under way
pub record Way : Type 0 where
  pub now : ℕ
  pub late : ℕ
  pub epoch : ℕ
  pub far_epoch : ℕ
  pub acked : ℕ
  pub sent : ℕ
  pub at : ℕ → ℕ
  pub last : ℕ
  pub held : ℕ → Bool
  pub carry : ℕ → Bool
  pub ack : ℕ → Bool

-- what a step leaves where it says nothing else
pub record Clocks (v w : Way) : Type 0 where
  pub now : w.now ≡ v.now
  pub late : w.late ≡ v.late

pub record Sender (v w : Way) : Type 0 where
  pub acked : w.acked ≡ v.acked
  pub sent : w.sent ≡ v.sent
  pub at : (j : ℕ) → w.at j ≡ v.at j

pub record Receiver (v w : Way) : Type 0 where
  pub last : w.last ≡ v.last
  pub held : (j : ℕ) → IsTrue (w.held j) → IsTrue (v.held j)
  pub held_on : (j : ℕ) → IsTrue (v.held j) → IsTrue (w.held j)

pub record Epochs (v w : Way) : Type 0 where
  pub epoch : w.epoch ≡ v.epoch
  pub far_epoch : w.far_epoch ≡ v.far_epoch

-- all of these
pub record Rests (v w : Way) : Type 0 where
  pub clocks : Clocks v w
  pub sender : Sender v w
  pub receiver : Receiver v w
  pub epochs : Epochs v w

-- a tick: nothing is under way
pub record Ticks (v w : Way) : Type 0 where
  pub now : w.now ≡ suc v.now
  pub before : v.late ≡ 3
  pub late : w.late ≡ 4
  pub sender : Sender v w
  pub receiver : Receiver v w
  pub epochs : Epochs v w
  pub carries : Stay v.carry w.carry
  pub acks : Stay v.ack w.ack
  pub no_carry : (j : ℕ) → IsTrue (v.carry j) → ⊥
  pub no_ack : (j : ℕ) → IsTrue (v.ack j) → ⊥

-- the sender puts body k on the wire: for the first time, again at a clock, or since an acknowledgement gave
-- room
pub record Sends (base k : ℕ) (v w : Way) : Type 0 where
  pub clocks : Clocks v w
  pub receiver : Receiver v w
  pub epochs : Epochs v w
  pub acks : Stay v.ack w.ack
  pub acked : w.acked ≡ v.acked
  pub sent : (w.sent ≡ v.sent) ⊎ ((w.sent ≡ suc v.sent) × (k ≡ suc v.sent))
  pub outstanding : v.acked < k
  pub most : k ≤ w.sent
  pub window : w.sent ≤ v.acked + 8
  pub stamp : w.at k ≡ v.now
  pub stamps : (j : ℕ) → v.acked < j → j ≤ v.sent → (w.at j ≡ v.at j) ⊎ (j ≡ k)
  pub carry : (j : ℕ) → IsTrue (w.carry j) → IsTrue (v.carry j) ⊎ (j ≡ k)
  pub carry_on : (j : ℕ) → IsTrue (v.carry j) → IsTrue (w.carry j)
  pub put : base ≤ v.now → IsTrue (w.carry k)

-- the sender has sent again what was due: its clock is handled
pub record Clocked (v w : Way) : Type 0 where
  pub now : w.now ≡ v.now
  pub late : w.late ≡ 3
  pub done : (k : ℕ) → v.acked < k → k ≤ v.sent → v.now ≤ v.at k + 3
  pub sender : Sender v w
  pub receiver : Receiver v w
  pub epochs : Epochs v w
  pub carries : Stay v.carry w.carry
  pub acks : Stay v.ack w.ack

-- the sender handles an acknowledgement of its epoch, of which a copy may stay under way
pub record Acked (n : ℕ) (v w : Way) : Type 0 where
  pub clocks : Clocks v w
  pub receiver : Receiver v w
  pub epochs : Epochs v w
  pub carries : Stay v.carry w.carry
  pub there : IsTrue (v.ack n)
  pub sent : w.sent ≡ v.sent
  pub at : (j : ℕ) → w.acked < j → w.at j ≡ v.at j
  pub counts : ((v.acked < n) × (n ≤ v.sent) × (w.acked ≡ n))
      ⊎ (((n ≤ v.acked) ⊎ (v.sent < n)) × (w.acked ≡ v.acked))
  pub ack : (j : ℕ) → IsTrue (w.ack j) → IsTrue (v.ack j)
  pub ack_on : (j : ℕ) → IsTrue (v.ack j) → IsTrue (w.ack j) ⊎ (j ≡ n)

-- nothing that counts happens
pub record Passes (v w : Way) : Type 0 where
  pub rests : Rests v w
  pub open rests use {clocks, sender, receiver, epochs}
  pub carries : Stay v.carry w.carry
  pub acks : Stay v.ack w.ack

-- before base frames are lost, or come to a port that does not take them
pub record Drops (base : ℕ) (v w : Way) : Type 0 where
  pub early : v.now < base
  pub rests : Rests v w
  pub open rests use {clocks, sender, receiver, epochs}
  pub carry : (j : ℕ) → IsTrue (w.carry j) → IsTrue (v.carry j)
  pub ack : (j : ℕ) → IsTrue (w.ack j) → IsTrue (v.ack j)

-- the far end is ahead and ignores body k
pub record Ignored (k : ℕ) (v w : Way) : Type 0 where
  pub rests : Rests v w
  pub open rests use {clocks, sender, receiver, epochs}
  pub acks : Stay v.ack w.ack
  pub ahead : v.epoch < v.far_epoch
  pub carry : (j : ℕ) → IsTrue (w.carry j) → IsTrue (v.carry j)

-- the far end handles body k: it joins the epoch if it was behind, then accepts it, holds it or has had it
pub record Received (base k : ℕ) (v w : Way) : Type 0 where
  pub clocks : Clocks v w
  pub sender : Sender v w
  pub there : IsTrue (v.carry k)
  pub epoch : w.epoch ≡ v.epoch
  pub not_ahead : v.far_epoch ≤ v.epoch
  pub far_epoch : w.far_epoch ≡ v.epoch
  pub grows : v.last ≤ w.last
  pub one : (w.last ≡ v.last) ⊎ ((w.last ≡ k) ⊎ IsTrue (v.held w.last))
  pub in_window : k ≤ v.last + 8 → (k ≤ w.last) ⊎ IsTrue (w.held k)
  pub held_on : (j : ℕ) → IsTrue (v.held j) → (j ≤ w.last) ⊎ IsTrue (w.held j)
  pub held : (j : ℕ) → IsTrue (w.held j) → IsTrue (v.held j) ⊎ (j ≡ k)
  pub above : (j : ℕ) → IsTrue (w.held j) → w.last + 2 ≤ j
  pub carry : (j : ℕ) → IsTrue (w.carry j) → IsTrue (v.carry j)
  pub carry_on : (j : ℕ) → IsTrue (v.carry j) → IsTrue (w.carry j) ⊎ (j ≡ k)
  pub put : base ≤ v.now → k ≤ v.last + 8 → IsTrue (w.ack w.last)
  pub ack : (j : ℕ) → IsTrue (w.ack j) → IsTrue (v.ack j) ⊎ (j ≡ w.last)
  pub ack_on : (j : ℕ) → IsTrue (v.ack j) → IsTrue (w.ack j)

-- the far end joins a greater epoch by another of its links
pub record FarJoins (v w : Way) : Type 0 where
  pub clocks : Clocks v w
  pub sender : Sender v w
  pub carries : Stay v.carry w.carry
  pub epoch : w.epoch ≡ v.epoch
  pub far_epoch : v.far_epoch < w.far_epoch
  pub last : w.last ≡ 0
  pub held : (j : ℕ) → IsTrue (w.held j) → ⊥
  pub ack : (j : ℕ) → IsTrue (w.ack j) → IsTrue (v.ack j)

-- the sender joins a greater epoch; its first bodies then go out one by one
pub record Joins (v w : Way) : Type 0 where
  pub clocks : Clocks v w
  pub far_epoch : w.far_epoch ≡ v.far_epoch
  pub epoch : v.epoch < w.epoch
  pub acked : w.acked ≡ 0
  pub sent : w.sent ≡ 0
  pub last : (w.far_epoch < w.epoch) ⊎ (w.last ≡ v.last)
  pub nothing : w.far_epoch < w.epoch → w.last ≡ 0
  pub held : (j : ℕ) → IsTrue (w.held j) → IsTrue (v.held j)
  pub none_held : w.far_epoch < w.epoch → (j : ℕ) → IsTrue (w.held j) → ⊥
  pub carry : (j : ℕ) → IsTrue (w.carry j) → ⊥
  -- the far end has acknowledged no body of the new epoch
  pub ack : (j : ℕ) → IsTrue (w.ack j) → (w.epoch ≤ w.far_epoch) × (j ≡ 0)

pub data Step (base : ℕ) (v w : Way) : Type 0 where
  ticks : Ticks v w → Step base v w
  sends : (k : ℕ) → Sends base k v w → Step base v w
  clocked : Clocked v w → Step base v w
  acks : (n : ℕ) → Acked n v w → Step base v w
  passes : Passes v w → Step base v w
  drops : Drops base v w → Step base v w
  ignores : (k : ℕ) → Ignored k v w → Step base v w
  receives : (k : ℕ) → Received base k v w → Step base v w
  far_joins : FarJoins v w → Step base v w
  joins : Joins v w → Step base v w

-- a body that went out since base is under way, out of date, or held, or its acknowledgement is under way
abbrev pub UnderWay : Way → ℕ → Type 0
UnderWay v k =
    ((v.at k ≡ v.now) × IsTrue (v.carry k))
    ⊎ ((v.epoch < v.far_epoch)
    ⊎ (((v.far_epoch ≡ v.epoch) × IsTrue (v.held k))
    ⊎ ((v.far_epoch ≡ v.epoch) × ((n : ℕ) × IsTrue (v.ack n) × (k ≤ n)))))

-- what holds of a direction after any steps
pub record Holds (base : ℕ) (v : Way) : Type 0 where
  pub order : v.acked ≤ v.sent
  pub window : v.sent ≤ v.acked + 8
  pub past : (k : ℕ) → v.acked < k → k ≤ v.sent → v.at k ≤ v.now
  pub recent : (k : ℕ) → v.acked < k → k ≤ v.sent → v.now ≤ v.at k + v.late
  pub behind : v.far_epoch < v.epoch → v.last ≡ 0
  pub ahead : v.epoch < v.far_epoch → v.last ≡ 0
  pub low : v.far_epoch ≤ v.epoch → v.acked ≤ v.last
  pub high : v.far_epoch ≤ v.epoch → v.last ≤ v.sent
  pub above : (j : ℕ) → IsTrue (v.held j) → v.last + 2 ≤ j
  pub held_same : (j : ℕ) → IsTrue (v.held j) → v.far_epoch ≡ v.epoch
  pub held_sent : (j : ℕ) → IsTrue (v.held j) → j ≤ v.sent
  pub carried : (j : ℕ) → IsTrue (v.carry j) → j ≤ v.sent
  pub answered : (j : ℕ) → IsTrue (v.ack j) → v.far_epoch ≡ v.epoch → j ≤ v.last
  pub behind_ack : (j : ℕ) → IsTrue (v.ack j) → v.epoch ≤ v.far_epoch
  pub way : (k : ℕ) → v.acked < k → k ≤ v.sent → base ≤ v.at k → UnderWay v k

-- the two lives have no session yet
pub record Start (v : Way) : Type 0 where
  pub acked : v.acked ≡ 0
  pub sent : v.sent ≡ 0
  pub last : v.last ≡ 0
  pub no_held : (j : ℕ) → IsTrue (v.held j) → ⊥
  pub no_carry : (j : ℕ) → IsTrue (v.carry j) → ⊥
  pub no_ack : (j : ℕ) → IsTrue (v.ack j) → ⊥

pub data Run (base : ℕ) : Way → Way → Type 0 where
  rest : (v : Way) → Run base v v
  then_step : (u v w : Way) → Run base u v → Step base v w → Run base u w

-- the end of a tick: nothing is under way, and the sender has handled its clock
pub record Still (v : Way) : Type 0 where
  pub late : v.late ≡ 3
  pub no_carry : (j : ℕ) → IsTrue (v.carry j) → ⊥
  pub no_ack : (j : ℕ) → IsTrue (v.ack j) → ⊥

-- a direction as numbers
abbrev pub is_held : Receiving → ℕ → Bool
is_held r k = is_some (r.held k)

abbrev pub way_of : Direction → Way
way_of d = record {
  now = d.now;
  late = d.late;
  epoch = d.epoch;
  far_epoch = d.far_epoch;
  acked = d.sending.acked;
  sent = highest d.sending;
  at = last_sent d.sending;
  last = last d.receiving;
  held = is_held d.receiving;
  carry = d.carry;
  ack = d.ack;
}
