-- What is known of the far end of a link, from the probes sent there and the replies received.

use Rattle.std.specs.Prelude.{ℕ, ◌+◌, ◌==◌, ◌<◌, ◌≤◌, ◌&&◌, nat_lt, Bool, true, false, not, Option, Some, None, is_some, if◌then◌else◌}
use Rattle.std.specs.Ordering.{is_eq}
use Rattle.an_base.specs.Values.{EndId}
use Rattle.an_base.specs.Order.{end_cmp}
use Rattle.skeptic.specs.Skeptics.{SkepticOf, hold, failed, praised, cleared}
use Rattle.connectivity.specs.declared.conn.Conn.{Conn}
use Rattle.connectivity.specs.declared.conn.Conn.TheVariants.{Who, Loop, Good}

-- what is known of a far end: who it is; how often that failed; the number of the last probe, and who answered it;
-- who can become the peer, and how many probes in a row it answered; and whether the peer missed the last probe
pub record ConnectivityOf : Type 0 where
  pub me : EndId
  pub conn : Conn
  pub skeptic : SkepticOf
  pub nonce : ℕ
  pub answer : Option EndId
  pub candidate : Option EndId
  pub streak : ℕ
  pub missed : Bool

-- nothing is known of the far end of the link at end `me`
abbrev pub unknown : EndId → ConnectivityOf
unknown me = record {
  me = me;
  conn = Who;
  skeptic = record { level = 0; run = 0 };
  nonce = 0;
  answer = None;
  candidate = None;
  streak = 0;
  missed = false;
}

-- whether two ends are equal
abbrev pub is_same_end : EndId → EndId → Bool
is_same_end one other = is_eq (end_cmp one other)

-- whether an end is known, and is `end`
abbrev pub is_end : Option EndId → EndId → Bool
is_end None end = false
is_end (Some one) end = is_same_end one end

-- the state after the next probe has started, still unanswered
abbrev pub probed : ConnectivityOf → ConnectivityOf
probed known = record known { nonce = known.nonce + 1; answer = None }

-- whether a reply to probe `nonce` counts: it is the first to the last probe
abbrev pub counts : ℕ → ConnectivityOf → Bool
counts nonce known = (nonce == known.nonce) && (nat_lt 0 nonce && not (is_some known.answer))

-- the state after a reply by end `from` to probe `nonce`
abbrev pub replied : EndId → ℕ → ConnectivityOf → ConnectivityOf
replied from nonce known = if counts nonce known then record known { answer = Some from } else known

-- the state with the far end forgotten; the hold-down level and the number of the last probe stay
abbrev pub forgotten : ConnectivityOf → ConnectivityOf
forgotten known = record known { conn = Who; answer = None; candidate = None; streak = 0; missed = false }

-- the state after the peer is lost
abbrev pub doubted : ConnectivityOf → ConnectivityOf
doubted known =
    record known { conn = Who; skeptic = failed known.skeptic; candidate = None; streak = 0; missed = false }

-- what end `from` is: this switch itself, if it has its identifier, or another one
abbrev pub met : EndId → EndId → Conn
met me from = if from.life.uid == me.life.uid then Loop from else Good from

-- the number of probes in a row that end `from` has answered, if it answered the last one
abbrev pub streak_of : EndId → ConnectivityOf → ℕ
streak_of from known = if is_end known.candidate from then known.streak + 1 else 1

-- the state after end `from` has answered `streak` probes in a row: it becomes the peer if the skeptic requires
-- that many
abbrev pub asked_by : EndId → ℕ → ConnectivityOf → ConnectivityOf
asked_by from streak known =
    if streak == hold known.skeptic
    then record known {
      conn = met known.me from;
      skeptic = cleared known.skeptic;
      candidate = Some from;
      streak = streak;
      missed = false;
    }
    else record known { candidate = Some from; streak = streak }

-- the state after the last probe is judged while the peer is not known; if nobody answered it, the count restarts
abbrev pub asked : Option EndId → ConnectivityOf → ConnectivityOf
asked None known = record known { candidate = None; streak = 0 }
asked (Some from) known = asked_by from (streak_of from known) known

-- the state after the last probe is judged while `peer` is the peer: it is lost if another end answered, or if two
-- probes in a row are unanswered
abbrev pub held_by : EndId → Option EndId → ConnectivityOf → ConnectivityOf
held_by peer None known =
    if known.missed then doubted known else record known { skeptic = cleared known.skeptic; missed = true }
held_by peer (Some from) known =
    if is_same_end from peer
    then record known { skeptic = praised known.skeptic; missed = false }
    else doubted known

-- the state after the last probe is judged, by what was known before
abbrev pub judged_as : Conn → ConnectivityOf → ConnectivityOf
judged_as Who known = asked known.answer known
judged_as (Loop peer) known = held_by peer known.answer known
judged_as (Good peer) known = held_by peer known.answer known

-- the state after the last probe is judged
abbrev pub judged : ConnectivityOf → ConnectivityOf
judged known = judged_as known.conn known

-- while the peer is not known, fewer probes in a row were answered than are required; otherwise at most 128
abbrev pub IsFew : Conn → ℕ → ℕ → Type 0
IsFew Who streak hold = streak < hold
IsFew (Loop peer) streak hold = streak ≤ 128
IsFew (Good peer) streak hold = streak ≤ 128
