use Rattle.std.proofs.Common.{ℕ, ◌≤◌, arith, Option}
use Rattle.ordered_link.specs.Sending.{Sending}
use Rattle.link_settling.specs.Directions.{Direction, Gains, Sends, Step, ticks, pushes, sends_next, sends_again, clocked, acks, passes, drops, ignores, receives, far_joins, joins, Run, rest, then_step}

-- what is asked from base on is asked from a later one on
later_gains : (base later : ℕ) (out : Option ℕ) (v w : Direction) → base ≤ later → Gains base out v w → Gains later out v w
later_gains base later out v w le g = record { carry = g.carry; carry_on = g.carry_on; put = λ late. g.put (omega (arith, le, late)) }

later_sends : (base later : ℕ) (t : Sending) (out : Option ℕ) (v w : Direction) → base ≤ later → Sends base t out v w → Sends later t out v w
later_sends base later t out v w le s = record { is = s.is; gains = later_gains base later out v w le s.gains; acks = s.acks }

later_step : (base later : ℕ) (v w : Direction) → base ≤ later → Step base v w → Step later v w
later_step base later v w le (ticks t) = ticks t
later_step base later v w le (pushes body t) = pushes body (later_sends base later _ _ v w le t)
later_step base later v w le (sends_next t) = sends_next (later_sends base later _ _ v w le t)
later_step base later v w le (sends_again k out t) = sends_again k out (later_sends base later _ _ v w le t)
later_step base later v w le (clocked t) = clocked t
later_step base later v w le (acks n t) = acks n (record { there = t.there; is = t.is; gains = later_gains base later _ v w le t.gains; ack = t.ack; ack_on = t.ack_on })
later_step base later v w le (passes t) = passes t
later_step base later v w le (drops t) = drops (record { early = let e = t.early in omega (arith, e, le); is = t.is; carry = t.carry; ack = t.ack })
later_step base later v w le (ignores t) = ignores t
later_step base later v w le (receives k body t) = receives k body (record {
  there = t.there;
  not_ahead = t.not_ahead;
  is = t.is;
  carry = t.carry;
  carry_on = t.carry_on;
  put = λ late. t.put (omega (arith, le, late));
  ack = t.ack;
  ack_on = t.ack_on;
})
later_step base later v w le (far_joins t) = far_joins t
later_step base later v w le (joins t) = joins t

pub later_run : (base later : ℕ) (u v : Direction) → base ≤ later → Run base u v → Run later u v
later_run base later u v le (rest w) = rest w
later_run base later u v le (then_step a b c run step) = then_step a b c (later_run base later a b le run) (later_step base later b c le step)
