use Rattle.std.specs.Prelude.{IsTrue}
use Rattle.std.proofs.Common.{◌≡◌, ◌∙◌, ◌⊎◌, inl, inr, ⊎_elim, sym, ap, subst, refl, ℕ, ◌+◌, ◌≤◌, ◌<◌, arith, length, Option, Some, None, true, false, cond}
use Rattle.std.proofs.lemmas.Bool.{false≢true, cases_lt}
use Rattle.std.proofs.lemmas.Option.{none-some, same_Some}
use Rattle.an_base.specs.declared.body.Body.{Body}
use Rattle.common_values.proofs.TestLemmas.{by_test}
use Rattle.ordered_link.specs.Sending.{Sending, highest, is_outstanding, push, sent_by_push, send_next, next_to_send, send_again, forget}
use Rattle.ordered_link.specs.Receiving.{untouched, last, received}
use Rattle.link_settling.proofs.WayModel.{Way, Holds, is_held, way_of}
use Rattle.link_settling.proofs.WayModel as way
use Rattle.link_settling.specs.Directions.{Direction, last_sent, under_way, Gains, Ticked, Sends, Clocked, Acked, Passed, Drops, Ignored, Received, FarJoins, Joins, Step, ticks, pushes, sends_next, sends_again, clocked, acks, passes, drops, ignores, receives, far_joins, joins, Run, rest, then_step, Starts, IsStill}
use Rattle.link_settling.proofs.Ways.{keeps, starts, equal_epochs}
use Rattle.link_settling.proofs.Sendings.{SendsNone, SendsBy, next_is, push_is, again_is, forget_is, not_outstanding}
use Rattle.link_settling.proofs.Receipts.{IsTidy, received_is, is_answered}

-- what holds of a direction
pub record IsKept (base : ℕ) (d : Direction) : Type 0 where
  pub holds : Holds base (way_of d)
  pub tidy : IsTidy d.receiving

-- the parts that stay
same_sender : (v w : Direction) → w.sending ≡ v.sending → way.Sender (way_of v) (way_of w)
same_sender v w e = record { acked = ap (λ (s : Sending). s.acked) e; sent = ap highest e; at = λ j. ap (λ s. last_sent s j) e }

same_receiver : (v w : Direction) → w.receiving ≡ v.receiving → way.Receiver (way_of v) (way_of w)
same_receiver v w e = record { last = ap last e; held = λ j h. subst (λ r. IsTrue (is_held r j)) e h; held_on = λ j h. subst (λ r. IsTrue (is_held r j)) (sym e) h }

rests : (v w : Direction) → w ≡ under_way w v → way.Rests (way_of v) (way_of w)
rests v w is = record {
  clocks = record { now = ap (λ (d : Direction). d.now) is; late = ap (λ (d : Direction). d.late) is };
  sender = same_sender v w (ap (λ (d : Direction). d.sending) is);
  receiver = same_receiver v w (ap (λ (d : Direction). d.receiving) is);
  epochs = record { epoch = ap (λ (d : Direction). d.epoch) is; far_epoch = ap (λ (d : Direction). d.far_epoch) is };
}

tidy_same : (v w : Direction) → w.receiving ≡ v.receiving → IsTidy v.receiving → IsTidy w.receiving
tidy_same v w e tidy = subst IsTidy (sym e) tidy

tidy_untouched : IsTidy untouched
tidy_untouched = record { above = λ j h. absurd (false≢true h); near = λ j h. absurd (false≢true h) }

-- a body goes out, or none does
sends_way : (base : ℕ) (t : Sending) (out : Option ℕ) (v w : Direction) → SendsBy v.now out v.sending t → Sends base t out v w → way.Step base (way_of v) (way_of w)
sends_way base t out v w sends s = subst (λ x. way.Step base (way_of v) (way_of x)) (sym s.is) (elim sends [
  | inl none ↦ way.passes (record {
    rests = record {
      clocks = record { now = refl; late = refl };
      sender = record { acked = none.1.acked; sent = let a = none.1.acked in let b = ap length none.1.sent in omega (arith, a, b); at = λ j. quiet none.1 j };
      receiver = record { last = refl; held = λ j h. h; held_on = λ j h. h };
      epochs = record { epoch = refl; far_epoch = refl };
    };
    carries = record { no_others = λ j h. ⊎_elim (λ k. k) (λ e. absurd (none-some j (sym none.0 ∙ e))) (s.gains.carry j h); stay = s.gains.carry_on };
    acks = s.acks;
  })
  | inr some ↦ way.sends some.0 (record {
    clocks = record { now = refl; late = refl };
    receiver = record { last = refl; held = λ j h. h; held_on = λ j h. h };
    epochs = record { epoch = refl; far_epoch = refl };
    acks = s.acks;
    acked = some.2.acked;
    sent = some.2.sent;
    outstanding = some.2.outstanding;
    most = some.2.most;
    window = some.2.window;
    stamp = some.2.stamp;
    stamps = some.2.stamps;
    carry = λ j h. ⊎_elim (λ k. inl k) (λ e. inr (same_Some j some.0 (sym e ∙ some.1))) (s.gains.carry j h);
    carry_on = s.gains.carry_on;
    put = λ late. s.gains.put late some.0 some.1;
  })
])
  where
    quiet : SendsNone v.sending t → (j : ℕ) → last_sent t j ≡ last_sent v.sending j
    quiet n j = ap (λ a. last_sent (record t { acked = a }) j) n.acked ∙ ap (λ xs. last_sent (record v.sending { sent = xs }) j) n.sent

kept_by : (base : ℕ) (v w : Direction) → IsKept base v → way.Step base (way_of v) (way_of w) → IsTidy w.receiving → IsKept base w
kept_by base v w kept step tidy = record { holds = keeps base (way_of v) (way_of w) kept.holds step; tidy = tidy }

kept_sends : (base : ℕ) (t : Sending) (out : Option ℕ) (v w : Direction) → SendsBy v.now out v.sending t → IsKept base v → Sends base t out v w → IsKept base w
kept_sends base t out v w sends kept s = kept_by base v w kept (sends_way base t out v w sends s) (tidy_same v w (ap (λ (d : Direction). d.receiving) s.is) kept.tidy)

kept_ticks : (base : ℕ) (v w : Direction) → IsKept base v → Ticked v w → IsKept base w
kept_ticks base v w kept t = kept_by base v w kept
    (way.ticks (record {
      now = ap (λ (d : Direction). d.now) t.is;
      before = t.before;
      late = ap (λ (d : Direction). d.late) t.is;
      sender = same_sender v w (ap (λ (d : Direction). d.sending) t.is);
      receiver = same_receiver v w (ap (λ (d : Direction). d.receiving) t.is);
      epochs = record { epoch = ap (λ (d : Direction). d.epoch) t.is; far_epoch = ap (λ (d : Direction). d.far_epoch) t.is };
      carries = t.carries;
      acks = t.acks;
      no_carry = t.no_carry;
      no_ack = t.no_ack;
    }))
    (tidy_same v w (ap (λ (d : Direction). d.receiving) t.is) kept.tidy)

kept_clocked : (base : ℕ) (v w : Direction) → IsKept base v → Clocked v w → IsKept base w
kept_clocked base v w kept t = kept_by base v w kept
    (way.clocked (record {
      now = ap (λ (d : Direction). d.now) t.is;
      late = ap (λ (d : Direction). d.late) t.is;
      done = t.done;
      sender = same_sender v w (ap (λ (d : Direction). d.sending) t.is);
      receiver = same_receiver v w (ap (λ (d : Direction). d.receiving) t.is);
      epochs = record { epoch = ap (λ (d : Direction). d.epoch) t.is; far_epoch = ap (λ (d : Direction). d.far_epoch) t.is };
      carries = t.carries;
      acks = t.acks;
    }))
    (tidy_same v w (ap (λ (d : Direction). d.receiving) t.is) kept.tidy)

kept_passes : (base : ℕ) (v w : Direction) → IsKept base v → Passed v w → IsKept base w
kept_passes base v w kept t = kept_by base v w kept
    (way.passes (assumption (rests v w t.is, t)))
    (tidy_same v w (ap (λ (d : Direction). d.receiving) t.is) kept.tidy)

kept_drops : (base : ℕ) (v w : Direction) → IsKept base v → Drops base v w → IsKept base w
kept_drops base v w kept t = kept_by base v w kept
    (way.drops (assumption (rests v w t.is, t)))
    (tidy_same v w (ap (λ (d : Direction). d.receiving) t.is) kept.tidy)

kept_ignored : (base : ℕ) (v w : Direction) → IsKept base v → Ignored v w → IsKept base w
kept_ignored base v w kept t = kept_by base v w kept
    (way.ignores 0 (assumption (rests v w t.is, t)))
    (tidy_same v w (ap (λ (d : Direction). d.receiving) t.is) kept.tidy)

-- an acknowledgement that does not count changes nothing but what is under way
acked_not : (base n : ℕ) (v w : Direction) → is_outstanding n v.sending ≡ false → w ≡ record v { carry = w.carry; ack = w.ack } → Gains base None v w → Acked base n v w → way.Step base (way_of v) (way_of w)
acked_not base n v w out is gains t = way.acks n (record {
  clocks = record { now = ap (λ (d : Direction). d.now) is; late = ap (λ (d : Direction). d.late) is };
  receiver = same_receiver v w (ap (λ (d : Direction). d.receiving) is);
  epochs = record { epoch = ap (λ (d : Direction). d.epoch) is; far_epoch = ap (λ (d : Direction). d.far_epoch) is };
  carries = record { no_others = λ j h. ⊎_elim (λ k. k) (λ e. absurd (none-some j e)) (gains.carry j h); stay = gains.carry_on };
  there = t.there;
  sent = ap (λ (d : Direction). highest d.sending) is;
  at = λ j a. ap (λ (d : Direction). last_sent d.sending j) is;
  counts = inr (not_outstanding n v.sending out, ap (λ (d : Direction). d.sending.acked) is);
  ack = t.ack;
  ack_on = t.ack_on;
})

-- one that counts, and then the body that goes out
abbrev forgotten : ℕ → Direction → Direction → Direction
forgotten n v w = record v { sending = forget n v.sending; ack = w.ack }

acked_counts : (base n : ℕ) (v w : Direction) → is_outstanding n v.sending ≡ true → Acked base n v w → way.Step base (way_of v) (way_of (forgotten n v w))
acked_counts base n v w out t =
    let f = forget_is n v.sending out in
    way.acks n (record {
      clocks = record { now = refl; late = refl };
      receiver = record { last = refl; held = λ j h. h; held_on = λ j h. h };
      epochs = record { epoch = refl; far_epoch = refl };
      carries = record { no_others = λ j h. h; stay = λ j h. h };
      there = t.there;
      sent = f.sent;
      at = f.stamps;
      counts = inl (f.above, f.below, f.acked);
      ack = t.ack;
      ack_on = t.ack_on;
    })

acked_sends : (base n : ℕ) (v w : Direction) → w ≡ record v { sending = send_next v.now (forget n v.sending); carry = w.carry; ack = w.ack } → Gains base (next_to_send (forget n v.sending)) v w → Sends base (send_next v.now (forget n v.sending)) (next_to_send (forget n v.sending)) (forgotten n v w) w
acked_sends base n v w is gains = record {
  is = is;
  gains = record { carry = gains.carry; carry_on = gains.carry_on; put = gains.put };
  acks = record { no_others = λ j h. h; stay = λ j h. h };
}

kept_acked : (base n : ℕ) (v w : Direction) → IsKept base v → Acked base n v w → IsKept base w
kept_acked base n v w kept t =
    by_test (λ b. is_outstanding n v.sending ≡ b
    → w ≡ record v { sending = cond b (send_next v.now (forget n v.sending)) v.sending; carry = w.carry; ack = w.ack }
    → Gains base (cond b (next_to_send (forget n v.sending)) None) v w → IsKept base w) (is_outstanding n v.sending)
    (λ _ out is gains.
    let half = kept_by base v (forgotten n v w) kept (acked_counts base n v w out t) kept.tidy in
    kept_sends base (send_next v.now (forget n v.sending)) (next_to_send (forget n v.sending)) (forgotten n v w) w (next_is v.now (forget n v.sending)) half (acked_sends base n v w is gains))
    (λ _ out is gains. kept_by base v w kept (acked_not base n v w out is gains t) (tidy_same v w (ap (λ (d : Direction). d.receiving) is) kept.tidy))
    refl t.is t.gains

-- a body comes to the far end
kept_received : (base k : ℕ) (body : Body) (v w : Direction) → IsKept base v → Received base k body v w → IsKept base w
kept_received base k body v w kept t =
    let q = received k body v.receiving in
    let r = received_is k body v.receiving kept.tidy in
    let put : base ≤ v.now → k ≤ last v.receiving + 8 → IsTrue (w.ack (last q)) = λ late near. t.put late (is_answered k body v.receiving near) in
    subst (IsKept base) (sym t.is)
    (kept_by base v (record v { far_epoch = v.epoch; receiving = q; carry = w.carry; ack = w.ack }) kept
    (way.receives k (assumption (r, t, put))) r.tidy)

kept_far_joins : (base : ℕ) (v w : Direction) → IsKept base v → FarJoins v w → IsKept base w
kept_far_joins base v w kept t = kept_by base v w kept
    (way.far_joins (record {
      clocks = record { now = ap (λ (d : Direction). d.now) t.is; late = ap (λ (d : Direction). d.late) t.is };
      sender = same_sender v w (ap (λ (d : Direction). d.sending) t.is);
      carries = t.carries;
      epoch = ap (λ (d : Direction). d.epoch) t.is;
      far_epoch = t.greater;
      last = ap (λ (d : Direction). last d.receiving) t.is;
      held = λ j h. false≢true (subst (λ (d : Direction). IsTrue (is_held d.receiving j)) t.is h);
      ack = t.ack;
    }))
    (subst (λ (d : Direction). IsTidy d.receiving) (sym t.is) tidy_untouched)

-- the sender joins, whatever of the far end's part counts then
joins_way : (v w : Direction) → Joins v w → (w.far_epoch < w.epoch) ⊎ (last w.receiving ≡ last v.receiving) → (w.far_epoch < w.epoch → last w.receiving ≡ 0) → ((j : ℕ) → IsTrue (is_held w.receiving j) → IsTrue (is_held v.receiving j))
    → (w.far_epoch < w.epoch → (j : ℕ) → IsTrue (is_held w.receiving j) → ⊥) → way.Joins (way_of v) (way_of w)
joins_way v w t is_last nothing held none_held =
    let far = ap (λ (d : Direction). d.far_epoch) t.is in
    record {
      clocks = record { now = ap (λ (d : Direction). d.now) t.is; late = ap (λ (d : Direction). d.late) t.is };
      far_epoch = far;
      epoch = t.greater;
      acked = ap (λ (d : Direction). d.sending.acked) t.is;
      sent = ap (λ (d : Direction). highest d.sending) t.is;
      last = is_last;
      nothing = nothing;
      held = held;
      none_held = none_held;
      carry = t.no_carry;
      ack = λ j h. let a = t.ack j h in let b = a.0 in (omega (arith, b, far), a.1);
    }

kept_joins : (base : ℕ) (v w : Direction) → IsKept base v → Joins v w → IsKept base w
kept_joins base v w kept t =
    let far = ap (λ (d : Direction). d.far_epoch) t.is in
    ⊎_elim
    (λ (lower : v.far_epoch < w.epoch).
    let e = t.behind lower in
    kept_by base v w kept
    (way.joins (joins_way v w t (inl (omega (arith, far, lower))) (λ _. ap last e) (λ j h. absurd (false≢true (subst (λ r. IsTrue (is_held r j)) e h))) (λ _ j h. false≢true (subst (λ r. IsTrue (is_held r j)) e h))))
    (subst IsTidy (sym e) tidy_untouched))
    (λ (there : w.epoch ≤ v.far_epoch).
    let e = t.there there in
    let r = same_receiver v w e in
    kept_by base v w kept
    (way.joins (joins_way v w t (inr (ap last e)) (λ lower. absurd (omega (arith, lower, far, there))) r.held (λ lower j h. omega (arith, lower, far, there))))
    (tidy_same v w e kept.tidy))
    (cases_lt v.far_epoch w.epoch)

kept_step : (base : ℕ) (v w : Direction) → IsKept base v → Step base v w → IsKept base w
kept_step base v w kept (ticks t) = kept_ticks base v w kept t
kept_step base v w kept (pushes body t) = kept_sends base (push body v.now v.sending) (sent_by_push body v.sending) v w (push_is v.now body v.sending) kept t
kept_step base v w kept (sends_next t) = kept_sends base (send_next v.now v.sending) (next_to_send v.sending) v w (next_is v.now v.sending) kept t
kept_step base v w kept (sends_again k out t) = kept_sends base (send_again k v.now v.sending) (Some k) v w (inr (k, refl, again_is v.now k v.sending out kept.holds.window)) kept t
kept_step base v w kept (clocked t) = kept_clocked base v w kept t
kept_step base v w kept (acks n t) = kept_acked base n v w kept t
kept_step base v w kept (passes t) = kept_passes base v w kept t
kept_step base v w kept (drops t) = kept_drops base v w kept t
kept_step base v w kept (ignores t) = kept_ignored base v w kept t
kept_step base v w kept (receives k body t) = kept_received base k body v w kept t
kept_step base v w kept (far_joins t) = kept_far_joins base v w kept t
kept_step base v w kept (joins t) = kept_joins base v w kept t

kept_start : (base : ℕ) (v : Direction) → Starts v → IsKept base v
kept_start base v s = record {
  holds = starts base (way_of v) (record {
    acked = ap (λ (x : Sending). x.acked) s.sending;
    sent = ap highest s.sending;
    last = ap last s.receiving;
    no_held = λ j h. false≢true (subst (λ r. IsTrue (is_held r j)) s.receiving h);
    no_carry = s.no_carry;
    no_ack = s.no_ack;
  });
  tidy = subst IsTidy (sym s.receiving) tidy_untouched;
}

kept_run : (base : ℕ) (u v : Direction) → Starts u → Run base u v → IsKept base v
kept_run base u v start (rest w) = kept_start base w start
kept_run base u v start (then_step a b c run step) = kept_step base b c (kept_run base a b start run) step

-- the two directions of a link at the end of a tick
pub all_acknowledged : (base : ℕ) (v0 v u0 u : Direction) → Starts v0 → Starts u0 → Run base v0 v → Run base u0 u
    → u.epoch ≡ v.far_epoch → v.epoch ≡ u.far_epoch → 1 ≤ highest v.sending → 1 ≤ highest u.sending → IsStill v → IsStill u → base + 3 ≤ v.now → base + 3 ≤ u.now
    → (v.epoch ≡ u.epoch) × (v.sending.acked ≡ highest v.sending) × (u.sending.acked ≡ highest u.sending)
all_acknowledged base v0 v u0 u sv su rv ru e f pv pu iv iu nv nu =
    equal_epochs base (way_of v) (way_of u) (kept_run base v0 v sv rv).holds (kept_run base u0 u su ru).holds e f pv pu iv.no_carry iv.no_ack iu.no_carry iu.no_ack iv.late iu.late nv nu
