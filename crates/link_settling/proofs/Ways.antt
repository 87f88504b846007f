-- What holds of a way at the end of a tick holds with each step of it.
use Rattle.std.specs.Prelude.{IsTrue}
use Rattle.std.proofs.Common.{◌≡◌, inl, inr, ℕ, suc, ◌≤◌, ◌<◌, ◌+◌, sym, ◌∙◌, subst, ⊎_elim, arith}
use Rattle.std.proofs.lemmas.Bool.{cases_lt}
use Rattle.link_settling.proofs.WayModel.{Way, UnderWay, Holds, Sender, Receiver, Epochs, Ticks, Sends, Clocked, Acked, Ignored, Received, FarJoins, Joins, Drops, Passes, passes, drops, Step, ticks, sends, clocked, acks, ignores, receives, far_joins, joins, Start, Still, Run, rest, then_step}

decided : {A : Type 0} (a b : ℕ) → ((a ≡ b → ⊥) → A) → (a ≡ b → A) → A
decided a b apart equal = ⊎_elim
    (λ (lt : a < b). apart (λ e. grind (arith, lt, e)))
    (λ (le : b ≤ a). ⊎_elim (λ (lt : b < a). apart (λ e. grind (arith, lt, e))) (λ (ge : a ≤ b). equal (grind (arith, le, ge))) (cases_lt b a))
    (cases_lt a b)

-- at the end of a tick the lowest outstanding body went out before base, or the far end is ahead
pub lowest : (base : ℕ) (v : Way) → Holds base v → ((k : ℕ) → IsTrue (v.carry k) → ⊥) → ((n : ℕ) → IsTrue (v.ack n) → ⊥)
    → v.acked < v.sent → base ≤ v.at (suc v.acked) → v.epoch < v.far_epoch
lowest base v g none nothing out since =
    ⊎_elim (λ w. absurd (none (suc v.acked) w.1)) (λ w1.
    ⊎_elim (λ w. w) (λ w2.
    ⊎_elim (λ w. absurd (let a = g.above (suc v.acked) w.1 in let l = g.low (grind (arith, w.0)) in grind (arith, a, l)))
    (λ w. absurd (nothing w.1.0 w.1.1)) w2) w1) (g.way (suc v.acked) (grind (arith)) (grind (arith, out)) since)

-- nothing is outstanding, or the far end is ahead
pub still_way : (base : ℕ) (v : Way) → Holds base v → ((k : ℕ) → IsTrue (v.carry k) → ⊥) → ((n : ℕ) → IsTrue (v.ack n) → ⊥)
    → v.late ≡ 3 → base + 3 ≤ v.now → v.acked < v.sent → v.epoch < v.far_epoch
still_way base v g none nothing late since out =
    let r = g.recent (suc v.acked) (grind (arith)) (grind (arith, out)) in
    lowest base v g none nothing out (grind (arith, r, late, since))

-- the two directions of a link at the end of a tick
pub equal_epochs : (base : ℕ) (v u : Way) → Holds base v → Holds base u
    → u.epoch ≡ v.far_epoch → v.epoch ≡ u.far_epoch → 1 ≤ v.sent → 1 ≤ u.sent
    → ((k : ℕ) → IsTrue (v.carry k) → ⊥) → ((n : ℕ) → IsTrue (v.ack n) → ⊥) → ((k : ℕ) → IsTrue (u.carry k) → ⊥) → ((n : ℕ) → IsTrue (u.ack n) → ⊥)
    → v.late ≡ 3 → u.late ≡ 3 → base + 3 ≤ v.now → base + 3 ≤ u.now
    → (v.epoch ≡ u.epoch) × (v.acked ≡ v.sent) × (u.acked ≡ u.sent)
equal_epochs base v u g h e f pv pu a b c d lv lu sv su =
    let x : v.acked < v.sent → v.epoch < v.far_epoch = still_way base v g a b lv sv in
    let y : u.acked < u.sent → u.epoch < u.far_epoch = still_way base u h c d lu su in
    let ov = g.order in
    let ou = h.order in
    let zv = g.behind in
    let zu = h.behind in
    let wv = g.low in
    let wu = h.low in
    let same : v.epoch ≡ u.epoch =
    ⊎_elim
    (λ (lt : v.epoch < u.epoch).
    let n = zu (grind (arith, lt, f)) in
    let m = wu (grind (arith, lt, f)) in
    let o = y (grind (arith, n, m, pu, ou)) in
    grind (arith, o, lt, f))
    (λ (ge : u.epoch ≤ v.epoch).
    ⊎_elim
    (λ (lt : u.epoch < v.epoch).
    let n = zv (grind (arith, lt, e)) in
    let m = wv (grind (arith, lt, e)) in
    let o = x (grind (arith, n, m, pv, ov)) in
    grind (arith, o, lt, e))
    (λ (le : v.epoch ≤ u.epoch). grind (arith, ge, le))
    (cases_lt u.epoch v.epoch))
    (cases_lt v.epoch u.epoch) in (
      same,
      ⊎_elim (λ (lt : v.acked < v.sent). let o = x lt in grind (arith, o, same, e)) (λ (ge : v.sent ≤ v.acked). grind (arith, ge, ov)) (cases_lt v.acked v.sent),
      ⊎_elim (λ (lt : u.acked < u.sent). let o = y lt in grind (arith, o, same, f)) (λ (ge : u.sent ≤ u.acked). grind (arith, ge, ou)) (cases_lt u.acked u.sent),
    )

-- what is under way stays so, where the tick, the body's last sending and the epochs stay, and nothing is lost
way_stays : (v w : Way) (j : ℕ) → w.now ≡ v.now → w.at j ≡ v.at j → Epochs v w → (IsTrue (v.carry j) → IsTrue (w.carry j))
    → (IsTrue (v.held j) → IsTrue (w.held j)) → ((n : ℕ) → IsTrue (v.ack n) → IsTrue (w.ack n)) → UnderWay v j → UnderWay w j
way_stays v w j now at epochs carry held ack way =
    let ee = epochs.epoch in
    let ef = epochs.far_epoch in
    ⊎_elim (λ x. let s = x.0 in inl (grind (arith, s, at, now), carry x.1)) (λ y.
    ⊎_elim (λ x. inr (inl (grind (arith, x, ee, ef)))) (λ y2.
    ⊎_elim (λ x. let s = x.0 in inr (inr (inl (grind (arith, s, ee, ef), held x.1))))
    (λ x. let s = x.0 in inr (inr (inr (grind (arith, s, ee, ef), (x.1.0, ack x.1.0 x.1.1, x.1.2))))) y2) y) way

-- the two ends are as they were, and nothing new is under way
record IsSteady (v w : Way) : Type 0 where
  now : v.now ≤ w.now
  sender : Sender v w
  receiver : Receiver v w
  epochs : Epochs v w
  carry : (j : ℕ) → IsTrue (w.carry j) → IsTrue (v.carry j)
  ack : (j : ℕ) → IsTrue (w.ack j) → IsTrue (v.ack j)

-- so all holds that does not ask when a body went out, nor what became of it
keeps_steady : (base : ℕ) (v w : Way) → Holds base v → IsSteady v w
    → ((j : ℕ) → v.acked < j → j ≤ v.sent → w.now ≤ v.at j + w.late) → ((j : ℕ) → v.acked < j → j ≤ v.sent → base ≤ v.at j → UnderWay w j) → Holds base w
keeps_steady base v w g t recent way =
    let ea = t.sender.acked in
    let es = t.sender.sent in
    let el = t.receiver.last in
    let ee = t.epochs.epoch in
    let ef = t.epochs.far_epoch in
    let en = t.now in
    record {
      order = let o = g.order in grind (arith, o, ea, es);
      window = let o = g.window in grind (arith, o, ea, es);
      past = λ j a b. let o = g.past j (grind (arith, a, ea)) (grind (arith, b, es)) in let i = t.sender.at j in grind (arith, o, i, en);
      recent = λ j a b. let o = recent j (grind (arith, a, ea)) (grind (arith, b, es)) in let i = t.sender.at j in grind (arith, o, i);
      behind = λ a. el ∙ g.behind (grind (arith, a, ee, ef));
      ahead = λ a. el ∙ g.ahead (grind (arith, a, ee, ef));
      low = λ a. let o = g.low (grind (arith, a, ee, ef)) in grind (arith, o, ea, el);
      high = λ a. let o = g.high (grind (arith, a, ee, ef)) in grind (arith, o, es, el);
      above = λ j a. let o = g.above j (t.receiver.held j a) in grind (arith, o, el);
      held_same = λ j a. let o = g.held_same j (t.receiver.held j a) in grind (arith, o, ee, ef);
      held_sent = λ j a. let o = g.held_sent j (t.receiver.held j a) in grind (arith, o, es);
      carried = λ j a. let o = g.carried j (t.carry j a) in grind (arith, o, es);
      answered = λ j a b. let o = g.answered j (t.ack j a) (grind (arith, b, ee, ef)) in grind (arith, o, el);
      behind_ack = λ j a. let o = g.behind_ack j (t.ack j a) in grind (arith, o, ee, ef);
      way = λ j a b c. let i = t.sender.at j in way j (grind (arith, a, ea)) (grind (arith, b, es)) (grind (arith, c, i));
    }

keeps_ticks : (base : ℕ) (v w : Way) → Holds base v → Ticks v w → Holds base w
keeps_ticks base v w g t =
    keeps_steady base v w g
    (record { now = let m = t.now in grind (arith, m); sender = t.sender; receiver = t.receiver; epochs = t.epochs; carry = t.carries.no_others; ack = t.acks.no_others })
    (λ k a b. let o = g.recent k a b in let j = t.before in let l = t.late in let m = t.now in grind (arith, o, j, l, m))
    (λ k a b c.
    let ee = t.epochs.epoch in
    let ef = t.epochs.far_epoch in
    ⊎_elim (λ x. absurd (t.no_carry k x.1)) (λ y.
    ⊎_elim (λ x. inr (inl (grind (arith, x, ee, ef)))) (λ y2.
    ⊎_elim (λ x. let s = x.0 in inr (inr (inl (grind (arith, s, ee, ef), t.receiver.held_on k x.1)))) (λ x. absurd (t.no_ack x.1.0 x.1.1)) y2) y)
    (g.way k a b c))

keeps_sends : (base k : ℕ) (v w : Way) → Holds base v → Sends base k v w → Holds base w
keeps_sends base k v w g t =
    let ea = t.acked in
    let el = t.receiver.last in
    let ee = t.epochs.epoch in
    let ef = t.epochs.far_epoch in
    let en = t.clocks.now in
    let la = t.clocks.late in
    let out = t.outstanding in
    let most = t.most in
    let grows : v.sent ≤ w.sent = ⊎_elim (λ x. grind (arith, x)) (λ x. let y = x.0 in grind (arith, y)) t.sent in
    -- a body other than k was there before
    let old : (j : ℕ) → j ≤ w.sent → (j ≡ k → ⊥) → j ≤ v.sent = λ j a n. ⊎_elim (λ x. grind (arith, a, x)) (λ x. let y = x.0 in let z = x.1 in ⊎_elim (λ (lt : v.sent < j). absurd (n (grind (arith, lt, a, y, z)))) (λ (le : j ≤ v.sent). le) (cases_lt v.sent j)) t.sent in
    record {
      order = let o = g.order in grind (arith, o, ea, grows);
      window = let o = t.window in grind (arith, o, ea);
      past = λ j a b. decided j k
          (λ n. ⊎_elim (λ x. let o = g.past j (grind (arith, a, ea)) (old j b n) in grind (arith, o, x, en)) (λ x. absurd (n x)) (t.stamps j (grind (arith, a, ea)) (old j b n)))
          (λ x. let s = subst (λ i. w.at i ≡ v.now) (sym x) t.stamp in grind (arith, s, en));
      recent = λ j a b. decided j k
          (λ n. ⊎_elim (λ x. let o = g.recent j (grind (arith, a, ea)) (old j b n) in grind (arith, o, x, en, la)) (λ x. absurd (n x)) (t.stamps j (grind (arith, a, ea)) (old j b n)))
          (λ x. let s = subst (λ i. w.at i ≡ v.now) (sym x) t.stamp in grind (arith, s, en));
      behind = λ a. el ∙ g.behind (grind (arith, a, ee, ef));
      ahead = λ a. el ∙ g.ahead (grind (arith, a, ee, ef));
      low = λ a. let o = g.low (grind (arith, a, ee, ef)) in grind (arith, o, ea, el);
      high = λ a. let o = g.high (grind (arith, a, ee, ef)) in grind (arith, o, grows, el);
      above = λ j a. let o = g.above j (t.receiver.held j a) in grind (arith, o, el);
      held_same = λ j a. let o = g.held_same j (t.receiver.held j a) in grind (arith, o, ee, ef);
      held_sent = λ j a. let o = g.held_sent j (t.receiver.held j a) in grind (arith, o, grows);
      carried = λ j a. ⊎_elim (λ x. let o = g.carried j x in grind (arith, o, grows)) (λ x. grind (arith, x, most)) (t.carry j a);
      answered = λ j a b. let o = g.answered j (t.acks.no_others j a) (grind (arith, b, ee, ef)) in grind (arith, o, el);
      behind_ack = λ j a. let o = g.behind_ack j (t.acks.no_others j a) in grind (arith, o, ee, ef);
      way = λ j a b c. decided j k
          (λ n. ⊎_elim (λ i. way_stays v w j en i t.epochs (t.carry_on j) (t.receiver.held_on j) t.acks.stay (g.way j (grind (arith, a, ea)) (old j b n) (grind (arith, c, i))))
          (λ x. absurd (n x)) (t.stamps j (grind (arith, a, ea)) (old j b n)))
          (λ x. let s = subst (λ i. w.at i ≡ v.now) (sym x) t.stamp in inl (grind (arith, s, en), subst (λ i. IsTrue (w.carry i)) (sym x) (t.put (grind (arith, s, c)))));
    }

keeps_clocked : (base : ℕ) (v w : Way) → Holds base v → Clocked v w → Holds base w
keeps_clocked base v w g t =
    keeps_steady base v w g
    (record { now = let m = t.now in grind (arith, m); sender = t.sender; receiver = t.receiver; epochs = t.epochs; carry = t.carries.no_others; ack = t.acks.no_others })
    (λ k a b. let o = t.done k a b in let l = t.late in let m = t.now in grind (arith, o, l, m))
    (λ k a b c. way_stays v w k t.now (t.sender.at k) t.epochs (t.carries.stay k) (t.receiver.held_on k) t.acks.stay (g.way k a b c))

keeps_passes : (base : ℕ) (v w : Way) → Holds base v → Passes v w → Holds base w
keeps_passes base v w g t =
    keeps_steady base v w g
    (record { now = let m = t.clocks.now in grind (arith, m); sender = t.sender; receiver = t.receiver; epochs = t.epochs; carry = t.carries.no_others; ack = t.acks.no_others })
    (λ k a b. let o = g.recent k a b in let l = t.clocks.late in let m = t.clocks.now in grind (arith, o, l, m))
    (λ k a b c. way_stays v w k t.clocks.now (t.sender.at k) t.epochs (t.carries.stay k) (t.receiver.held_on k) t.acks.stay (g.way k a b c))

keeps_acked : (base n : ℕ) (v w : Way) → Holds base v → Acked n v w → Holds base w
keeps_acked base n v w g t =
    let es = t.sent in
    let el = t.receiver.last in
    let ee = t.epochs.epoch in
    let ef = t.epochs.far_epoch in
    let en = t.clocks.now in
    let la = t.clocks.late in
    let og = g.order in
    let grows : v.acked ≤ w.acked = ⊎_elim (λ x. let y = x.0 in let z = x.2 in grind (arith, y, z)) (λ x. let y = x.1 in grind (arith, y)) t.counts in
    record {
      order = ⊎_elim (λ x. let y = x.1 in let z = x.2 in grind (arith, y, z, es)) (λ x. let y = x.1 in grind (arith, y, og, es)) t.counts;
      window = let o = g.window in grind (arith, o, grows, es);
      past = λ k a b. let o = g.past k (grind (arith, a, grows)) (grind (arith, b, es)) in let i = t.at k a in grind (arith, o, i, en);
      recent = λ k a b. let o = g.recent k (grind (arith, a, grows)) (grind (arith, b, es)) in let i = t.at k a in grind (arith, o, i, la, en);
      behind = λ a. el ∙ g.behind (grind (arith, a, ee, ef));
      ahead = λ a. el ∙ g.ahead (grind (arith, a, ee, ef));
      low = λ a.
          let o = g.low (grind (arith, a, ee, ef)) in
          let b = g.behind_ack n t.there in
          let l = g.answered n t.there (grind (arith, a, ee, ef, b)) in
          ⊎_elim (λ x. let z = x.2 in grind (arith, z, l, el)) (λ x. let z = x.1 in grind (arith, z, o, el)) t.counts;
      high = λ a. let o = g.high (grind (arith, a, ee, ef)) in grind (arith, o, es, el);
      above = λ j a. let o = g.above j (t.receiver.held j a) in grind (arith, o, el);
      held_same = λ j a. let o = g.held_same j (t.receiver.held j a) in grind (arith, o, ee, ef);
      held_sent = λ j a. let o = g.held_sent j (t.receiver.held j a) in grind (arith, o, es);
      carried = λ j a. let o = g.carried j (t.carries.no_others j a) in grind (arith, o, es);
      answered = λ j a b. let o = g.answered j (t.ack j a) (grind (arith, b, ee, ef)) in grind (arith, o, el);
      behind_ack = λ j a. let o = g.behind_ack j (t.ack j a) in grind (arith, o, ee, ef);
      way = λ j a b c.
          let i = t.at j a in
          ⊎_elim (λ x. let s = x.0 in inl (grind (arith, s, i, en), t.carries.stay j x.1)) (λ y.
          ⊎_elim (λ x. inr (inl (grind (arith, x, ee, ef)))) (λ y2.
          ⊎_elim (λ x. let s = x.0 in inr (inr (inl (grind (arith, s, ee, ef), t.receiver.held_on j x.1))))
          (λ x.
          let s = x.0 in
          let le = x.1.2 in
          ⊎_elim (λ z. inr (inr (inr (grind (arith, s, ee, ef), (x.1.0, z, x.1.2)))))
          (λ (z : x.1.0 ≡ n).
          -- the acknowledgement covers j, so it counts, and j is not outstanding
          let l = g.answered n t.there s in
          let h = g.high (grind (arith, s)) in
          ⊎_elim (λ c2. let c3 = c2.2 in absurd (grind (arith, c3, le, z, a)))
          (λ c2. let c3 = c2.1 in ⊎_elim (λ c4. absurd (grind (arith, c4, c3, le, z, a))) (λ c4. absurd (grind (arith, c4, l, h))) c2.0) t.counts)
          (t.ack_on x.1.0 x.1.1)) y2) y)
          (g.way j (grind (arith, a, grows)) (grind (arith, b, es)) (grind (arith, c, i)));
    }

keeps_drops : (base : ℕ) (v w : Way) → Holds base v → Drops base v w → Holds base w
keeps_drops base v w g t =
    keeps_steady base v w g
    (record { now = let m = t.clocks.now in grind (arith, m); sender = t.sender; receiver = t.receiver; epochs = t.epochs; carry = t.carry; ack = t.ack })
    (λ k a b. let o = g.recent k a b in let l = t.clocks.late in let m = t.clocks.now in grind (arith, o, l, m))
    (λ k a b c. let o = g.past k a b in let early = t.early in absurd (grind (arith, o, c, early)))

keeps_ignored : (base k : ℕ) (v w : Way) → Holds base v → Ignored k v w → Holds base w
keeps_ignored base k v w g t =
    keeps_steady base v w g
    (record { now = let m = t.clocks.now in grind (arith, m); sender = t.sender; receiver = t.receiver; epochs = t.epochs; carry = t.carry; ack = t.acks.no_others })
    (λ j a b. let o = g.recent j a b in let l = t.clocks.late in let m = t.clocks.now in grind (arith, o, l, m))
    (λ j a b c. let up = t.ahead in let ee = t.epochs.epoch in let ef = t.epochs.far_epoch in inr (inl (grind (arith, up, ee, ef))))

keeps_received : (base k : ℕ) (v w : Way) → Holds base v → Received base k v w → Holds base w
keeps_received base k v w g t =
    let ea = t.sender.acked in
    let es = t.sender.sent in
    let ee = t.epoch in
    let ef = t.far_epoch in
    let en = t.clocks.now in
    let la = t.clocks.late in
    let na = t.not_ahead in
    let grows = t.grows in
    let sent : k ≤ v.sent = g.carried k t.there in
    let low = g.low na in
    let high = g.high na in
    let window = g.window in
    let in_window : k ≤ v.last + 8 = grind (arith, sent, low, window) in
    let same : w.far_epoch ≡ w.epoch = grind (arith, ee, ef) in
    -- what is accepted now is acknowledged by what goes out
    let acked : base ≤ v.now → (j : ℕ) → j ≤ w.last → UnderWay w j = λ l j a. inr (inr (inr (same, (w.last, t.put l in_window, a)))) in
    record {
      order = let o = g.order in grind (arith, o, ea, es);
      window = grind (arith, window, ea, es);
      past = λ j a b. let o = g.past j (grind (arith, a, ea)) (grind (arith, b, es)) in let i = t.sender.at j in grind (arith, o, i, en);
      recent = λ j a b. let o = g.recent j (grind (arith, a, ea)) (grind (arith, b, es)) in let i = t.sender.at j in grind (arith, o, i, la, en);
      behind = λ a. absurd (grind (arith, a, same));
      ahead = λ a. absurd (grind (arith, a, same));
      low = λ a. grind (arith, low, grows, ea);
      high = λ a. ⊎_elim (λ x. grind (arith, x, high, es)) (λ x. ⊎_elim (λ y. grind (arith, y, sent, es)) (λ y. let o = g.held_sent w.last y in grind (arith, o, es)) x) t.one;
      above = t.above;
      held_same = λ j a. same;
      held_sent = λ j a. ⊎_elim (λ x. let o = g.held_sent j x in grind (arith, o, es)) (λ x. grind (arith, x, sent, es)) (t.held j a);
      carried = λ j a. let o = g.carried j (t.carry j a) in grind (arith, o, es);
      answered = λ j a b. ⊎_elim
          (λ x. let u = g.behind_ack j x in let o = g.answered j x (grind (arith, na, u)) in grind (arith, o, grows))
          (λ x. grind (arith, x)) (t.ack j a);
      behind_ack = λ j a. grind (arith, same);
      way = λ j a b c.
          let i = t.sender.at j in let pa = g.past j (grind (arith, a, ea)) (grind (arith, b, es)) in let late_enough : base ≤ v.now = grind (arith, c, i, pa) in
          ⊎_elim (λ x.
          let s = x.0 in
          ⊎_elim (λ y. inl (grind (arith, s, i, en), y))
          (λ y. ⊎_elim (λ z. acked late_enough j (grind (arith, y, z))) (λ z. inr (inr (inl (same, subst (λ i. IsTrue (w.held i)) (sym y) z)))) (t.in_window in_window))
          (t.carry_on j x.1)) (λ y.
          ⊎_elim (λ x. absurd (grind (arith, x, na))) (λ y2.
          ⊎_elim (λ x. ⊎_elim (λ z. acked late_enough j z) (λ z. inr (inr (inl (same, z)))) (t.held_on j x.1))
          (λ x. inr (inr (inr (same, (x.1.0, t.ack_on x.1.0 x.1.1, x.1.2))))) y2) y)
          (g.way j (grind (arith, a, ea)) (grind (arith, b, es)) (grind (arith, c, i)));
    }

keeps_far_joins : (base : ℕ) (v w : Way) → Holds base v → FarJoins v w → Holds base w
keeps_far_joins base v w g t =
    let ea = t.sender.acked in
    let es = t.sender.sent in
    let ee = t.epoch in
    let ef = t.far_epoch in
    let en = t.clocks.now in
    let la = t.clocks.late in
    let el = t.last in
    record {
      order = let o = g.order in grind (arith, o, ea, es);
      window = let o = g.window in grind (arith, o, ea, es);
      past = λ j a b. let o = g.past j (grind (arith, a, ea)) (grind (arith, b, es)) in let i = t.sender.at j in grind (arith, o, i, en);
      recent = λ j a b. let o = g.recent j (grind (arith, a, ea)) (grind (arith, b, es)) in let i = t.sender.at j in grind (arith, o, i, la, en);
      behind = λ a. el;
      ahead = λ a. el;
      low = λ a. let o = g.low (grind (arith, a, ee, ef)) in let b = g.behind (grind (arith, a, ee, ef)) in grind (arith, o, b, ea);
      high = λ a. grind (arith, el);
      above = λ j a. absurd (t.held j a);
      held_same = λ j a. absurd (t.held j a);
      held_sent = λ j a. absurd (t.held j a);
      carried = λ j a. let o = g.carried j (t.carries.no_others j a) in grind (arith, o, es);
      answered = λ j a b. let o = g.behind_ack j (t.ack j a) in absurd (grind (arith, o, b, ee, ef));
      behind_ack = λ j a. let o = g.behind_ack j (t.ack j a) in grind (arith, o, ee, ef);
      way = λ j a b c.
          let i = t.sender.at j in
          ⊎_elim (λ x. let s = x.0 in inl (grind (arith, s, i, en), t.carries.stay j x.1)) (λ y.
          ⊎_elim (λ x. inr (inl (grind (arith, x, ee, ef)))) (λ y2.
          ⊎_elim (λ x. let s = x.0 in inr (inl (grind (arith, s, ee, ef)))) (λ x. let s = x.0 in inr (inl (grind (arith, s, ee, ef)))) y2) y)
          (g.way j (grind (arith, a, ea)) (grind (arith, b, es)) (grind (arith, c, i)));
    }

-- nothing was sent, and nothing counts but that the far end is not behind
nothing_sent : (base : ℕ) (w : Way) → w.acked ≡ 0 → w.sent ≡ 0 → w.last ≡ 0 → ((j : ℕ) → IsTrue (w.held j) → ⊥) → ((j : ℕ) → IsTrue (w.carry j) → ⊥)
    → ((j : ℕ) → IsTrue (w.ack j) → (w.epoch ≤ w.far_epoch) × (j ≡ 0)) → Holds base w
nothing_sent base w ea es el none_held none_under_way counted = record {
  order = grind (arith, ea);
  window = grind (arith, es);
  past = λ j a b. absurd (grind (arith, a, b, es));
  recent = λ j a b. absurd (grind (arith, a, b, es));
  behind = λ a. el;
  ahead = λ a. el;
  low = λ a. grind (arith, ea);
  high = λ a. grind (arith, el);
  above = λ j a. absurd (none_held j a);
  held_same = λ j a. absurd (none_held j a);
  held_sent = λ j a. absurd (none_held j a);
  carried = λ j a. absurd (none_under_way j a);
  answered = λ j a b. let o = (counted j a).1 in grind (arith, o);
  behind_ack = λ j a. (counted j a).0;
  way = λ j a b c. absurd (grind (arith, a, b, es));
}

keeps_joins : (base : ℕ) (v w : Way) → Holds base v → Joins v w → Holds base w
keeps_joins base v w g t =
    let ea = t.acked in
    let es = t.sent in
    let ee = t.epoch in
    let ef = t.far_epoch in
    let none : (j : ℕ) → IsTrue (w.held j) → ⊥ = λ j a. let o = g.held_same j (t.held j a) in t.none_held (grind (arith, o, ee, ef)) j a in
    -- the far end has accepted nothing yet in the epoch that the sender joins
    let empty : w.last ≡ 0 = ⊎_elim (λ x. t.nothing x) (λ (x : w.last ≡ v.last). ⊎_elim (λ (lt : w.far_epoch < w.epoch). t.nothing lt) (λ (ge : w.epoch ≤ w.far_epoch). x ∙ g.ahead (grind (arith, ge, ee, ef))) (cases_lt w.far_epoch w.epoch)) t.last in
    nothing_sent base w ea es empty none t.carry t.ack

pub keeps : (base : ℕ) (v w : Way) → Holds base v → Step base v w → Holds base w
keeps base v w g (ticks t) = keeps_ticks base v w g t
keeps base v w g (sends k t) = keeps_sends base k v w g t
keeps base v w g (clocked t) = keeps_clocked base v w g t
keeps base v w g (acks n t) = keeps_acked base n v w g t
keeps base v w g (passes t) = keeps_passes base v w g t
keeps base v w g (drops t) = keeps_drops base v w g t
keeps base v w g (ignores k t) = keeps_ignored base k v w g t
keeps base v w g (receives k t) = keeps_received base k v w g t
keeps base v w g (far_joins t) = keeps_far_joins base v w g t
keeps base v w g (joins t) = keeps_joins base v w g t

pub starts : (base : ℕ) (v : Way) → Start v → Holds base v
starts base v s = nothing_sent base v s.acked s.sent s.last s.no_held s.no_carry (λ j a. absurd (s.no_ack j a))

pub keeps_run : (base : ℕ) (u v : Way) → Start u → Run base u v → Holds base v
keeps_run base u v f (rest w) = starts base w f
keeps_run base u v f (then_step a b c r s) = keeps base b c (keeps_run base a b f r) s

pub settled_after : (base : ℕ) (v0 v u0 u : Way) → Start v0 → Start u0 → Run base v0 v → Run base u0 u
    → u.epoch ≡ v.far_epoch → v.epoch ≡ u.far_epoch → 1 ≤ v.sent → 1 ≤ u.sent → Still v → Still u → base + 3 ≤ v.now → base + 3 ≤ u.now
    → (v.epoch ≡ u.epoch) × (v.acked ≡ v.sent) × (u.acked ≡ u.sent)
settled_after base v0 v u0 u f g r s e h pv pu sv su nv nu =
    equal_epochs base v u (keeps_run base v0 v f r) (keeps_run base u0 u g s) e h pv pu sv.no_carry sv.no_ack su.no_carry su.no_ack sv.late su.late nv nu
