-- What a step of the switch at the far end is for what it received at one of its ports.

use Rattle.std.specs.Prelude.{◌≡◌, ◌≢◌, ◌⊎◌, ◌==◌, ◌&&◌, ◌<◌, ◌≤◌, ℕ, List, [], ◌∷◌, cond, Bool, true, false, refl}
use Rattle.std.proofs.Common.{true≢false, sym, ◌∙◌, ap, subst, inl, inr, eq-eqb}
use Rattle.an_base.specs.Values.{EndId}
use Rattle.an_base.specs.Frames.{CarryOf}
use Rattle.an_base.specs.declared.frame.Frame.TheVariants.{Carry, Ack, Probe, Reply}
use Rattle.an_base.specs.declared.port.Sample.{Sample}
use Rattle.connectivity.specs.Connections.{is_same_end}
use Rattle.ordered_link.specs.Receiving.{untouched, is_acknowledged, last, received, verdict, accepted_by}
use Rattle.epoch_core.specs.Epoch.{adds}
use Rattle.port_monitor.specs.Histories.{Replied, with_happening}
use Rattle.link_settling.proofs.Steps.{carry_greater, carry_same, clock_joins, clock_same, joins_works}
use Rattle.switch_core.specs.Switch.{SwitchOf, at_port, counts, end_at, good_peer}
use Rattle.switch_core.specs.Steps.{Step, ack_to, acks, all_added, all_pushed, answers_body, begun, clocked, framed, is_change_due, is_spent_by, joins, last_epoch, on_ack, peer_among, receives, sampled_by, still}
use Rattle.switch_core.proofs.LinkLemmas.{good_link}
use Rattle.switch_core.proofs.WindowLemmas.{all_pushed_few, on_ack_few}
use Rattle.topo_report.proofs.Members.{In, in_left, in_right}
use Rattle.net_settling.proofs.AckFrames.{ack_for, joined_end, joined_epoch}
use Rattle.net_settling.proofs.SenderSteps.{answers_only, body_begins, body_goes_on, clock_begins, clock_goes_on, greater_is, same_is}

-- it goes on in its epoch
pub record IsFarStep (u : SwitchOf) (q : ℕ) (st : Step) : Type 0 where
  pub life : st.switch.life ≡ u.life
  pub epoch : st.switch.epoch ≡ u.epoch
  pub card : st.switch.card ≡ u.card
  pub receivings : st.switch.receivings q ≡ u.receivings q

-- it joins a greater epoch, in which nothing was received
pub record IsFarJoin (u : SwitchOf) (q : ℕ) (st : Step) : Type 0 where
  pub life : st.switch.life ≡ u.life
  pub greater : u.epoch < st.switch.epoch
  pub receivings : st.switch.receivings q ≡ untouched

pub far_still : (u : SwitchOf) (q : ℕ) → IsFarStep u q (still u)
far_still u q = record { life = refl; epoch = refl; card = refl; receivings = refl }

pub far_clock : (now q : ℕ) (samples : List Sample) (u : SwitchOf) → is_spent_by u (sampled_by now samples u) ≡ false → IsFarStep u q (clocked now samples u) ⊎ IsFarJoin u q (clocked now samples u)
far_clock now q samples u works = by (is_change_due u (sampled_by now samples u)) refl
  where
    by : (b : Bool) → is_change_due u (sampled_by now samples u) ≡ b → IsFarStep u q (clocked now samples u) ⊎ IsFarJoin u q (clocked now samples u)
    by false due =
        let k = clock_goes_on now q samples u due in
        inl (record { life = k.life; epoch = k.epoch; card = k.card; receivings = (clock_same q now samples u due).receivings })
    by true due =
        let left : u.epoch ≢ last_epoch = λ e. true≢false (sym (ap (λ b. b && (u.epoch == last_epoch)) due ∙ eq-eqb u.epoch last_epoch e) ∙ works) in
        let k = clock_begins now q samples u due left in
        inr (record { life = k.life; greater = k.greater; receivings = (clock_joins q now samples u due left).receivings })

pub far_probe : (q r nonce : ℕ) (from : EndId) (u : SwitchOf) → IsFarStep u q (framed r (Probe from nonce) u)
far_probe q r nonce from u = record { life = refl; epoch = refl; card = refl; receivings = refl }

pub far_reply : (q r nonce : ℕ) (from to : EndId) (u : SwitchOf) → IsFarStep u q (framed r (Reply from to nonce) u)
far_reply q r nonce from to u = by (is_same_end to (end_at u r))
  where
    by : (b : Bool) → IsFarStep u q (cond b (still (record u { ports = with_happening r (Replied from nonce) u.ports })) (still u))
    by true = record { life = refl; epoch = refl; card = refl; receivings = refl }
    by false = far_still u q

pub far_ack : (q r epoch n : ℕ) (from to : EndId) (u : SwitchOf) → IsFarStep u q (framed r (Ack epoch from to n) u)
far_ack q r epoch n from to u = by (counts u r from to)
  where
    by : (b : Bool) → IsFarStep u q (cond b (on_ack r from epoch n u) (still u))
    by true =
        let only = (on_ack_few r epoch n from u).only in
        record {
          life = ap (λ (x : SwitchOf). x.life) only;
          epoch = ap (λ (x : SwitchOf). x.epoch) only;
          card = ap (λ (x : SwitchOf). x.card) only;
          receivings = ap (λ (x : SwitchOf). x.receivings q) only;
        }
    by false = far_still u q

-- A body of its epoch
pub record IsPresent (u : SwitchOf) (q r : ℕ) (f : CarryOf) : Type 0 where
  pub life : (framed r (Carry f) u).switch.life ≡ u.life
  pub epoch : (framed r (Carry f) u).switch.epoch ≡ u.epoch
  pub card : (framed r (Carry f) u).switch.card ≡ u.card
  pub receivings : (framed r (Carry f) u).switch.receivings q ≡ at_port r (received f.number f.body (u.receivings r)) u.receivings q

pub far_present : (u : SwitchOf) (q r : ℕ) (f : CarryOf) → counts u r f.from f.to ≡ true → f.epoch ≡ u.epoch → IsPresent u q r f
far_present u q r f counted same =
    let k = body_goes_on u.tick q r f u refl counted same in
    record { life = k.life; epoch = k.epoch; card = k.card; receivings = (carry_same q r f u counted same).receivings }

-- and one of a greater epoch
pub record IsAbove (u : SwitchOf) (q r : ℕ) (f : CarryOf) : Type 0 where
  pub life : (framed r (Carry f) u).switch.life ≡ u.life
  pub epoch : (framed r (Carry f) u).switch.epoch ≡ f.epoch
  pub links : peer_among (framed r (Carry f) u).switch.card.links q ≡ good_peer u q
  pub receivings : (framed r (Carry f) u).switch.receivings q ≡ at_port r (received f.number f.body untouched) (λ p. untouched) q

pub far_above : (u : SwitchOf) (q r : ℕ) (f : CarryOf) → 1 ≤ q → q ≤ 12 → counts u r f.from f.to ≡ true → u.epoch < f.epoch → IsAbove u q r f
far_above u q r f least most counted above =
    let k = body_begins u.tick q r f u refl counted above in
    let j = joins f.epoch u in
    record {
      life = k.0.life;
      epoch = k.1;
      links = ap (λ (x : Step). peer_among x.switch.card.links q) (greater_is r f u counted above)
          ∙ ap (λ c. peer_among c.links q) (answers_only r f.number f.from f.body j.switch).2
          ∙ ap (λ (x : SwitchOf). peer_among x.card.links q) (all_pushed_few (adds (begun f.epoch u).card []) (begun f.epoch u)).only
          ∙ good_link u q least most;
      receivings = (carry_greater q r f u counted above).receivings;
    }

-- its acknowledgement goes out
acks_in : (r k : ℕ) (peer : EndId) (f : CarryOf) (s : SwitchOf) → is_acknowledged (verdict k f.body (s.receivings r)) ≡ true → In (ack_to s r peer (last (received k f.body (s.receivings r)))) (answers_body r peer k f.body s).frames
acks_in r k peer f s is =
    in_left (ack_to s r peer (last (received k f.body (s.receivings r)))) (acks r peer k f.body s)
    (all_pushed (all_added s.card r (accepted_by k f.body (s.receivings r)) s.log) (receives r k f.body s)).frames
    (subst (λ b. In (ack_to s r peer (last (received k f.body (s.receivings r)))) (cond b (ack_to s r peer (last (received k f.body (s.receivings r))) ∷ []) [])) (sym is) (inl refl))

pub present_ack : (u : SwitchOf) (r : ℕ) (f : CarryOf) → counts u r f.from f.to ≡ true → f.epoch ≡ u.epoch → is_acknowledged (verdict f.number f.body (u.receivings r)) ≡ true → In (ack_for r f u (u.receivings r)) (framed r (Carry f) u).frames
present_ack u r f counted same is =
    subst (λ (x : Step). In (ack_for r f u (u.receivings r)) x.frames) (sym (same_is r f u counted same))
    (subst (λ e. In (record { port = r; frame = Ack e (end_at u r) f.from (last (received f.number f.body (u.receivings r))) }) (answers_body r f.from f.number f.body u).frames) (sym same) (acks_in r f.number f.from f u is))

pub above_ack : (u : SwitchOf) (r : ℕ) (f : CarryOf) → counts u r f.from f.to ≡ true → u.epoch < f.epoch → is_acknowledged (verdict f.number f.body untouched) ≡ true → In (ack_for r f u untouched) (framed r (Carry f) u).frames
above_ack u r f counted above is = subst (λ (x : Step). In (ack_for r f u untouched) x.frames) (sym (greater_is r f u counted above)) (in_right (ack_for r f u untouched) j.frames (answers_body r f.from f.number f.body j.switch).frames found)
  where
    j : Step
    j = joins f.epoch u

    new : j.switch.receivings r ≡ untouched
    new = (joins_works r f.epoch u).receivings

    found : In (ack_for r f u untouched) (answers_body r f.from f.number f.body j.switch).frames
    found =
        subst (λ x. In x (answers_body r f.from f.number f.body j.switch).frames) (λ i. record { port = r; frame = Ack (joined_epoch f.epoch u i) (joined_end f.epoch r u i) f.from (last (received f.number f.body (new i))) })
        (acks_in r f.number f.from f j.switch (ap (λ x. is_acknowledged (verdict f.number f.body x)) new ∙ is))
