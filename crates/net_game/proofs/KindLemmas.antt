-- What a step of a switch leaves of its ports and its links, and which kinds of frames go out by it.

use Rattle.std.specs.Prelude.{◌≡◌, ◌⊎◌, ◌==◌, nat_lt, ℕ, suc, cond, List, [], ◌∷◌, Option, Some, None, true, refl}
use Rattle.std.specs.List.{flat_map}
use Rattle.std.proofs.Common.{sym, subst, inl, inr}
use Rattle.std.proofs.lemmas.Bool.{cond_both}
use Rattle.an_base.specs.Values.{EndId}
use Rattle.an_base.specs.Frames.{CarryOf}
use Rattle.an_base.specs.declared.body.Body.{Body}
use Rattle.an_base.specs.declared.frame.Frame.{Frame}
use Rattle.an_base.specs.declared.frame.Frame.TheVariants.{Carry, Ack, Probe, Reply}
use Rattle.an_base.specs.declared.port.Sample.{Sample}
use Rattle.connectivity.specs.Connections.{is_same_end}
use Rattle.port_monitor.specs.Ports.{speaks, probe_of}
use Rattle.port_monitor.specs.Histories.{Sampled, Replied, externals, links_after, with_happening}
use Rattle.ordered_link.specs.Receiving.{accepted_by}
use Rattle.epoch_core.specs.Epoch.{adds}
use Rattle.switch_core.specs.Switch.{SwitchOf, counts, end_at, port_of}
use Rattle.switch_core.specs.Steps.{Sent, Step, after, all_added, all_resent, answer_out, answers_body, begun, clocked, framed, goes_on, is_change_due, is_spent_by, joins, on_ack, on_carry, probe_out, probes, probes_at, receives, sample_at, sampled_by, still}
use Rattle.switch_core.proofs.WindowLemmas.{all_pushed_few, all_resent_few, on_ack_few}
use Rattle.net_game.proofs.RangedFrames.{IsSession, AreSession, session_append, all_pushed_session, on_ack_session, resent_session, body_session}
use Rattle.net_game.proofs.EachLemmas.{Each, each_append, each_map}

-- the links of its card stay, or are the good ones of these ports
abbrev pub AreCarded : SwitchOf → SwitchOf → Type 0
AreCarded u v = (v.card.links ≡ u.card.links) ⊎ (v.card.links ≡ links_after u.life v.ports)

-- a session's frame leaves life and ports
pub record IsKept (u v : SwitchOf) : Type 0 where
  pub life : v.life ≡ u.life
  pub ports : v.ports ≡ u.ports
  pub card : AreCarded u v

kept_sends : (u v w : SwitchOf) → w ≡ record v { sendings = w.sendings } → IsKept u v → IsKept u w
kept_sends u v w only k = subst (IsKept u) (sym only) (record { life = k.life; ports = k.ports; card = k.card })

kept_itself : (u : SwitchOf) → IsKept u u
kept_itself u = record { life = refl; ports = refl; card = inl refl }

pub kept_joins : (epoch : ℕ) (u : SwitchOf) → IsKept u (joins epoch u).switch
kept_joins epoch u =
    kept_sends u (begun epoch u) (joins epoch u).switch (all_pushed_few (adds (begun epoch u).card []) (begun epoch u)).only
    (record { life = refl; ports = refl; card = inr refl })

kept_body : (port k : ℕ) (peer : EndId) (body : Body) (u v : SwitchOf) → IsKept u v → IsKept u (answers_body port peer k body v).switch
kept_body port k peer body u v kept =
    let x = receives port k body v in
    kept_sends u x (answers_body port peer k body v).switch (all_pushed_few (all_added v.card port (accepted_by k body (v.receivings port)) v.log) x).only
    (record { life = kept.life; ports = kept.ports; card = kept.card })

kept_carry : (port : ℕ) (f : CarryOf) (u : SwitchOf) → IsKept u (on_carry port f u).switch
kept_carry port f u =
    cond_both (nat_lt u.epoch f.epoch) (after (joins f.epoch u) (answers_body port f.from f.number f.body (joins f.epoch u).switch)) (cond (f.epoch == u.epoch) (answers_body port f.from f.number f.body u) (still u)) (λ (st : Step). IsKept u st.switch)
    (λ _. kept_body port f.number f.from f.body u (joins f.epoch u).switch (kept_joins f.epoch u))
    (λ _. cond_both (f.epoch == u.epoch) (answers_body port f.from f.number f.body u) (still u) (λ (st : Step). IsKept u st.switch) (λ _. kept_body port f.number f.from f.body u u (kept_itself u)) (λ _. kept_itself u))

carry_session : (port : ℕ) (f : CarryOf) (u : SwitchOf) → AreSession (on_carry port f u).frames
carry_session port f u =
    let j = joins f.epoch u in
    let b = answers_body port f.from f.number f.body j.switch in
    cond_both (nat_lt u.epoch f.epoch) (after j b) (cond (f.epoch == u.epoch) (answers_body port f.from f.number f.body u) (still u)) (λ (st : Step). AreSession st.frames)
    (λ _. session_append j.frames b.frames (all_pushed_session (adds (begun f.epoch u).card []) (begun f.epoch u)) (body_session port f.number f.from f.body j.switch))
    (λ _. cond_both (f.epoch == u.epoch) (answers_body port f.from f.number f.body u) (still u) (λ (st : Step). AreSession st.frames) (λ _. body_session port f.number f.from f.body u) (λ _. tt))

-- A frame goes out for one that came: of a session, or the reply to a probe by the same port
abbrev pub Answers : SwitchOf → ℕ → Frame → Sent → Frame → Type 0
Answers u port f x (Carry g) = Unit {0}
Answers u port f x (Ack epoch from to n) = Unit {0}
Answers u port f x (Probe from nonce) = ⊥
Answers u port f x (Reply from to nonce) = (from ≡ end_at u port) × (x.port ≡ port) × (f ≡ Probe to nonce)

session_answers : (u : SwitchOf) (port : ℕ) (f : Frame) (x : Sent) (g : Frame) → IsSession x.port g → Answers u port f x g
session_answers u port f x (Carry g) is = tt
session_answers u port f x (Ack epoch from to n) is = tt
session_answers u port f x (Probe from nonce) is = absurd is
session_answers u port f x (Reply from to nonce) is = absurd is

abbrev AreAnswers : SwitchOf → ℕ → Frame → List Sent → Type 0
AreAnswers u port f xs = Each (λ x. Answers u port f x x.frame) xs

session_all : (u : SwitchOf) (port : ℕ) (f : Frame) (xs : List Sent) → AreSession xs → AreAnswers u port f xs
session_all u port f xs all = each_map (λ x. IsSession x.port x.frame) (λ x. Answers u port f x x.frame) xs (λ x is. session_answers u port f x x.frame is) all

pub framed_answers : (port : ℕ) (f : Frame) (u : SwitchOf) → Each (λ x. Answers u port f x x.frame) (framed port f u).frames
framed_answers port (Carry f) u = cond_both (counts u port f.from f.to) (on_carry port f u) (still u) (λ (st : Step). AreAnswers u port (Carry f) st.frames) (λ _. session_all u port (Carry f) (on_carry port f u).frames (carry_session port f u)) (λ _. tt)
framed_answers port (Ack epoch from to n) u = cond_both (counts u port from to) (on_ack port from epoch n u) (still u) (λ (st : Step). AreAnswers u port (Ack epoch from to n) st.frames) (λ _. session_all u port (Ack epoch from to n) (on_ack port from epoch n u).frames (on_ack_session port epoch n from u)) (λ _. tt)
framed_answers port (Probe from nonce) u =
    cond_both (speaks (port_of u port).phase) (Some (Reply (end_at u port) from nonce)) None (λ (o : Option Frame). AreAnswers u port (Probe from nonce) (answer_out port o)) (λ _. ((refl, refl, refl), tt)) (λ _. tt)
framed_answers port (Reply from to nonce) u =
    cond_both (is_same_end to (end_at u port)) (still (record u { ports = with_happening port (Replied from nonce) u.ports })) (still u) (λ (st : Step). AreAnswers u port (Reply from to nonce) st.frames) (λ _. tt) (λ _. tt)

-- What a frame leaves: life, and ports but for a reply to this end
pub record IsFramed (port : ℕ) (f : Frame) (u v : SwitchOf) : Type 0 where
  pub life : v.life ≡ u.life
  pub card : AreCarded u v
  pub ports : (v.ports ≡ u.ports)
      ⊎ ((from to : EndId) × (nonce : ℕ) × (f ≡ Reply from to nonce) × (is_same_end to (end_at u port) ≡ true) × (v.ports ≡ with_happening port (Replied from nonce) u.ports))

kept_framed : (port : ℕ) (f : Frame) (u v : SwitchOf) → IsKept u v → IsFramed port f u v
kept_framed port f u v k = record { life = k.life; card = k.card; ports = inl k.ports }

pub framed_is : (port : ℕ) (f : Frame) (u : SwitchOf) → IsFramed port f u (framed port f u).switch
framed_is port (Carry f) u = cond_both (counts u port f.from f.to) (on_carry port f u) (still u) (λ (st : Step). IsFramed port (Carry f) u st.switch) (λ _. kept_framed port (Carry f) u (on_carry port f u).switch (kept_carry port f u)) (λ _. kept_framed port (Carry f) u u (kept_itself u))
framed_is port (Ack epoch from to n) u =
    cond_both (counts u port from to) (on_ack port from epoch n u) (still u) (λ (st : Step). IsFramed port (Ack epoch from to n) u st.switch)
    (λ _. kept_framed port (Ack epoch from to n) u (on_ack port from epoch n u).switch (kept_sends u u (on_ack port from epoch n u).switch (on_ack_few port epoch n from u).only (kept_itself u)))
    (λ _. kept_framed port (Ack epoch from to n) u u (kept_itself u))
framed_is port (Probe from nonce) u = kept_framed port (Probe from nonce) u u (kept_itself u)
framed_is port (Reply from to nonce) u =
    cond_both (is_same_end to (end_at u port)) (still (record u { ports = with_happening port (Replied from nonce) u.ports })) (still u) (λ (st : Step). IsFramed port (Reply from to nonce) u st.switch)
    (λ same. record { life = refl; card = inl refl; ports = inr (from, to, nonce, refl, same, refl) })
    (λ _. kept_framed port (Reply from to nonce) u u (kept_itself u))

-- What a clock leaves: life, and ports but for the samples
pub record IsClocked (now : ℕ) (samples : List Sample) (u v : SwitchOf) : Type 0 where
  pub life : v.life ≡ u.life
  pub card : AreCarded u v
  pub ports : (q : ℕ) → v.ports q ≡ Sampled (sample_at samples q) ∷ u.ports q

clocked_sends : (now : ℕ) (samples : List Sample) (u v w : SwitchOf) → w ≡ record v { sendings = w.sendings } → IsClocked now samples u v → IsClocked now samples u w
clocked_sends now samples u v w only k = subst (IsClocked now samples u) (sym only) (record { life = k.life; card = k.card; ports = k.ports })

pub clock_is : (now : ℕ) (samples : List Sample) (u : SwitchOf) → IsClocked now samples u (clocked now samples u).switch
clock_is now samples u =
    let t = sampled_by now samples u in
    cond_both (is_spent_by u t) (still (record t { spent = true })) (after (record { switch = t; frames = probes t }) (goes_on u t)) (λ (st : Step). IsClocked now samples u st.switch)
    (λ _. record { life = refl; card = inl refl; ports = λ q. refl })
    (λ _. cond_both (is_change_due u t) (joins (suc t.epoch) t) (all_resent t.card.links t) (λ (st : Step). IsClocked now samples u st.switch)
    (λ _. clocked_sends now samples u (begun (suc t.epoch) t) (joins (suc t.epoch) t).switch (all_pushed_few (adds (begun (suc t.epoch) t).card []) (begun (suc t.epoch) t)).only
    (record { life = refl; card = inr refl; ports = λ q. refl }))
    (λ _. clocked_sends now samples u t (all_resent t.card.links t).switch (all_resent_few t.card.links t).only
    (record { life = refl; card = inl refl; ports = λ q. refl })))

-- A frame that goes out at a clock: of a session, or a probe of this life
abbrev pub Asks : SwitchOf → Frame → Type 0
Asks u (Carry g) = Unit {0}
Asks u (Ack epoch from to n) = Unit {0}
Asks u (Probe from nonce) = from.life ≡ u.life
Asks u (Reply from to nonce) = ⊥

session_asks : (u : SwitchOf) (port : ℕ) (g : Frame) → IsSession port g → Asks u g
session_asks u port (Carry g) is = tt
session_asks u port (Ack epoch from to n) is = tt
session_asks u port (Probe from nonce) is = absurd is
session_asks u port (Reply from to nonce) is = absurd is

abbrev AreAsking : SwitchOf → List Sent → Type 0
AreAsking u xs = Each (λ x. Asks u x.frame) xs

probe_asks : (u t : SwitchOf) (port : ℕ) (o : Option ℕ) → t.life ≡ u.life → AreAsking u (probe_out t port o)
probe_asks u t port None same = tt
probe_asks u t port (Some nonce) same = (same, tt)

probes_ask : (u t : SwitchOf) (ports : List ℕ) → t.life ≡ u.life → AreAsking u (flat_map (probes_at t) ports)
probes_ask u t [] same = tt
probes_ask u t (p ∷ ports) same = each_append (λ x. Asks u x.frame) (probes_at t p) (flat_map (probes_at t) ports) (probe_asks u t p (probe_of (port_of t p)) same) (probes_ask u t ports same)

goes_session : (u t : SwitchOf) → AreSession (goes_on u t).frames
goes_session u t =
    cond_both (is_change_due u t) (joins (suc t.epoch) t) (all_resent t.card.links t) (λ (st : Step). AreSession st.frames)
    (λ _. all_pushed_session (adds (begun (suc t.epoch) t).card []) (begun (suc t.epoch) t)) (λ _. resent_session t.card.links t)

pub clocked_asks : (now : ℕ) (samples : List Sample) (u : SwitchOf) → Each (λ x. Asks u x.frame) (clocked now samples u).frames
clocked_asks now samples u =
    let t = sampled_by now samples u in
    cond_both (is_spent_by u t) (still (record t { spent = true })) (after (record { switch = t; frames = probes t }) (goes_on u t)) (λ (st : Step). AreAsking u st.frames)
    (λ _. tt)
    (λ _. each_append (λ x. Asks u x.frame) (probes t) (goes_on u t).frames (probes_ask u t externals refl)
    (each_map (λ x. IsSession x.port x.frame) (λ x. Asks u x.frame) (goes_on u t).frames (λ x is. session_asks u x.port x.frame is) (goes_session u t)))
