use Rattle.std.proofs.Common.{◌≡◌, ◌≢◌, ◌∙◌, sym, ap, refl, subst, ℕ, zero, suc, ◌-◌, ◌≤◌, ◌==◌, ◌&&◌, arith, List, [], ◌∷◌, ◌++◌, append_assoc, append-nil, map, slice_get, Option, Some, None, is_some, Bool, true, false, cond, inl, inr}
use Rattle.std.proofs.lemmas.Bool.{cond_both, eq-eqb, eqb-true, eqb-false, false≢true, ne_eqb}
use Rattle.std.proofs.lemmas.Option.{same_Some}
use Rattle.std.specs.List.{flat_map}
use Rattle.an_base.specs.Values.{EndId, LifeId, PeerAt}
use Rattle.an_base.specs.declared.body.Body.{Body}
use Rattle.an_base.specs.declared.frame.Frame.{Frame}
use Rattle.an_base.specs.declared.frame.Frame.TheVariants.{Carry, Ack, Probe, Reply}
use Rattle.port_monitor.specs.declared.port.Port.{Port}
use Rattle.port_monitor.specs.Ports.{reply_to, speaks}
use Rattle.port_monitor.specs.Histories.{History, externals, port_after}
use Rattle.ordered_link.specs.Sending.{Sending, acknowledge, due, due_from, is_due, is_outstanding, next_to_send, push, send_again, send_next, sent_by_ack, sent_by_push}
use Rattle.ordered_link.specs.Receiving.{Receiving, accepted_by, is_acknowledged, last, received, verdict}
use Rattle.ordered_link.specs.Session.{IsFrontOf, numbered, put_out}
use Rattle.ordered_link.proofs.SessionLemmas.{IsBody, ack_least, ack_pushed, body_front, front_itself, front_same, front_trans, next_least, push_least, push_pushed, sent_pushed}
use Rattle.epoch_core.specs.Log.{CardOf, OnPort, on_port}
use Rattle.epoch_core.specs.Epoch.{adds}
use Rattle.epoch_core.proofs.LawLemmas.{on_port-append}
use Rattle.topo_report.proofs.Members.{In}
use Rattle.switch_core.specs.Switch.{SwitchOf, at_port, end_at, port_of}
use Rattle.switch_core.specs.Steps.{Sent, Step, ack_to, acknowledges, acks, after, all_added, all_again, all_pushed, all_resent, answer_out, answers_body, begun, carried_to, fills, joins, on_ack, peer_among, probe_out, probes, probes_at, pushed, pushed_to, receives, resends_on, sends_again, sends_next, sends_on, still}
use Rattle.switch_core.specs.Going.{IsFrameOf}
use Rattle.switch_core.proofs.SessionLemmas.{at_the_port}

-- all that goes out is of the switch
abbrev pub AreSentBy : SwitchOf → List Sent → Type 0
AreSentBy s [] = Unit {0}
AreSentBy s (x ∷ xs) = IsFrameOf s x.port x.frame × AreSentBy s xs

-- the same epoch later on: more was pushed, and more was accepted
pub record IsGrown (a b : SwitchOf) : Type 0 where
  pub life : b.life ≡ a.life
  pub ports : b.ports ≡ a.ports
  pub epoch : b.epoch ≡ a.epoch
  pub card : b.card ≡ a.card
  pub pushed : (q : ℕ) → IsFrontOf (a.sendings q).pushed (b.sendings q).pushed
  pub received : (q : ℕ) → last (a.receivings q) ≤ last (b.receivings q)

pub grown_itself : (s : SwitchOf) → IsGrown s s
grown_itself s = record { life = refl; ports = refl; epoch = refl; card = refl; pushed = λ q. front_itself (s.sendings q).pushed; received = λ q. omega arith }

pub grown_trans : (a b c : SwitchOf) → IsGrown a b → IsGrown b c → IsGrown a c
grown_trans a b c g h = record {
  life = h.life ∙ g.life;
  ports = h.ports ∙ g.ports;
  epoch = h.epoch ∙ g.epoch;
  card = h.card ∙ g.card;
  pushed = λ q. front_trans (a.sendings q).pushed (b.sendings q).pushed (c.sendings q).pushed (g.pushed q) (h.pushed q);
  received = λ q. omega (arith, g.received q, h.received q);
}

-- the ports are what they were
same_port : (a b : SwitchOf) (port : ℕ) → IsGrown a b → port_of b port ≡ port_of a port
same_port a b port g =
    ap (λ (l : LifeId). port_after (record { life = l; port = port }) (b.ports port)) g.life ∙ ap (λ (h : ℕ → History). port_after (end_at a port) (h port)) g.ports

sent_grown : (a b : SwitchOf) (port : ℕ) (frame : Frame) → IsGrown a b → IsFrameOf a port frame → IsFrameOf b port frame
sent_grown a b port (Carry f) g h =
    let is : IsBody (a.sendings port).pushed f.number f.body = record { least = h.least; there = h.body } in
    let more = body_front (a.sendings port).pushed (b.sendings port).pushed f.number f.body (g.pushed port) is in
    record {
      epoch = h.epoch ∙ sym g.epoch;
      from = h.from ∙ ap (λ (l : LifeId). record { life = l; port = port }) (sym g.life);
      to = ap (λ (c : CardOf). peer_among c.links port) g.card ∙ h.to;
      least = more.least;
      body = more.there;
    }
sent_grown a b port (Ack epoch from to n) g h = record {
  epoch_is = h.epoch_is ∙ sym g.epoch;
  from_is = h.from_is ∙ ap (λ (l : LifeId). record { life = l; port = port }) (sym g.life);
  to_is = ap (λ (c : CardOf). peer_among c.links port) g.card ∙ h.to_is;
  few = omega (arith, h.few, g.received port);
}
sent_grown a b port (Probe from nonce) g h = record {
  from_is = h.from_is ∙ ap (λ (l : LifeId). record { life = l; port = port }) (sym g.life);
  asks = ap (λ (p : Port). speaks p.phase) (same_port a b port g) ∙ h.asks;
  last = h.last ∙ ap (λ (p : Port). p.far.nonce) (sym (same_port a b port g));
}
sent_grown a b port (Reply from to nonce) g h = record {
  from_is = h.from_is ∙ ap (λ (l : LifeId). record { life = l; port = port }) (sym g.life);
  answers = ap (λ (p : Port). speaks p.phase) (same_port a b port g) ∙ h.answers;
}

pub all_grown : (a b : SwitchOf) (xs : List Sent) → IsGrown a b → AreSentBy a xs → AreSentBy b xs
all_grown a b [] g h = tt
all_grown a b (x ∷ xs) g h = (sent_grown a b x.port x.frame g h.0, all_grown a b xs g h.1)

pub all_append : (s : SwitchOf) (xs ys : List Sent) → AreSentBy s xs → AreSentBy s ys → AreSentBy s (xs ++ ys)
all_append s [] ys a b = b
all_append s (x ∷ xs) ys a b = (a.0, all_append s xs ys a.1 b)

-- A step within an epoch: what goes out is of its sessions
pub record Sends (s : SwitchOf) (step : Step) : Type 0 where
  pub grown : IsGrown s step.switch
  pub frames : AreSentBy step.switch step.frames

pub sends_still : (s : SwitchOf) → Sends s (still s)
sends_still s = record { grown = grown_itself s; frames = tt }

pub sends_then : (s : SwitchOf) (first next : Step) → Sends s first → Sends first.switch next → Sends s (after first next)
sends_then s first next a b = record {
  grown = grown_trans s first.switch next.switch a.grown b.grown;
  frames = all_append next.switch first.frames next.frames (all_grown first.switch next.switch first.frames b.grown a.frames) b.frames;
}

-- one session sends on
front_at : (q port : ℕ) (t : Sending) (ts : ℕ → Sending) → IsFrontOf (ts port).pushed t.pushed → IsFrontOf (ts q).pushed (at_port port t ts q).pushed
front_at q port t ts front =
    cond_both (q == port) t (ts q) (λ (u : Sending). IsFrontOf (ts q).pushed u.pushed)
    (λ test. subst (λ (p : ℕ). IsFrontOf (ts p).pushed t.pushed) (sym (eqb-true q port test)) front) (λ _. front_itself (ts q).pushed)

put_sent : (port k : ℕ) (peer : EndId) (t : Sending) (s : SwitchOf) (o : Option Body) → peer_among s.card.links port ≡ Some peer → 1 ≤ k → slice_get t.pushed (k - 1) ≡ o
    → AreSentBy (record s { sendings = at_port port t s.sendings }) (map (carried_to s port peer) (numbered k o))
put_sent port k peer t s None linked least there = tt
put_sent port k peer t s (Some b) linked least there = (
  record {
    epoch = refl;
    from = refl;
    to = linked;
    least = least;
    body = ap (λ (u : Sending). slice_get u.pushed (k - 1)) (at_the_port port t s.sendings) ∙ there;
  },
  tt,
)

out_sent : (port : ℕ) (peer : EndId) (t : Sending) (s : SwitchOf) (number : Option ℕ) → peer_among s.card.links port ≡ Some peer → ((k : ℕ) → number ≡ Some k → 1 ≤ k)
    → AreSentBy (record s { sendings = at_port port t s.sendings }) (map (carried_to s port peer) (put_out t number))
out_sent port peer t s None linked least = tt
out_sent port peer t s (Some k) linked least = put_sent port k peer t s (slice_get t.pushed (k - 1)) linked (least k refl) refl

sends_one : (port : ℕ) (peer : EndId) (t : Sending) (s : SwitchOf) (number : Option ℕ) → peer_among s.card.links port ≡ Some peer → IsFrontOf (s.sendings port).pushed t.pushed → ((k : ℕ) → number ≡ Some k → 1 ≤ k)
    → Sends s (sends_on port peer t (put_out t number) s)
sends_one port peer t s number linked front least = record {
  grown = record { life = refl; ports = refl; epoch = refl; card = refl; pushed = λ q. front_at q port t s.sendings front; received = λ q. omega arith };
  frames = out_sent port peer t s number linked least;
}

-- a body is pushed
pushed_sends : (o : Option EndId) (x : OnPort) (s : SwitchOf) → peer_among s.card.links x.port ≡ o → Sends s (pushed_to o x s)
pushed_sends None x s linked = sends_still s
pushed_sends (Some peer) x s linked =
    let t = s.sendings x.port in
    sends_one x.port peer (push x.body s.tick t) s (sent_by_push x.body t) linked (x.body ∷ [], sym (push_pushed x.body s.tick t)) (push_least x.body t)

-- and all of these
pub all_pushed_sends : (xs : List OnPort) (s : SwitchOf) → Sends s (all_pushed xs s)
all_pushed_sends [] s = sends_still s
all_pushed_sends (x ∷ xs) s =
    sends_then s (pushed x s) (all_pushed xs (pushed x s).switch) (pushed_sends (peer_among s.card.links x.port) x s refl) (all_pushed_sends xs (pushed x s).switch)

-- joining
pub joins_sends : (epoch : ℕ) (s : SwitchOf) → Sends (begun epoch s) (joins epoch s)
joins_sends epoch s = all_pushed_sends (adds (begun epoch s).card []) (begun epoch s)

-- On a port with a link all is pushed that is for it
pub pushed_at : (b : Bool) (x : OnPort) (now q : ℕ) (t : ℕ → Sending) → b ≡ (x.port == q) → (at_port x.port (push x.body now (t x.port)) t q).pushed ≡ (t q).pushed ++ cond b (x.body ∷ []) []
pushed_at true x now q t test =
    let same : x.port ≡ q = eqb-true x.port q (sym test) in
    ap (λ c. (cond c (push x.body now (t x.port)) (t q)).pushed) (eq-eqb q x.port (sym same)) ∙ push_pushed x.body now (t x.port) ∙ ap (λ p. (t p).pushed ++ x.body ∷ []) same
pushed_at false x now q t test =
    let other : x.port ≢ q = eqb-false x.port q (sym test) in
    ap (λ c. (cond c (push x.body now (t x.port)) (t q)).pushed) (ne_eqb q x.port (λ same. other (sym same))) ∙ sym (append-nil (t q).pushed)

none_at : (b : Bool) (x : OnPort) (q : ℕ) (ls : List PeerAt) (xs : List Body) → b ≡ (x.port == q) → peer_among ls x.port ≡ None → is_some (peer_among ls q) ≡ true → xs ≡ xs ++ cond b (x.body ∷ []) []
none_at true x q ls xs test none some = absurd (false≢true (sym (ap is_some (ap (peer_among ls) (sym (eqb-true x.port q (sym test))) ∙ none)) ∙ some))
none_at false x q ls xs test none some = sym (append-nil xs)

pushed_on : (o : Option EndId) (x : OnPort) (s : SwitchOf) (q : ℕ) → peer_among s.card.links x.port ≡ o → is_some (peer_among s.card.links q) ≡ true → ((pushed_to o x s).switch.sendings q).pushed ≡ (s.sendings q).pushed ++ on_port q (x ∷ [])
pushed_on None x s q linked some = none_at (x.port == q) x q s.card.links (s.sendings q).pushed refl linked some
pushed_on (Some peer) x s q linked some = pushed_at (x.port == q) x s.tick q s.sendings refl

pushed_card : (o : Option EndId) (x : OnPort) (s : SwitchOf) → (pushed_to o x s).switch.card ≡ s.card
pushed_card None x s = refl
pushed_card (Some peer) x s = refl

pub all_pushed_on : (xs : List OnPort) (s : SwitchOf) (q : ℕ) → is_some (peer_among s.card.links q) ≡ true → ((all_pushed xs s).switch.sendings q).pushed ≡ (s.sendings q).pushed ++ on_port q xs
all_pushed_on [] s q some = sym (append-nil (s.sendings q).pushed)
all_pushed_on (x ∷ xs) s q some =
    let o = peer_among s.card.links x.port in
    all_pushed_on xs (pushed x s).switch q (ap (λ (c : CardOf). is_some (peer_among c.links q)) (pushed_card o x s) ∙ some)
    ∙ ap (λ (bodies : List Body). bodies ++ on_port q xs) (pushed_on o x s q refl some)
    ∙ append_assoc (s.sendings q).pushed (on_port q (x ∷ [])) (on_port q xs)
    ∙ ap (λ (bodies : List Body). (s.sendings q).pushed ++ bodies) (sym (on_port-append q (x ∷ []) xs))

-- waiting bodies go out
next_sends : (port : ℕ) (peer : EndId) (s : SwitchOf) → peer_among s.card.links port ≡ Some peer → Sends s (sends_next port peer s)
next_sends port peer s linked =
    let t = s.sendings port in
    sends_one port peer (send_next s.tick t) s (next_to_send t) linked (front_same t.pushed (send_next s.tick t).pushed (sent_pushed s.tick t)) (next_least t)

fills_sends : (n port : ℕ) (peer : EndId) (s : SwitchOf) → peer_among s.card.links port ≡ Some peer → Sends s (fills n port peer s)
fills_sends zero port peer s linked = sends_still s
fills_sends (suc n) port peer s linked =
    sends_then s (sends_next port peer s) (fills n port peer (sends_next port peer s).switch) (next_sends port peer s linked) (fills_sends n port peer (sends_next port peer s).switch linked)

acknowledges_sends : (port n : ℕ) (peer : EndId) (s : SwitchOf) → peer_among s.card.links port ≡ Some peer → Sends s (acknowledges port peer n s)
acknowledges_sends port n peer s linked =
    let t = s.sendings port in
    sends_one port peer (acknowledge n s.tick t) s (sent_by_ack n t) linked (front_same t.pushed (acknowledge n s.tick t).pushed (ack_pushed n s.tick t)) (ack_least n t)

pub on_ack_sends : (port epoch n : ℕ) (peer : EndId) (s : SwitchOf) → peer_among s.card.links port ≡ Some peer → Sends s (on_ack port peer epoch n s)
on_ack_sends port epoch n peer s linked =
    let first = acknowledges port peer n s in
    cond_both (epoch == s.epoch && is_outstanding n (s.sendings port)) (after first (fills 7 port peer first.switch)) (still s) (Sends s)
    (λ _. sends_then s first (fills 7 port peer first.switch) (acknowledges_sends port n peer s linked) (fills_sends 7 port peer first.switch linked))
    (λ _. sends_still s)

-- what is due is sent again
abbrev AreNumbers : List ℕ → Type 0
AreNumbers [] = Unit {0}
AreNumbers (k ∷ ks) = (1 ≤ k) × AreNumbers ks

due_numbers : (now k : ℕ) (ticks : List ℕ) → 1 ≤ k → AreNumbers (due_from now k ticks)
due_numbers now k [] least = tt
due_numbers now k (tick ∷ ticks) least =
    let rest = due_numbers now (suc k) ticks (omega arith) in
    cond_both (is_due now tick) (k ∷ due_from now (suc k) ticks) (due_from now (suc k) ticks) AreNumbers (λ _. (least, rest)) (λ _. rest)

again_sends : (l : PeerAt) (k : ℕ) (s : SwitchOf) → peer_among s.card.links l.port ≡ Some l.peer → 1 ≤ k → Sends s (sends_again l k s)
again_sends l k s linked least =
    let t = s.sendings l.port in
    sends_one l.port l.peer (send_again k s.tick t) s (Some k) linked (front_itself t.pushed) (λ j is. let e = same_Some k j is in omega (arith, e, least))

all_again_sends : (l : PeerAt) (ks : List ℕ) (s : SwitchOf) → peer_among s.card.links l.port ≡ Some l.peer → AreNumbers ks → Sends s (all_again l ks s)
all_again_sends l [] s linked least = sends_still s
all_again_sends l (k ∷ ks) s linked least =
    sends_then s (sends_again l k s) (all_again l ks (sends_again l k s).switch) (again_sends l k s linked least.0) (all_again_sends l ks (sends_again l k s).switch linked least.1)

pub all_resent_sends : (ls : List PeerAt) (s : SwitchOf) → ((l : PeerAt) → In l ls → peer_among s.card.links l.port ≡ Some l.peer) → Sends s (all_resent ls s)
all_resent_sends [] s linked = sends_still s
all_resent_sends (l ∷ ls) s linked =
    let first = all_again_sends l (due s.tick (s.sendings l.port)) s (linked l (inl refl)) (due_numbers s.tick (suc (s.sendings l.port).acked) (s.sendings l.port).sent (omega arith)) in
    sends_then s (resends_on l s) (all_resent ls (resends_on l s).switch) first
    (all_resent_sends ls (resends_on l s).switch (λ m i. ap (λ (c : CardOf). peer_among c.links m.port) first.grown.card ∙ linked m (inr i)))

-- a body comes to a session
acks_sent : (b : Bool) (port : ℕ) (peer : EndId) (r : Receiving) (s u : SwitchOf) → peer_among s.card.links port ≡ Some peer → u.life ≡ s.life → u.epoch ≡ s.epoch → u.card ≡ s.card → u.receivings port ≡ r
    → AreSentBy u (cond b (ack_to s port peer (last r) ∷ []) [])
acks_sent true port peer r s u linked life epoch card is = (
  record {
    epoch_is = sym epoch;
    from_is = ap (λ (l : LifeId). record { life = l; port = port }) (sym life);
    to_is = ap (λ (c : CardOf). peer_among c.links port) card ∙ linked;
    few = let e = ap last is in omega (arith, e);
  },
  tt,
)
acks_sent false port peer r s u linked life epoch card is = tt

pub body_sends : (port k : ℕ) (peer : EndId) (body : Body) (s : SwitchOf) → peer_among s.card.links port ≡ Some peer → last (s.receivings port) ≤ last (received k body (s.receivings port)) → Sends s (answers_body port peer k body s)
body_sends port k peer body s linked more =
    let r = s.receivings port in
    let u = receives port k body s in
    let xs = all_added s.card port (accepted_by k body r) s.log in
    let next = all_pushed_sends xs u in
    let grown : IsGrown s u = record {
      life = refl;
      ports = refl;
      epoch = refl;
      card = refl;
      pushed = λ q. front_itself (s.sendings q).pushed;
      received = λ q. cond_both (q == port) (received k body r) (s.receivings q) (λ (x : Receiving). last (s.receivings q) ≤ last x)
          (λ test. let e = ap (λ (p : ℕ). last (s.receivings p)) (eqb-true q port test) in omega (arith, e, more)) (λ _. omega arith);
    }
    in
    let answered : AreSentBy u (acks port peer k body s) = acks_sent (is_acknowledged (verdict k body r)) port peer (received k body r) s u linked refl refl refl (at_the_port port (received k body r) s.receivings) in
    record {
      grown = grown_trans s u (all_pushed xs u).switch grown next.grown;
      frames = all_append (all_pushed xs u).switch (acks port peer k body s) (all_pushed xs u).frames (all_grown u (all_pushed xs u).switch (acks port peer k body s) next.grown answered) next.frames;
    }

-- probes and replies are from this end
probe_sent : (s : SwitchOf) (port : ℕ) → AreSentBy s (probes_at s port)
probe_sent s port =
    let p = port_of s port in
    cond_both (speaks p.phase) (Some p.far.nonce) None (λ (o : Option ℕ). AreSentBy s (probe_out s port o))
    (λ asks. (record { from_is = refl; asks = asks; last = refl }, tt)) (λ _. tt)

all_probes_sent : (s : SwitchOf) (ports : List ℕ) → AreSentBy s (flat_map (probes_at s) ports)
all_probes_sent s [] = tt
all_probes_sent s (port ∷ ports) = all_append s (probes_at s port) (flat_map (probes_at s) ports) (probe_sent s port) (all_probes_sent s ports)

pub probes_sent : (s : SwitchOf) → AreSentBy s (probes s)
probes_sent s = all_probes_sent s externals

pub reply_sent : (s : SwitchOf) (port nonce : ℕ) (from : EndId) → AreSentBy s (answer_out port (reply_to (end_at s port) from nonce (port_of s port)))
reply_sent s port nonce from =
    cond_both (speaks (port_of s port).phase) (Some (Reply (end_at s port) from nonce)) None (λ (o : Option Frame). AreSentBy s (answer_out port o))
    (λ answers. (record { from_is = refl; answers = answers }, tt)) (λ _. tt)
