-- A switch keeps within the ranges of frames.

use Rattle.std.specs.Prelude.{◌≡◌, ◌⊎◌, ◌<◌, ◌≤◌, ◌+◌, ◌^◌, ◌==◌, nat_lt, nat_le, ℕ, suc, length, map, List, [], ◌∷◌, ◌++◌, Option, Some, None, Bool, true, false, cond, refl}
use Rattle.std.proofs.Common.{true≢false, sym, ◌∙◌, subst, inl, inr, arith}
use Rattle.std.proofs.lemmas.Bool.{cond_both, eqb-false, and_cases}
use Rattle.an_base.specs.Values.{LifeId, EndId}
use Rattle.an_base.specs.Frames.{CarryOf}
use Rattle.an_base.specs.declared.body.Body.{Body}
use Rattle.an_base.specs.declared.frame.Frame.{Frame}
use Rattle.an_base.specs.declared.frame.Frame.TheVariants.{Carry, Ack, Probe, Reply}
use Rattle.an_base.specs.declared.port.Sample.{Sample}
use Rattle.an_base.specs.declared.port.Sample.TheVariants as sample
use Rattle.frame_codec.specs.Frames.{IsWithin, IsLife, IsEnd, IsLink, AreLinks, IsBody, IsCarry, IsFrame}
use Rattle.connectivity.specs.declared.conn.Conn.{Conn}
use Rattle.connectivity.specs.declared.conn.Conn.TheVariants.{Who, Loop, Good}
use Rattle.connectivity.specs.Connections as far
use Rattle.connectivity.specs.Connections.{ConnectivityOf, is_same_end}
use Rattle.skeptic.specs.Skeptics.{hold, praised, cleared}
use Rattle.port_monitor.specs.declared.port.Phase.{Phase}
use Rattle.port_monitor.specs.declared.port.Phase.TheVariants.{Dead, Checking, Host, Switch}
use Rattle.port_monitor.specs.declared.port.Port.{Port}
use Rattle.port_monitor.specs.Ports.{kept_up, sampled, replied_to, speaks, good_peer_by, link_to, links_from}
use Rattle.port_monitor.specs.Histories.{Happening, History, Sampled, Replied, port_after, with_happening, externals}
use Rattle.ordered_link.specs.Receiving.{Receiving, last, has_come, come, accept, follow, follow_with, verdict, accepted_by, received}
use Rattle.ordered_link.specs.Receiving as receiving
use Rattle.ordered_link.proofs.KeepLemmas.{verdict_keeps}
use Rattle.epoch_core.specs.Log.{Log}
use Rattle.epoch_core.specs.Epoch.{adds}
use Rattle.epoch_game.proofs.Basics.{some_same, none_some}
use Rattle.switch_core.specs.Switch.{SwitchOf, end_at, good_links, counts, port_of, ports_of, started}
use Rattle.switch_core.specs.Steps.{Step, after, all_added, all_resent, answers_body, begun, clocked, framed, goes_on, is_change_due, is_spent_by, joins, last_epoch, loaded, log_with, on_ack, on_carry, probes, receives, sampled_by, still}
use Rattle.switch_core.proofs.WindowLemmas.{all_pushed_few, all_resent_few, on_ack_few}
use Rattle.switch_game.proofs.Links.{good_card}
use Rattle.net_game.proofs.RangedBodies.{IsRangedCard, AreRanged}
use Rattle.net_game.proofs.EachLemmas.{Each, each_append, each_drop, all_from}

-- Whatever ends answered at a port are within their ranges, and so is its peer
abbrev pub IsRangedHappening : Happening → Type 0
IsRangedHappening (Sampled s) = Unit {0}
IsRangedHappening (Replied from nonce) = IsEnd from

abbrev IsRangedConn : Conn → Type 0
IsRangedConn Who = Unit {0}
IsRangedConn (Loop e) = IsEnd e
IsRangedConn (Good e) = IsEnd e

abbrev IsRangedAnswer : Option EndId → Type 0
IsRangedAnswer None = Unit {0}
IsRangedAnswer (Some e) = IsEnd e

record IsRangedFar (c : ConnectivityOf) : Type 0 where
  conn_is : IsRangedConn c.conn
  answer_is : IsRangedAnswer c.answer

asked_ranged : (o : Option EndId) (c : ConnectivityOf) → c.answer ≡ o → c.conn ≡ Who → IsRangedAnswer o → IsRangedFar (far.asked o c)
asked_ranged None c is who ok = record { conn_is = subst IsRangedConn (sym who) tt; answer_is = subst IsRangedAnswer (sym is) ok }
asked_ranged (Some q) c is who ok =
    let streak = far.streak_of q c in
    cond_both (streak == hold c.skeptic) (record c { conn = far.met c.me q; skeptic = cleared c.skeptic; candidate = Some q; streak = streak; missed = false }) (record c { candidate = Some q; streak = streak }) IsRangedFar
    (λ _. record { conn_is = cond_both (q.life.uid == c.me.life.uid) (Loop q) (Good q) IsRangedConn (λ _. ok) (λ _. ok); answer_is = subst IsRangedAnswer (sym is) ok })
    (λ _. record { conn_is = subst IsRangedConn (sym who) tt; answer_is = subst IsRangedAnswer (sym is) ok })

held_ranged : (peer : EndId) (o : Option EndId) (c : ConnectivityOf) → IsRangedFar c → IsRangedFar (far.held_by peer o c)
held_ranged peer None c ok = cond_both c.missed (far.doubted c) (record c { skeptic = cleared c.skeptic; missed = true }) IsRangedFar (λ _. record { conn_is = tt; answer_is = ok.answer_is }) (λ _. record { conn_is = ok.conn_is; answer_is = ok.answer_is })
held_ranged peer (Some q) c ok = cond_both (is_same_end q peer) (record c { skeptic = praised c.skeptic; missed = false }) (far.doubted c) IsRangedFar (λ _. record { conn_is = ok.conn_is; answer_is = ok.answer_is }) (λ _. record { conn_is = tt; answer_is = ok.answer_is })

judged_ranged : (conn : Conn) (c : ConnectivityOf) → c.conn ≡ conn → IsRangedFar c → IsRangedFar (far.judged_as conn c)
judged_ranged Who c is ok = asked_ranged c.answer c refl is ok.answer_is
judged_ranged (Loop peer) c is ok = held_ranged peer c.answer c ok
judged_ranged (Good peer) c is ok = held_ranged peer c.answer c ok

up_ranged : (phase : Phase) (is_host : Bool) (p : Port) → IsRangedFar p.far → IsRangedFar (kept_up phase is_host p).far
up_ranged Dead is_host p ok = ok
up_ranged Checking true p ok = record { conn_is = tt; answer_is = tt }
up_ranged Checking false p ok = record { conn_is = tt; answer_is = tt }
up_ranged Host is_host p ok = ok
up_ranged Switch is_host p ok = let j = judged_ranged p.far.conn p.far refl ok in record { conn_is = j.conn_is; answer_is = tt }

sampled_ranged : (s : Sample) (p : Port) → IsRangedFar p.far → IsRangedFar (sampled s p).far
sampled_ranged sample.Down p ok = record { conn_is = tt; answer_is = tt }
sampled_ranged sample.Host p ok = up_ranged p.phase true p ok
sampled_ranged sample.Switch p ok = up_ranged p.phase false p ok

replied_ranged : (from : EndId) (nonce : ℕ) (p : Port) → IsEnd from → IsRangedFar p.far → IsRangedFar (replied_to from nonce p).far
replied_ranged from nonce p is ok =
    cond_both (speaks p.phase) (record p { far = far.replied from nonce p.far }) p (λ (q : Port). IsRangedFar q.far)
    (λ _. cond_both (far.counts nonce p.far) (record p.far { answer = Some from }) p.far IsRangedFar (λ _. record { conn_is = ok.conn_is; answer_is = is }) (λ _. ok)) (λ _. ok)

port_ranged : (me : EndId) (h : History) → Each IsRangedHappening h → IsRangedFar (port_after me h).far
port_ranged me [] all = record { conn_is = tt; answer_is = tt }
port_ranged me (Sampled s ∷ h) all = sampled_ranged s (port_after me h) (port_ranged me h all.1)
port_ranged me (Replied from nonce ∷ h) all = replied_ranged from nonce (port_after me h) all.0 (port_ranged me h all.1)

peer_ranged : (phase : Phase) (conn : Conn) (e : EndId) → IsRangedConn conn → good_peer_by phase conn ≡ Some e → IsEnd e
peer_ranged Dead conn e ok is = absurd (none_some is)
peer_ranged Checking conn e ok is = absurd (none_some is)
peer_ranged Host conn e ok is = absurd (none_some is)
peer_ranged Switch Who e ok is = absurd (none_some is)
peer_ranged Switch (Loop peer) e ok is = absurd (none_some is)
peer_ranged Switch (Good peer) e ok is = subst IsEnd (some_same peer e is) ok

-- bodies that came to a session
pub record IsRangedReceiving (r : Receiving) : Type 0 where
  pub came : Each IsBody r.accepted
  pub held_are : (k : ℕ) (b : Body) → r.held k ≡ Some b → IsBody b

-- What is always so of a switch that only frames within their ranges come to
pub record IsRanged (s : SwitchOf) : Type 0 where
  pub life_is : IsLife s.life
  pub epoch_is : s.epoch < 2 ^ 64
  pub card_is : IsRangedCard s.card
  pub number_is : IsWithin 1 126 s.number
  pub log_is : AreRanged s.log
  pub receivings_are : (p : ℕ) → IsRangedReceiving (s.receivings p)
  pub ports_are : (p : ℕ) → Each IsRangedHappening (s.ports p)

no_links : AreLinks []
no_links = record { most = omega arith; each = λ k d low. absurd (omega (arith, low)); rising = λ i j d before low. absurd (omega (arith, low)) }

pub ranged_started : (life : LifeId) (epoch had : ℕ) (any : Bool) → IsLife life → epoch < 2 ^ 64 → IsWithin 1 126 had → IsRanged (started life epoch had any)
ranged_started life epoch had any is low within = record {
  life_is = is;
  epoch_is = low;
  card_is = record { me = is; proposed = within; links = no_links };
  number_is = within;
  log_is = tt;
  receivings_are = λ p. record { came = tt; held_are = λ k b e. absurd (none_some e) };
  ports_are = λ p. tt;
}

-- nothing of it is of what is sent
ranged_sends : (s t : SwitchOf) → t ≡ record s { sendings = t.sendings } → IsRanged s → IsRanged t
ranged_sends s t only ok = subst IsRanged (sym only) (assumption ok)

-- good links are within their ranges
links_few : (n : ℕ) (ps : List Port) → length (links_from n ps) ≤ length ps
links_few n [] = omega arith
links_few n (p ∷ ps) = by (good_peer_by p.phase p.far.conn) (links_few (suc n) ps)
  where
    by : (o : Option EndId) → length (links_from (suc n) ps) ≤ length ps → length (link_to n o ++ links_from (suc n) ps) ≤ length (p ∷ ps)
    by None rest = omega (arith, rest)
    by (Some e) rest = omega (arith, rest)

links_ranged : (n : ℕ) (ps : List Port) → 1 ≤ n → n + length ps ≤ 13 → Each (λ p. IsRangedFar p.far) ps → Each IsLink (links_from n ps)
links_ranged n [] least most all = tt
links_ranged n (p ∷ ps) least most all = by (good_peer_by p.phase p.far.conn) refl (links_ranged (suc n) ps (omega arith) (omega (arith, most)) all.1)
  where
    by : (o : Option EndId) → good_peer_by p.phase p.far.conn ≡ o → Each IsLink (links_from (suc n) ps) → Each IsLink (link_to n o ++ links_from (suc n) ps)
    by None is rest = rest
    by (Some e) is rest = (record { port = (least, omega (arith, most)); peer = peer_ranged p.phase p.far.conn e all.0.conn_is is }, rest)

ports_each : (s : SwitchOf) (ports : List ℕ) → IsRanged s → Each (λ p. IsRangedFar p.far) (map (port_of s) ports)
ports_each s [] ok = tt
ports_each s (p ∷ ports) ok = (port_ranged (end_at s p) (s.ports p) (ok.ports_are p), ports_each s ports ok)

good_links_ranged : (s : SwitchOf) → IsRanged s → AreLinks (good_links s)
good_links_ranged s ok = record {
  most = let few = links_few 1 (ports_of s) in omega (arith, few);
  each = all_from IsLink (good_links s) (links_ranged 1 (ports_of s) (omega arith) (omega arith) (ports_each s externals ok));
  rising = (good_card s.life s.number s refl).ports;
}

pub ranged_joins : (epoch : ℕ) (s : SwitchOf) → epoch < 2 ^ 64 → IsRanged s → IsRanged (joins epoch s).switch
ranged_joins epoch s low ok =
    ranged_sends (begun epoch s) (joins epoch s).switch (all_pushed_few (adds (begun epoch s).card []) (begun epoch s)).only (record {
      life_is = ok.life_is;
      epoch_is = low;
      card_is = record { me = ok.life_is; proposed = ok.number_is; links = good_links_ranged s ok };
      number_is = ok.number_is;
      log_is = tt;
      receivings_are = λ p. record { came = tt; held_are = λ k b e. absurd (none_some e) };
      ports_are = ok.ports_are;
    })

-- a body that comes
hold_some : (k : ℕ) (body : Body) (r : Receiving) → IsBody body → IsRangedReceiving r → IsRangedReceiving (receiving.hold k (Some body) r)
hold_some k body r is ok = record {
  came = ok.came;
  held_are = λ j b. cond_both (j == k) (Some body) (r.held j) (λ (o : Option Body). o ≡ Some b → IsBody b) (λ _ e. subst IsBody (some_same body b e) is) (λ _ e. ok.held_are j b e);
}

hold_none : (k : ℕ) (r : Receiving) → IsRangedReceiving r → IsRangedReceiving (receiving.hold k None r)
hold_none k r ok = record {
  came = ok.came;
  held_are = λ j b. cond_both (j == k) None (r.held j) (λ (o : Option Body). o ≡ Some b → IsBody b) (λ _ e. absurd (none_some e)) (λ _ e. ok.held_are j b e);
}

accept_ranged : (body : Body) (r : Receiving) → IsBody body → IsRangedReceiving r → IsRangedReceiving (accept body r)
accept_ranged body r is ok = record { came = each_append IsBody r.accepted (body ∷ []) ok.came (is, tt); held_are = ok.held_are }

come_ranged : (k : ℕ) (body : Body) (r : Receiving) → IsBody body → IsRangedReceiving r → IsRangedReceiving (come k body r)
come_ranged k body r is ok =
    cond_both (has_come k r) r (cond (k == last r + 1) (accept body r) (cond (nat_le k (last r + 8)) (receiving.hold k (Some body) r) r)) IsRangedReceiving (λ _. ok)
    (λ _. cond_both (k == last r + 1) (accept body r) (cond (nat_le k (last r + 8)) (receiving.hold k (Some body) r) r) IsRangedReceiving (λ _. accept_ranged body r is ok)
    (λ _. cond_both (nat_le k (last r + 8)) (receiving.hold k (Some body) r) r IsRangedReceiving (λ _. hold_some k body r is ok) (λ _. ok)))

follow_ranged : (r : Receiving) → IsRangedReceiving r → IsRangedReceiving (follow r)
follow_ranged r ok = by (r.held (last r + 1)) refl
  where
    by : (o : Option Body) → r.held (last r + 1) ≡ o → IsRangedReceiving (follow_with o r)
    by None is = ok
    by (Some body) is = hold_none (last r + 1) (accept body r) (accept_ranged body r (ok.held_are (last r + 1) body is) ok)

received_ranged : (k : ℕ) (body : Body) (r : Receiving) → IsBody body → IsRangedReceiving r → IsRangedReceiving (received k body r)
received_ranged k body r is ok = verdict_keeps IsRangedReceiving follow_ranged (verdict k body r) (come k body r) (come_ranged k body r is ok)

log_ranged : (port : ℕ) (bodies : List Body) (log : Log) → Each IsBody bodies → AreRanged log → AreRanged (log_with port bodies log)
log_ranged port [] log all old = old
log_ranged port (b ∷ bodies) log all old = log_ranged port bodies (record { port = port; body = b } ∷ log) all.1 (all.0, old)

ranged_body : (port k : ℕ) (peer : EndId) (body : Body) (s : SwitchOf) → IsBody body → IsRanged s → IsRanged (answers_body port peer k body s).switch
ranged_body port k peer body s is ok =
    let r = received_ranged k body (s.receivings port) is (ok.receivings_are port) in
    let u = receives port k body s in
    let bodies = accepted_by k body (s.receivings port) in
    ranged_sends u (answers_body port peer k body s).switch (all_pushed_few (all_added s.card port bodies s.log) u).only (record {
      life_is = ok.life_is;
      epoch_is = ok.epoch_is;
      card_is = ok.card_is;
      number_is = ok.number_is;
      log_is = log_ranged port bodies s.log (each_drop IsBody (last (s.receivings port)) (received k body (s.receivings port)).accepted r.came) ok.log_is;
      receivings_are = λ p. cond_both (p == port) (received k body (s.receivings port)) (s.receivings p) IsRangedReceiving (λ _. r) (λ _. ok.receivings_are p);
      ports_are = ok.ports_are;
    })

ranged_carry : (port : ℕ) (f : CarryOf) (s : SwitchOf) → IsCarry f → IsRanged s → IsRanged (on_carry port f s).switch
ranged_carry port f s is ok =
    cond_both (nat_lt s.epoch f.epoch) (after (joins f.epoch s) (answers_body port f.from f.number f.body (joins f.epoch s).switch)) (cond (f.epoch == s.epoch) (answers_body port f.from f.number f.body s) (still s)) (λ (st : Step). IsRanged st.switch)
    (λ _. ranged_body port f.number f.from f.body (joins f.epoch s).switch is.body (ranged_joins f.epoch s is.epoch ok))
    (λ _. cond_both (f.epoch == s.epoch) (answers_body port f.from f.number f.body s) (still s) (λ (st : Step). IsRanged st.switch) (λ _. ranged_body port f.number f.from f.body s is.body ok) (λ _. ok))

ranged_hears : (port nonce : ℕ) (from : EndId) (s : SwitchOf) → IsEnd from → IsRanged s → IsRanged (record s { ports = with_happening port (Replied from nonce) s.ports })
ranged_hears port nonce from s is ok =
    let ports : (p : ℕ) → Each IsRangedHappening (with_happening port (Replied from nonce) s.ports p)
    = λ p. cond_both (p == port) (Replied from nonce ∷ s.ports p) (s.ports p) (Each IsRangedHappening) (λ _. (is, ok.ports_are p)) (λ _. ok.ports_are p) in
    assumption (ports, ok)

pub ranged_framed : (port : ℕ) (f : Frame) (s : SwitchOf) → IsFrame f → IsRanged s → IsRanged (framed port f s).switch
ranged_framed port (Carry f) s is ok = cond_both (counts s port f.from f.to) (on_carry port f s) (still s) (λ (st : Step). IsRanged st.switch) (λ _. ranged_carry port f s is ok) (λ _. ok)
ranged_framed port (Ack epoch from to n) s is ok = cond_both (counts s port from to) (on_ack port from epoch n s) (still s) (λ (st : Step). IsRanged st.switch) (λ _. ranged_sends s (on_ack port from epoch n s).switch (on_ack_few port epoch n from s).only ok) (λ _. ok)
ranged_framed port (Probe from nonce) s is ok = ok
ranged_framed port (Reply from to nonce) s is ok =
    cond_both (is_same_end to (end_at s port)) (still (record s { ports = with_happening port (Replied from nonce) s.ports })) (still s) (λ (st : Step). IsRanged st.switch) (λ _. ranged_hears port nonce from s is.0 ok) (λ _. ok)

pub ranged_sampled : (now : ℕ) (samples : List Sample) (s : SwitchOf) → IsRanged s → IsRanged (sampled_by now samples s)
ranged_sampled now samples s ok =
    let ports : (p : ℕ) → Each IsRangedHappening ((sampled_by now samples s).ports p) = λ p. (tt, ok.ports_are p) in
    assumption (ports, ok)

-- where epochs are not spent the next one is within its range
ranged_goes : (before s : SwitchOf) → is_spent_by before s ≡ false → IsRanged s → IsRanged (goes_on before s).switch
ranged_goes before s left ok =
    cond_both (is_change_due before s) (joins (suc s.epoch) s) (all_resent s.card.links s) (λ (st : Step). IsRanged st.switch)
    (λ change. ranged_joins (suc s.epoch) s (by (and_cases (is_change_due before s) (s.epoch == last_epoch) left) change) ok)
    (λ _. ranged_sends s (all_resent s.card.links s).switch (all_resent_few s.card.links s).only ok)
  where
    by : (is_change_due before s ≡ false) ⊎ ((s.epoch == last_epoch) ≡ false) → is_change_due before s ≡ true → suc s.epoch < 2 ^ 64
    by (inl unchanged) change = absurd (true≢false (sym change ∙ unchanged))
    by (inr other) change = let ne = eqb-false s.epoch last_epoch other in let low = ok.epoch_is in omega (arith, ne, low)

ranged_spent : (s : SwitchOf) → IsRanged s → IsRanged (record s { spent = true })
ranged_spent s ok = record { life_is = ok.life_is; epoch_is = ok.epoch_is; card_is = ok.card_is; number_is = ok.number_is; log_is = ok.log_is; receivings_are = ok.receivings_are; ports_are = ok.ports_are }

pub ranged_clocked : (now : ℕ) (samples : List Sample) (s : SwitchOf) → IsRanged s → IsRanged (clocked now samples s).switch
ranged_clocked now samples s ok =
    let t = sampled_by now samples s in
    let ok' = ranged_sampled now samples s ok in
    cond_both (is_spent_by s t) (still (record t { spent = true })) (after (record { switch = t; frames = probes t }) (goes_on s t)) (λ (st : Step). IsRanged st.switch)
    (λ _. ranged_spent t ok') (λ left. ranged_goes s t left ok')

pub ranged_loaded : (number : ℕ) (s : SwitchOf) → IsWithin 1 126 number → IsRanged s → IsRanged (loaded number s)
ranged_loaded number s is ok = record { life_is = ok.life_is; epoch_is = ok.epoch_is; card_is = ok.card_is; number_is = is; log_is = ok.log_is; receivings_are = ok.receivings_are; ports_are = ok.ports_are }
