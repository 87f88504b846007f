-- Who is a good peer has answered: what is so of each end that answered at a port is so of its good link.

use Rattle.std.specs.Prelude.{◌≡◌, ◌==◌, ℕ, suc, map, cond, List, [], ◌∷◌, IfSome, Option, Some, None, Bool, true, false, refl}
use Rattle.std.proofs.Common.{subst}
use Rattle.std.proofs.lemmas.Bool.{cond_both}
use Rattle.an_base.specs.Values.{LifeId, EndId, PeerAt}
use Rattle.an_base.specs.declared.port.Sample.{Sample}
use Rattle.an_base.specs.declared.port.Sample.TheVariants as sample
use Rattle.skeptic.specs.Skeptics.{hold, praised, cleared}
use Rattle.connectivity.specs.declared.conn.Conn.{Conn}
use Rattle.connectivity.specs.declared.conn.Conn.TheVariants.{Who, Loop, Good}
use Rattle.connectivity.specs.Connections.{ConnectivityOf, is_same_end, counts, met, asked, asked_by, doubted, held_by, judged, judged_as, replied}
use Rattle.port_monitor.specs.declared.port.Phase.{Phase}
use Rattle.port_monitor.specs.declared.port.Phase.TheVariants.{Dead, Checking, Host, Switch}
use Rattle.port_monitor.specs.declared.port.Port.{Port}
use Rattle.port_monitor.specs.Ports.{kept_up, sampled, speaks, replied_to, good_peer_by, link_to, links_from}
use Rattle.port_monitor.specs.Histories.{Happening, History, Sampled, Replied, externals, links_after, port_after}
use Rattle.epoch_game.proofs.Basics.{none_some, some_same}
use Rattle.switch_core.specs.Switch.{SwitchOf, end_at, good_peer, port_of}
use Rattle.net_game.proofs.EachLemmas.{Each, each_append}

-- it is so of each end that answered
abbrev pub HeardOk : (EndId → Type 0) → Happening → Type 0
HeardOk Q (Sampled s) = Unit {0}
HeardOk Q (Replied from nonce) = Q from

-- and of who is known to be there
abbrev ConnOk : (EndId → Type 0) → Conn → Type 0
ConnOk Q Who = Unit {0}
ConnOk Q (Loop peer) = Unit {0}
ConnOk Q (Good peer) = Q peer

record KnownOk (Q : EndId → Type 0) (c : ConnectivityOf) : Type 0 where
  answer_ok : IfSome c.answer Q
  conn_ok : ConnOk Q c.conn

met_ok : (Q : EndId → Type 0) (me from : EndId) → Q from → ConnOk Q (met me from)
met_ok Q me from q = cond_both (from.life.uid == me.life.uid) (Loop from) (Good from) (ConnOk Q) (λ _. tt) (λ _. q)

asked_by_ok : (Q : EndId → Type 0) (from : EndId) (streak : ℕ) (c : ConnectivityOf) → Q from → ConnOk Q c.conn → ConnOk Q (asked_by from streak c).conn
asked_by_ok Q from streak c q k = by (streak == hold c.skeptic) where
  by : (b : Bool) → ConnOk Q (cond b (record c { conn = met c.me from; skeptic = cleared c.skeptic; candidate = Some from; streak = streak; missed = false }) (record c { candidate = Some from; streak = streak })).conn
  by true = met_ok Q c.me from q
  by false = k

asked_ok : (Q : EndId → Type 0) (o : Option EndId) (c : ConnectivityOf) → IfSome o Q → ConnOk Q c.conn → ConnOk Q (asked o c).conn
asked_ok Q None c q k = k
asked_ok Q (Some from) c q k = asked_by_ok Q from _ c q k

held_ok : (Q : EndId → Type 0) (peer : EndId) (o : Option EndId) (c : ConnectivityOf) → ConnOk Q c.conn → ConnOk Q (held_by peer o c).conn
held_ok Q peer None c k = by c.missed where
  by : (b : Bool) → ConnOk Q (cond b (doubted c) (record c { skeptic = cleared c.skeptic; missed = true })).conn
  by true = tt
  by false = k
held_ok Q peer (Some from) c k = by (is_same_end from peer) where
  by : (b : Bool) → ConnOk Q (cond b (record c { skeptic = praised c.skeptic; missed = false }) (doubted c)).conn
  by true = k
  by false = tt

judged_ok : (Q : EndId → Type 0) (c : ConnectivityOf) → KnownOk Q c → ConnOk Q (judged c).conn
judged_ok Q c k = by c.conn where
  by : (conn : Conn) → ConnOk Q (judged_as conn c).conn
  by Who = asked_ok Q c.answer c k.answer_ok k.conn_ok
  by (Loop peer) = held_ok Q peer c.answer c k.conn_ok
  by (Good peer) = held_ok Q peer c.answer c k.conn_ok

up_ok : (Q : EndId → Type 0) (phase : Phase) (is_host : Bool) (p : Port) → KnownOk Q p.far → KnownOk Q (kept_up phase is_host p).far
up_ok Q Dead is_host p k = k
up_ok Q Checking true p k = record { answer_ok = tt; conn_ok = tt }
up_ok Q Checking false p k = record { answer_ok = tt; conn_ok = tt }
up_ok Q Host is_host p k = k
up_ok Q Switch is_host p k = record { answer_ok = tt; conn_ok = judged_ok Q p.far k }

sampled_ok : (Q : EndId → Type 0) (s : Sample) (p : Port) → KnownOk Q p.far → KnownOk Q (sampled s p).far
sampled_ok Q sample.Down p k = record { answer_ok = tt; conn_ok = tt }
sampled_ok Q sample.Host p k = up_ok Q p.phase true p k
sampled_ok Q sample.Switch p k = up_ok Q p.phase false p k

replied_ok : (Q : EndId → Type 0) (from : EndId) (nonce : ℕ) (p : Port) → Q from → KnownOk Q p.far → KnownOk Q (replied_to from nonce p).far
replied_ok Q from nonce p q k =
    cond_both (speaks p.phase) (record p { far = replied from nonce p.far }) p (λ (r : Port). KnownOk Q r.far)
    (λ _. cond_both (counts nonce p.far) (record p.far { answer = Some from }) p.far (KnownOk Q) (λ _. record { answer_ok = q; conn_ok = k.conn_ok }) (λ _. k)) (λ _. k)

known_after : (Q : EndId → Type 0) (me : EndId) (h : History) → Each (HeardOk Q) h → KnownOk Q (port_after me h).far
known_after Q me [] all = record { answer_ok = tt; conn_ok = tt }
known_after Q me (Sampled s ∷ h) all = sampled_ok Q s (port_after me h) (known_after Q me h all.1)
known_after Q me (Replied from nonce ∷ h) all = replied_ok Q from nonce (port_after me h) all.0 (known_after Q me h all.1)

good_ok : (Q : EndId → Type 0) (phase : Phase) (conn : Conn) (e : EndId) → good_peer_by phase conn ≡ Some e → ConnOk Q conn → Q e
good_ok Q Dead conn e is k = absurd (none_some is)
good_ok Q Checking conn e is k = absurd (none_some is)
good_ok Q Host conn e is k = absurd (none_some is)
good_ok Q Switch Who e is k = absurd (none_some is)
good_ok Q Switch (Loop peer) e is k = absurd (none_some is)
good_ok Q Switch (Good peer) e is k = subst Q (some_same peer e is) k

-- so it is of a good peer
pub good_peer_ok : (Q : EndId → Type 0) (u : SwitchOf) (p : ℕ) (e : EndId) → Each (HeardOk Q) (u.ports p) → good_peer u p ≡ Some e → Q e
good_peer_ok Q u p e all is = good_ok Q (port_of u p).phase (port_of u p).far.conn e is (known_after Q (end_at u p) (u.ports p) all).conn_ok

-- and of each good link
abbrev pub LinkOk : (ℕ → EndId → Type 0) → PeerAt → Type 0
LinkOk Q k = Q k.port k.peer

abbrev Follow : ℕ → List ℕ → Type 0
Follow n [] = Unit {0}
Follow n (x ∷ xs) = (x ≡ n) × Follow (suc n) xs

links_ok : (Q : ℕ → EndId → Type 0) (life : LifeId) (ports : ℕ → History) (n : ℕ) (xs : List ℕ) → Follow n xs → ((p : ℕ) → Each (HeardOk (Q p)) (ports p))
    → Each (LinkOk Q) (links_from n (map (λ p. port_after (record { life = life; port = p }) (ports p)) xs))
links_ok Q life ports n [] in_turn all = tt
links_ok Q life ports n (x ∷ xs) in_turn all =
    each_append (LinkOk Q) (link_to n (good_peer_by port.phase port.far.conn)) (links_from (suc n) (map (λ p. port_after (record { life = life; port = p }) (ports p)) xs))
    (by (good_peer_by port.phase port.far.conn) refl) (links_ok Q life ports (suc n) xs in_turn.1 all)
  where
    port : Port
    port = port_after (record { life = life; port = x }) (ports x)

    by : (o : Option EndId) → good_peer_by port.phase port.far.conn ≡ o → Each (LinkOk Q) (link_to n o)
    by None is = tt
    by (Some e) is = (subst (λ (p : ℕ). Q p e) in_turn.0 (good_ok (Q x) port.phase port.far.conn e is (known_after (Q x) (record { life = life; port = x }) (ports x) (all x)).conn_ok), tt)

pub good_links_ok : (Q : ℕ → EndId → Type 0) (life : LifeId) (ports : ℕ → History) → ((p : ℕ) → Each (HeardOk (Q p)) (ports p)) → Each (LinkOk Q) (links_after life ports)
good_links_ok Q life ports all = links_ok Q life ports 1 externals (refl, (refl, (refl, (refl, (refl, (refl, (refl, (refl, (refl, (refl, (refl, (refl, tt)))))))))))) all
