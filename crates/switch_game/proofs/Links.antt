use Rattle.std.proofs.Common.{◌≡◌, ◌≢◌, ◌∙◌, sym, ap, refl, subst, ℕ, zero, suc, ◌+◌, ◌<◌, ◌≤◌, ◌==◌, arith, List, [], ◌∷◌, ◌++◌, map, Option, Some, None, Bool, true, false, cond, inl, inr, All}
use Rattle.std.proofs.lemmas.Bool.{cond_both, eq-eqb, eqb-false, ne_eqb}
use Rattle.std.proofs.lemmas.Option.{none-some, same_Some}
use Rattle.std.proofs.lemmas.List.Elements.{All-cons, All-nil}
use Rattle.std.proofs.lemmas.List.Kept.{AllPairs-cons}
use Rattle.an_base.specs.Values.{LifeId, EndId, PeerAt}
use Rattle.an_base.specs.Order.{PortsRise}
use Rattle.an_base.specs.declared.port.Sample.{Sample}
use Rattle.an_base.specs.declared.port.Sample.TheVariants as sample
use Rattle.skeptic.specs.Skeptics.{hold}
use Rattle.connectivity.specs.declared.conn.Conn.{Conn}
use Rattle.connectivity.specs.declared.conn.Conn.TheVariants.{Who, Loop, Good}
use Rattle.connectivity.specs.Connections as far
use Rattle.connectivity.specs.Connections.{ConnectivityOf, is_end, is_same_end}
use Rattle.port_monitor.specs.declared.port.Phase.{Phase}
use Rattle.port_monitor.specs.declared.port.Phase.TheVariants.{Dead, Checking, Host, Switch}
use Rattle.port_monitor.specs.declared.port.Port.{Port}
use Rattle.port_monitor.specs.Ports.{entered, good_peer_by, kept_up, link_to, links_from, replied_to, sampled, speaks}
use Rattle.port_monitor.specs.Histories.{History, Sampled, Replied, port_after}
use Rattle.topo_report.proofs.Members.{In, contains_from}
use Rattle.epoch_game.specs.Slice.{IsCardOf, link_at}
use Rattle.switch_core.specs.Switch.{SwitchOf, card_of, end_at, good_links, good_peer, port_of}
use Rattle.switch_core.specs.Steps.{peer_among}
use Rattle.switch_core.proofs.LinkLemmas.{peer, ports_from}

-- the link at a port is found in either way
pub same_link : (ls : List PeerAt) (port : ℕ) → peer_among ls port ≡ link_at port ls
same_link [] port = refl
same_link (l ∷ ls) port = ap (λ (o : Option EndId). cond (l.port == port) (Some l.peer) o) (same_link ls port)

-- What is known of the far end of a port: it is of another life
record IsOther (me : EndId) (c : ConnectivityOf) : Type 0 where
  me_is : c.me ≡ me
  other : (q : EndId) → c.conn ≡ Good q → q.life ≡ me.life → ⊥

other_forgotten : (me : EndId) (c : ConnectivityOf) → IsOther me c → IsOther me (far.forgotten c)
other_forgotten me c h = record { me_is = h.me_is; other = λ q e. absurd (cc) }

other_doubted : (me : EndId) (c : ConnectivityOf) → IsOther me c → IsOther me (far.doubted c)
other_doubted me c h = record { me_is = h.me_is; other = λ q e. absurd (cc) }

other_met : (me q r : EndId) → far.met me q ≡ Good r → r.life ≡ me.life → ⊥
other_met me q r = by (q.life.uid == me.life.uid) refl
  where
    by : (b : Bool) → b ≡ (q.life.uid == me.life.uid) → cond b (Loop q) (Good q) ≡ Good r → r.life ≡ me.life → ⊥
    by true test e same = absurd (cc)
    by false test e same =
        let is : q ≡ r = cc in
        eqb-false q.life.uid me.life.uid (sym test) (ap (λ (d : EndId). d.life.uid) is ∙ ap (λ (l : LifeId). l.uid) same)

other_asked : (me : EndId) (o : Option EndId) (c : ConnectivityOf) → IsOther me c → IsOther me (far.asked o c)
other_asked me None c h = record { me_is = h.me_is; other = h.other }
other_asked me (Some q) c h =
    cond_both (far.streak_of q c == hold c.skeptic) _ _ (IsOther me)
    (λ _. record { me_is = h.me_is; other = λ r e same. other_met c.me q r e (same ∙ ap (λ (d : EndId). d.life) (sym h.me_is)) })
    (λ _. record { me_is = h.me_is; other = h.other })

other_held : (me p : EndId) (o : Option EndId) (c : ConnectivityOf) → IsOther me c → IsOther me (far.held_by p o c)
other_held me p None c h = cond_both c.missed _ _ (IsOther me) (λ _. other_doubted me c h) (λ _. record { me_is = h.me_is; other = h.other })
other_held me p (Some q) c h = cond_both (is_same_end q p) _ _ (IsOther me) (λ _. record { me_is = h.me_is; other = h.other }) (λ _. other_doubted me c h)

other_judged : (me : EndId) (conn : Conn) (c : ConnectivityOf) → IsOther me c → IsOther me (far.judged_as conn c)
other_judged me Who c h = other_asked me c.answer c h
other_judged me (Loop p) c h = other_held me p c.answer c h
other_judged me (Good p) c h = other_held me p c.answer c h

other_entered : (me : EndId) (is_host : Bool) (p : Port) → IsOther me p.far → IsOther me (entered is_host p).far
other_entered me true p h = other_forgotten me p.far h
other_entered me false p h = let f = other_forgotten me p.far h in record { me_is = f.me_is; other = f.other }

other_up : (me : EndId) (phase : Phase) (is_host : Bool) (p : Port) → IsOther me p.far → IsOther me (kept_up phase is_host p).far
other_up me Dead is_host p h = h
other_up me Checking is_host p h = other_entered me is_host p h
other_up me Host is_host p h = h
other_up me Switch is_host p h = let j = other_judged me p.far.conn p.far h in record { me_is = j.me_is; other = j.other }

other_sampled : (me : EndId) (x : Sample) (p : Port) → IsOther me p.far → IsOther me (sampled x p).far
other_sampled me sample.Down p h = other_forgotten me p.far h
other_sampled me sample.Host p h = other_up me p.phase true p h
other_sampled me sample.Switch p h = other_up me p.phase false p h

other_replied : (me from : EndId) (nonce : ℕ) (p : Port) → IsOther me p.far → IsOther me (replied_to from nonce p).far
other_replied me from nonce p h =
    cond_both (speaks p.phase) (record p { far = far.replied from nonce p.far }) p (λ (r : Port). IsOther me r.far)
    (λ _. cond_both (far.counts nonce p.far) (record p.far { answer = Some from }) p.far (IsOther me) (λ _. record { me_is = h.me_is; other = h.other }) (λ _. h))
    (λ _. h)

other_after : (me : EndId) (history : History) → IsOther me (port_after me history).far
other_after me [] = record { me_is = refl; other = λ q e. absurd (cc) }
other_after me (Sampled x ∷ history) = other_sampled me x (port_after me history) (other_after me history)
other_after me (Replied from nonce ∷ history) = other_replied me from nonce (port_after me history) (other_after me history)

good_is : (phase : Phase) (conn : Conn) (q : EndId) → good_peer_by phase conn ≡ Some q → conn ≡ Good q
good_is Dead conn q e = absurd (none-some q e)
good_is Checking conn q e = absurd (none-some q e)
good_is Host conn q e = absurd (none-some q e)
good_is Switch Who q e = absurd (none-some q e)
good_is Switch (Loop p) q e = absurd (none-some q e)
good_is Switch (Good p) q e = ap Good (same_Some p q e)

-- so the peer of a good port is another life
pub not_itself : (s : SwitchOf) (port : ℕ) (q : EndId) → good_peer s port ≡ Some q → q.life ≡ s.life → ⊥
not_itself s port q is =
    let p = port_of s port in
    (other_after (end_at s port) (s.ports port)).other q (good_is p.phase p.far.conn q is)

-- What is so of each peer is so of each link
links_all : (P : PeerAt → Type 0) (f : ℕ → Port) (k n : ℕ) → ((port : ℕ) (e : EndId) → n ≤ port → port < n + k → peer (f port) ≡ Some e → P (record { port = port; peer = e })) → All P (links_from n (map f (ports_from n k)))
links_all P f zero n h = All-nil P
links_all P f (suc k) n h = by (peer (f n)) refl (links_all P f k (suc n) (λ port e low high is. h port e (omega (arith, low)) (omega (arith, high)) is))
  where
    rest : List PeerAt
    rest = links_from (suc n) (map f (ports_from (suc n) k))

    by : (o : Option EndId) → peer (f n) ≡ o → All P rest → All P (link_to n o ++ rest)
    by None is all = all
    by (Some e) is all = All-cons P (record { port = n; peer = e }) rest (h n e (omega arith) (omega arith) is) all

links_rise : (f : ℕ → Port) (k n : ℕ) → PortsRise (links_from n (map f (ports_from n k)))
links_rise f zero n = λ i j d lt within. absurd (omega (arith, within))
links_rise f (suc k) n = by (peer (f n)) (links_rise f k (suc n))
  where
    rest : List PeerAt
    rest = links_from (suc n) (map f (ports_from (suc n) k))

    by : (o : Option EndId) → PortsRise rest → PortsRise (link_to n o ++ rest)
    by None rise = rise
    by (Some e) rise = AllPairs-cons (λ (a b : PeerAt). a.port < b.port) (record { port = n; peer = e }) rest (links_all (λ (b : PeerAt). n < b.port) f k (suc n) (λ port d low high is. omega (arith, low))) rise

-- so the good links are what a life may join with
pub good_card : (x : LifeId) (number : ℕ) (s : SwitchOf) → s.life ≡ x → IsCardOf x (card_of s.life number (good_links s))
good_card x number s life =
    record {
      me = life;
      ports = links_rise (port_of s) 12 1;
      least = links_all (λ (k : PeerAt). 1 ≤ k.port) (port_of s) 12 1 (λ port e low high is. low);
      most = links_all (λ (k : PeerAt). k.port ≤ 12) (port_of s) 12 1 (λ port e low high is. omega (arith, high));
      others = links_all (λ (k : PeerAt). k.peer.life ≢ x) (port_of s) 12 1 (λ port e low high is same. not_itself s port e is (same ∙ sym life));
    }

-- each link is the one at its port
pub link_here : (ls : List PeerAt) (l : PeerAt) → PortsRise ls → In l ls → peer_among ls l.port ≡ Some l.peer
link_here [] l rise i = absurd i
link_here (k ∷ ls) l rise (inl is) =
    ap (λ (b : Bool). cond b (Some k.peer) (peer_among ls l.port)) (eq-eqb k.port l.port (ap (λ (m : PeerAt). m.port) (sym is))) ∙ ap (λ (m : PeerAt). Some m.peer) (sym is)
link_here (k ∷ ls) l rise (inr i) =
    let has = contains_from l ls i in
    let low : k.port < l.port = subst (λ (m : PeerAt). k.port < m.port) has.2 (rise 0 (suc has.0) l (omega arith) (omega (arith, has.1))) in
    ap (λ (b : Bool). cond b (Some k.peer) (peer_among ls l.port)) (ne_eqb k.port l.port (omega (arith, low)))
    ∙ link_here ls l (λ a b d below within. rise (suc a) (suc b) d (omega (arith, below)) (omega (arith, within))) i
