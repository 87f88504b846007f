use Rattle.std.proofs.Common.{◌≡◌, ◌∙◌, sym, ap, refl, ℕ, zero, suc, ◌+◌, ◌<◌, ◌≤◌, ◌==◌, arith, List, [], ◌∷◌, ◌++◌, map, Option, Some, None, Bool, true, false, cond}
use Rattle.std.proofs.lemmas.Bool.{and_parts, eqb-false, eqb-true, ne_eqb}
use Rattle.std.proofs.lemmas.Option.{none-some}
use Rattle.std.specs.Cmp.Lexicographic.{slice_cmp}
use Rattle.an_base.specs.Values.{EndId, PeerAt}
use Rattle.an_base.specs.Order.{link_cmp}
use Rattle.an_base.proofs.OrderLaws.{links_apart}
use Rattle.common_values.proofs.OrderingLemmas.{equal_is}
use Rattle.connectivity.specs.declared.conn.Conn.{Conn}
use Rattle.connectivity.specs.Connections.{is_end, is_same_end}
use Rattle.connectivity.proofs.EndLemmas.{is_end_is, same_end_is}
use Rattle.port_monitor.specs.declared.port.Phase.{Phase}
use Rattle.port_monitor.specs.declared.port.Phase.TheVariants.{Dead, Checking, Host, Switch}
use Rattle.port_monitor.specs.declared.port.Port.{Port}
use Rattle.port_monitor.specs.Ports.{good_peer_by, link_to, links_from, speaks}
use Rattle.port_monitor.specs.Histories.{externals}
use Rattle.switch_core.specs.Switch.{SwitchOf, counts, end_at, good_links, good_peer, port_of}
use Rattle.switch_core.specs.Steps.{are_same_links, peer_among}
use Rattle.switch_core.proofs.FarLemmas.{hears, hears_peer}

-- the peer of a port
abbrev pub peer : Port → Option EndId
peer p = good_peer_by p.phase p.far.conn

-- so many ports, rising
abbrev pub ports_from : ℕ → ℕ → List ℕ
ports_from n zero = []
ports_from n (suc k) = n ∷ ports_from (suc n) k

-- no link is below the first port
peer_below : (n : ℕ) (ps : List Port) (port : ℕ) → port < n → peer_among (links_from n ps) port ≡ None
peer_below n [] port low = refl
peer_below n (p ∷ ps) port low = by (peer p) (peer_below (suc n) ps port (omega (arith, low)))
  where
    by : (o : Option EndId) → peer_among (links_from (suc n) ps) port ≡ None → peer_among (link_to n o ++ links_from (suc n) ps) port ≡ None
    by None rest = rest
    by (Some e) rest = ap (λ (b : Bool). cond b (Some e) (peer_among (links_from (suc n) ps) port)) (ne_eqb n port (omega (arith, low))) ∙ rest

-- the link at a good port leads to its peer, and no other port has one
peer_at : (f : ℕ → Port) (k n port : ℕ) → n ≤ port → port < n + k → peer_among (links_from n (map f (ports_from n k))) port ≡ peer (f port)
peer_at f zero n port low high = absurd (omega (arith, low, high))
peer_at f (suc k) n port low high = by (n == port) (peer (f n)) refl refl (λ next. peer_at f k (suc n) port next (omega (arith, high)))
  where
    rest : List PeerAt
    rest = links_from (suc n) (map f (ports_from (suc n) k))

    by : (b : Bool) (o : Option EndId) → b ≡ (n == port) → o ≡ peer (f n) → (suc n ≤ port → peer_among rest port ≡ peer (f port)) → peer_among (link_to n o ++ rest) port ≡ peer (f port)
    by true None test is next =
        let same : n ≡ port = eqb-true n port (sym test) in
        peer_below (suc n) (map f (ports_from (suc n) k)) port (omega (arith, same)) ∙ is ∙ ap (λ (q : ℕ). peer (f q)) same
    by true (Some e) test is next =
        let same : n ≡ port = eqb-true n port (sym test) in
        ap (λ (b : Bool). cond b (Some e) (peer_among rest port)) (sym test) ∙ is ∙ ap (λ (q : ℕ). peer (f q)) same
    by false None test is next = next (let other = eqb-false n port (sym test) in omega (arith, other, low))
    by false (Some e) test is next =
        ap (λ (b : Bool). cond b (Some e) (peer_among rest port)) (sym test) ∙ next (let other = eqb-false n port (sym test) in omega (arith, other, low))

pub good_link : (s : SwitchOf) (port : ℕ) → 1 ≤ port → port ≤ 12 → peer_among (good_links s) port ≡ good_peer s port
good_link s port least most = peer_at (port_of s) 12 1 port least (omega (arith, most))

-- the links hang on the peers alone
same_links : (f g : ℕ → Port) (n : ℕ) (ks : List ℕ) → ((q : ℕ) → peer (f q) ≡ peer (g q)) → links_from n (map f ks) ≡ links_from n (map g ks)
same_links f g n [] same = refl
same_links f g n (k ∷ ks) same =
    ap (λ (o : Option EndId). link_to n o ++ links_from (suc n) (map f ks)) (same k) ∙ ap (λ (ls : List PeerAt). link_to n (peer (g k)) ++ ls) (same_links f g (suc n) ks same)

pub hears_links : (port nonce : ℕ) (from : EndId) (s : SwitchOf) → good_links (hears port from nonce s) ≡ good_links s
hears_links port nonce from s = same_links (port_of (hears port from nonce s)) (port_of s) 1 externals (λ q. hears_peer port nonce q from s)

-- a test of two lists of links tells that they are one
pub links_are : (xs ys : List PeerAt) → are_same_links xs ys ≡ true → xs ≡ ys
links_are xs ys is = links_apart xs ys (equal_is (slice_cmp link_cmp xs ys) is)

-- a frame that counts comes from the peer of the port, and is for this end
pub counted : (s : SwitchOf) (port : ℕ) (from to : EndId) → counts s port from to ≡ true → (good_peer s port ≡ Some from) × (to ≡ end_at s port)
counted s port from to is =
    let both = and_parts (is_end (good_peer s port) from) (is_same_end to (end_at s port)) is in
    (is_end_is (good_peer s port) from both.0, same_end_is to (end_at s port) both.1)

-- a port that has a good peer speaks
speaks_by : (phase : Phase) (conn : Conn) (q : EndId) → good_peer_by phase conn ≡ Some q → speaks phase ≡ true
speaks_by Dead conn q is = absurd (none-some q is)
speaks_by Checking conn q is = absurd (none-some q is)
speaks_by Host conn q is = absurd (none-some q is)
speaks_by Switch conn q is = refl

pub good_speaks : (s : SwitchOf) (port : ℕ) (q : EndId) → good_peer s port ≡ Some q → speaks (port_of s port).phase ≡ true
good_speaks s port q is = speaks_by (port_of s port).phase (port_of s port).far.conn q is

-- a link among the good ones is at an external port, and leads to its peer
in_range : (b : Bool) (n k port : ℕ) (e q : EndId) (o : Option EndId) → b ≡ (n == port) → (o ≡ Some q → (suc n ≤ port) × (port < suc n + k)) → cond b (Some e) o ≡ Some q → (n ≤ port) × (port < n + suc k)
in_range true n k port e q o test rest is = let same = eqb-true n port (sym test) in (omega (arith, same), omega (arith, same))
in_range false n k port e q o test rest is = let r = rest is in (omega (arith, r.0), omega (arith, r.1))

peer_range : (f : ℕ → Port) (k n port : ℕ) (q : EndId) → peer_among (links_from n (map f (ports_from n k))) port ≡ Some q → (n ≤ port) × (port < n + k)
peer_range f zero n port q is = absurd (none-some q is)
peer_range f (suc k) n port q is = by (peer (f n)) (λ there. peer_range f k (suc n) port q there) is
  where
    rest : List PeerAt
    rest = links_from (suc n) (map f (ports_from (suc n) k))

    by : (o : Option EndId) → (peer_among rest port ≡ Some q → (suc n ≤ port) × (port < suc n + k)) → peer_among (link_to n o ++ rest) port ≡ Some q → (n ≤ port) × (port < n + suc k)
    by None later there = let r = later there in (omega (arith, r.0), omega (arith, r.1))
    by (Some e) later there = in_range (n == port) n k port e q (peer_among rest port) refl later there

pub link_good : (s : SwitchOf) (port : ℕ) (q : EndId) → peer_among (good_links s) port ≡ Some q → good_peer s port ≡ Some q
link_good s port q is = let r = peer_range (port_of s) 12 1 port q is in sym (good_link s port r.0 (omega (arith, r.1))) ∙ is
