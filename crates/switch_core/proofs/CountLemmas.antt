use Rattle.std.proofs.Common.{◌≡◌, ◌≢◌, ◌∙◌, sym, ap, refl, ℕ, suc, ◌+◌, ◌*◌, ◌<◌, ◌≤◌, ◌==◌, arith, List, [], ◌∷◌, ◌++◌, map, filter, length, length-append, Option, Some, None, is_some, Bool, true, false, cond, not, ◌&&◌}
use Rattle.std.proofs.lemmas.Bool.{ne_eqb, eqb-true, eqb-false}
use Rattle.an_base.specs.Values.{EndId, PeerAt, Place, TopoOf}
use Rattle.an_base.specs.declared.body.Body.{Body}
use Rattle.an_base.specs.declared.body.Body.TheVariants.{Pos, Answer, Stable, Topo}
use Rattle.port_monitor.specs.declared.port.Port.{Port}
use Rattle.port_monitor.specs.Ports.{good_peer_by, link_to, links_from}
use Rattle.epoch_core.specs.Log.{CardOf, Log, OnPort, is_claimed, on_port}
use Rattle.epoch_core.specs.Epoch.{adds, answer_to, answers, claiming, finish, has_moved, is_root, is_stable, passed_on, pos_at, position, positions, report, sent_down, sent_up, told, topo_down, version}
use Rattle.epoch_core.proofs.LawLemmas.{on_port-append}
use Rattle.switch_core.specs.Sound.{links_at}
use Rattle.switch_core.specs.Steps.{all_added, log_with}

-- a link at another port is none at this one
at_other : (n port : ℕ) (o : Option EndId) (ls : List PeerAt) → n ≢ port → links_at port (link_to n o ++ ls) ≡ links_at port ls
at_other n port None ls other = refl
at_other n port (Some peer) ls other = ap (λ b. cond b (record { port = n; peer = peer } ∷ links_at port ls) (links_at port ls)) (ne_eqb n port other)

-- a link more
one_at : (b : Bool) (l : PeerAt) (ls : List PeerAt) → length (cond b (l ∷ ls) ls) ≤ 1 + length ls
one_at true l ls = omega arith
one_at false l ls = omega arith

at_most : (n port : ℕ) (o : Option EndId) (ls : List PeerAt) → length (links_at port (link_to n o ++ ls)) ≤ 1 + length (links_at port ls)
at_most n port None ls = omega arith
at_most n port (Some peer) ls = one_at (n == port) (record { port = n; peer = peer }) (links_at port ls)

-- the ports of the links rise: below the first port there is none
none_below : (n port : ℕ) (ps : List Port) → port < n → links_at port (links_from n ps) ≡ []
none_below n port [] low = refl
none_below n port (p ∷ ps) low = at_other n port (good_peer_by p.phase p.far.conn) (links_from (suc n) ps) (omega (arith, low)) ∙ none_below (suc n) port ps (omega (arith, low))

-- and at each port there is at most one
one_or_next : (b : Bool) (n port : ℕ) (p : Port) (ps : List Port) → b ≡ (n == port) → length (links_at port (links_from (suc n) ps)) ≤ 1 → length (links_at port (links_from n (p ∷ ps))) ≤ 1
one_or_next true n port p ps test rest =
    let same = eqb-true n port (sym test) in
    let few = at_most n port (good_peer_by p.phase p.far.conn) (links_from (suc n) ps) in
    let none = ap length (none_below (suc n) port ps (omega (arith, same))) in
    omega (arith, few, none)
one_or_next false n port p ps test rest =
    let e = ap length (at_other n port (good_peer_by p.phase p.far.conn) (links_from (suc n) ps) (eqb-false n port (sym test))) in
    omega (arith, e, rest)

pub one_from : (n port : ℕ) (ps : List Port) → length (links_at port (links_from n ps)) ≤ 1
one_from n port [] = omega arith
one_from n port (p ∷ ps) = one_or_next (n == port) n port p ps refl (one_from (suc n) port ps)

-- what goes out on each link goes out at most once on a port
one_each : (f : PeerAt → OnPort) (port : ℕ) (ls : List PeerAt) → ((l : PeerAt) → (f l).port ≡ l.port) → length (on_port port (map f ls)) ≡ length (links_at port ls)
one_each f port [] same = refl
one_each f port (l ∷ ls) same =
    ap (λ n. length (cond (n == port) ((f l).body ∷ on_port port (map f ls)) (on_port port (map f ls)))) (same l)
    ∙ longer (l.port == port) l (f l).body ls (on_port port (map f ls)) (one_each f port ls same)
  where
    longer : (b : Bool) (l : PeerAt) (body : Body) (ls : List PeerAt) (bodies : List Body) → length bodies ≡ length (links_at port ls) → length (cond b (body ∷ bodies) bodies) ≡ length (cond b (l ∷ links_at port ls) (links_at port ls))
    longer true l body ls bodies e = ap suc e
    longer false l body ls bodies e = e

-- some of the links are no more than all at a port
fewer_kept : (b : Bool) (port : ℕ) (l : PeerAt) (ks ls : List PeerAt) → length (links_at port ks) ≤ length (links_at port ls) → length (links_at port (cond b (l ∷ ks) ks)) ≤ length (links_at port (l ∷ ls))
fewer_kept true port l ks ls few = both (l.port == port) few
  where
    both : (c : Bool) → length (links_at port ks) ≤ length (links_at port ls) → length (cond c (l ∷ links_at port ks) (links_at port ks)) ≤ length (cond c (l ∷ links_at port ls) (links_at port ls))
    both true few = omega (arith, few)
    both false few = few
fewer_kept false port l ks ls few = more (l.port == port) few
  where
    more : (c : Bool) → length (links_at port ks) ≤ length (links_at port ls) → length (links_at port ks) ≤ length (cond c (l ∷ links_at port ls) (links_at port ls))
    more true few = omega (arith, few)
    more false few = few

fewer_at : (keep : PeerAt → Bool) (port : ℕ) (ls : List PeerAt) → length (links_at port (filter keep ls)) ≤ length (links_at port ls)
fewer_at keep port [] = omega arith
fewer_at keep port (l ∷ ls) = fewer_kept (keep l) port l (filter keep ls) ls (fewer_at keep port ls)

-- one body is at most one on a port
alone : (port : ℕ) (x : OnPort) → length (on_port port (x ∷ [])) ≤ 1
alone port x = one (x.port == port)
  where
    one : (b : Bool) → length (cond b (x.body ∷ []) []) ≤ 1
    one true = omega arith
    one false = omega arith

-- where links have a port at most once, joining sends at most one body on it
pub joining_few : (c : CardOf) (port : ℕ) → length (links_at port c.links) ≤ 1 → length (on_port port (adds c [])) ≤ 1
joining_few c port one = let e = one_each (pos_at (version c []) (position c [])) port c.links (λ l. refl) in omega (arith, e, one)

-- and so does each part of what one more item sends
told_few : (c : CardOf) (x : OnPort) (log : Log) (port : ℕ) → length (links_at port c.links) ≤ 1 → length (on_port port (told c x log)) ≤ 1
told_few c x log port one = some_or_none (has_moved c x log)
  where
    some_or_none : (b : Bool) → length (on_port port (cond b (positions c (x ∷ log)) [])) ≤ 1
    some_or_none true = let e = one_each (pos_at (version c (x ∷ log)) (position c (x ∷ log))) port c.links (λ l. refl) in omega (arith, e, one)
    some_or_none false = omega arith

answered_few : (at port : ℕ) (place : Place) (body : Body) → length (on_port port (answer_to at place body)) ≤ 1
answered_few at port place (Pos b) = alone port (record { port = at; body = Answer (record { version = b.version; to_parent = (at == place.port) }) })
answered_few at port place (Answer b) = omega arith
answered_few at port place (Stable es) = omega arith
answered_few at port place (Topo t) = omega arith

up_few : (b : Bool) (x : OnPort) (port : ℕ) → length (on_port port (cond b (x ∷ []) [])) ≤ 1
up_few true x port = alone port x
up_few false x port = omega arith

down_few : (c : CardOf) (log : Log) (port : ℕ) (o : Option TopoOf) → length (links_at port c.links) ≤ 1 → length (on_port port (topo_down c log o)) ≤ 1
down_few c log port None one = omega arith
down_few c log port (Some t) one =
    let e = one_each (passed_on t) port (claiming c log) (λ l. refl) in
    let few = fewer_at (λ k. is_claimed (on_port k.port log)) port c.links in
    omega (arith, e, few, one)

sent_down_few : (b : Bool) (c : CardOf) (log : Log) (port : ℕ) (o : Option TopoOf) → length (links_at port c.links) ≤ 1 → length (on_port port (cond b [] (topo_down c log o))) ≤ 1
sent_down_few true c log port o one = omega arith
sent_down_few false c log port o one = down_few c log port o one

-- which has four parts
adds_few : (c : CardOf) (x : OnPort) (log : Log) (port : ℕ) → length (links_at port c.links) ≤ 1 → length (on_port port (adds c (x ∷ log))) ≤ 4
adds_few c x log port one =
    let first = length_on port (told c x log) (answers c x log ++ (sent_up c x log ++ sent_down c x log)) in
    let second = length_on port (answers c x log) (sent_up c x log ++ sent_down c x log) in
    let third = length_on port (sent_up c x log) (sent_down c x log) in
    let tells = told_few c x log port one in
    let answering = answered_few x.port port (position c (x ∷ log)) x.body in
    let up = up_few (is_stable c (x ∷ log) && not (is_stable c log) && not (is_root c (x ∷ log))) (record { port = (position c (x ∷ log)).port; body = Stable (report c (x ∷ log)) }) port in
    let down = sent_down_few (is_some (finish c log)) c (x ∷ log) port (finish c (x ∷ log)) one in
    omega (arith, first, second, third, tells, answering, up, down)
  where
    length_on : (port : ℕ) (xs ys : List OnPort) → length (on_port port (xs ++ ys)) ≡ length (on_port port xs) + length (on_port port ys)
    length_on port xs ys = ap length (on_port-append port xs ys) ∙ length-append (on_port port xs) (on_port port ys)

-- at most four bodies a port for each that is accepted
pub added_few : (c : CardOf) (at : ℕ) (bodies : List Body) (log : Log) (port : ℕ) → length (links_at port c.links) ≤ 1 → length (on_port port (all_added c at bodies log)) ≤ 4 * length bodies
added_few c at [] log port one = omega arith
added_few c at (body ∷ bodies) log port one =
    let here : OnPort = record { port = at; body = body } in
    let first = adds_few c here log port one in
    let rest = added_few c at bodies (here ∷ log) port one in
    let e = ap length (on_port-append port (adds c (here ∷ log)) (all_added c at bodies (here ∷ log))) in
    let f = length-append (on_port port (adds c (here ∷ log))) (on_port port (all_added c at bodies (here ∷ log))) in
    omega (arith, first, rest, e, f)

-- the log grows by what is accepted
pub log_length : (port : ℕ) (bodies : List Body) (log : Log) → length (log_with port bodies log) ≡ length bodies + length log
log_length port [] log = omega arith
log_length port (body ∷ bodies) log = let e = log_length port bodies (record { port = port; body = body } ∷ log) in omega (arith, e)
