use Rattle.std.proofs.Common.{◌≡◌, ◌⊎◌, inl, inr, ℕ, zero, suc, ◌+◌, ◌≤◌, ◌<◌, List, length, Some, true, false, refl, sym, ap, ◌∙◌, subst, ⊎_elim, arith}
use Rattle.std.specs.Prelude.{is_some}
use Rattle.an_base.specs.Values.{LifeId, Place, PeerAt, EntryOf, TopoOf}
use Rattle.an_base.specs.declared.body.Body.{Body}
use Rattle.an_base.specs.declared.body.Body.TheVariants.{Topo}
use Rattle.common_values.proofs.ListLemmas.{some_is}
use Rattle.tree_position.specs.Position.{self_root}
use Rattle.topo_report.proofs.Members.{In, in_from}
use Rattle.epoch_core.specs.Log.{CardOf, Log, on_port, is_claimed, answered}
use Rattle.epoch_core.specs.Epoch.{version, position, is_stable, is_root, is_named, own_entry, report, topology_of, finish, sent}
use Rattle.epoch_core.specs.Laws.{IsAtMost}
use Rattle.epoch_game.specs.Slice.{Earlier, Node, Slice, nobody, Names, IsCardOf, Run}
use Rattle.epoch_game.specs.Streams.{positions_in, answers_in, told_on, AnswersFrom, HasNoAnswer, Shows}
use Rattle.epoch_game.specs.Leaving.{WasStableRoot}
use Rattle.epoch_game.specs.Detection.{Reached, start, next, IsMemberEntry, IsDetected, FinishedUnder}
use Rattle.epoch_game.specs.Delivered.{AcceptedAllOf, AcceptedAll, IsDelivered, HasEnded}
use Rattle.epoch_game.proofs.Basics.{bool_cases}
use Rattle.epoch_game.proofs.Lists.{earlier_itself}
use Rattle.epoch_game.proofs.ViewLemmas.{is_same-eq, HasLink, answers_sent, shown_whole}
use Rattle.epoch_game.proofs.Moments.{version_least, version_grows, one_position, at_earlier, at_whole, number}
use Rattle.epoch_game.proofs.Nodes.{decide_life, rises, has_link}
use Rattle.epoch_game.proofs.StreamLemmas.{nodes, names_its_number}
use Rattle.epoch_game.proofs.Orders.{root_at_most, given}
use Rattle.epoch_game.proofs.OfferLemmas.{FromLink, position_is, port_above, find_link}
use Rattle.epoch_game.proofs.ImproveLemmas.{only_improves}
use Rattle.epoch_game.proofs.HandshakeLemmas.{life_antisym, settled_claim}
use Rattle.epoch_game.proofs.MemberLemmas.{Reach, start as Reach-start, next as Reach-next, had_root}
use Rattle.epoch_game.proofs.StateLemmas.{node, node_is, Linked, turned, me_is, mom, joined, plain, gives_at, gives_is, law_parent_gives, link_of, Settled, stable_from, flag_same, Content, laws, no_content}
use Rattle.epoch_game.proofs.DetectLemmas.{Rooted, state, place, Member, member, reached, at_own, from_parent}
use Rattle.epoch_game.proofs.FinishLemmas.{finished_under, one_topology, is_detected, one_root}
use Rattle.epoch_game.proofs.WholeLemmas.{HasFresh, fresh_sent, topo_passed, root_finishes, entry_names, named_finishes}
use Rattle.epoch_game.proofs.MomentStates.{finish_kept}

-- a state in which nothing is under way among the lives that are reached from x
record Delivered (lives : List LifeId) (s : Slice) (x : LifeId) : Type 0 where
  few : length lives ≤ 126
  run : Run lives nobody s
  all : IsDelivered s x

-- what y accepted on port p is all that z sent on q, and shows z as it is
record HeardAll (s : Slice) (y : LifeId) (p : ℕ) (z : LifeId) (q : ℕ) : Type 0 where
  linked : Linked s y p z q
  link : HasLink (node s z).card q
  all : on_port p (node s y).log ≡ sent (node s z).card q (node s z).log
  shows : Shows (node s z).card q (node s z).log (on_port p (node s y).log)

heard_all : (lives : List LifeId) (s : Slice) (x y : LifeId) → Delivered lives s x → Reached s x y → (p : ℕ) (z : LifeId) (q : ℕ) → Names (node s y).card p z q → HeardAll s y p z q
heard_all lives s x y d h p z q named = record {
  linked = record { there = named; back = back };
  link = link;
  all = all;
  shows = subst (Shows (node s z).card q (node s z).log) (sym all) (shown_whole (node s z).card q link (node s z).log);
}
  where
    a : AcceptedAll s y
    a = d.all y h

    is : node s y ≡ a.node
    is = node_is s y a.node a.joined

    l : AcceptedAllOf s y a.node p z q
    l = a.links p z q (subst (λ (n : Node). Names n.card p z q) is named)

    far : node s z ≡ l.far
    far = node_is s z l.far l.joined

    back : Names (node s z).card q y p
    back = subst (λ (n : Node). Names n.card q y p) (sym far) l.back

    link : HasLink (node s z).card q
    link = has_link z (node s z).card q y p (nodes lives s d.run z (node s z) (joined s z q y p back)).0 back

    all : on_port p (node s y).log ≡ sent (node s z).card q (node s z).log
    all = ap (λ (n : Node). on_port p n.log) is ∙ l.all ∙ ap (λ (n : Node). sent n.card q n.log) (sym far)

in_joined : (lives : List LifeId) (s : Slice) (x y : LifeId) → Delivered lives s x → Reached s x y → s y ≡ Some (node s y)
in_joined lives s x y d h = let a = d.all y h in a.joined ∙ ap Some (sym (node_is s y a.node a.joined))

-- a link between two of them: each has accepted all that the other sent on it
record Exchange (s : Slice) (x y : LifeId) (p : ℕ) (z : LifeId) (q : ℕ) : Type 0 where
  reached : Reached s x z
  near : HeardAll s y p z q
  far : HeardAll s z q y p

exchange : (lives : List LifeId) (s : Slice) (x y : LifeId) → Delivered lives s x → Reached s x y → (p : ℕ) (z : LifeId) (q : ℕ) → Names (node s y).card p z q → Exchange s x y p z q
exchange lives s x y d h p z q named =
    let near = heard_all lives s x y d h p z q named in
    let hz = next y z p q (node s y) h (in_joined lives s x y d h) named in
    record { reached = hz; near = near; far = heard_all lives s x z d hz q y p near.linked.back }

-- The last answer on each link names the present version, since as many answers came as there are versions.
none_of_some : (n v : ℕ) → n ≡ 0 → n ≡ v → 1 ≤ v → ⊥
none_of_some n v a b c = omega (arith, a, b, c)

answered_now : (lives : List LifeId) (s : Slice) → Run lives nobody s → (x y : LifeId) (p : ℕ) (z : LifeId) (q : ℕ) → Exchange s x y p z q → answered (on_port p (node s y).log) ≡ Some (version (node s y).card (node s y).log)
answered_now lives s run x y p z q e = by e.near.shows.answer
  where
    heard : List Body
    heard = on_port p (node s y).log

    count : answers_in heard ≡ version (node s y).card (node s y).log
    count = ap answers_in e.near.all ∙ answers_sent (node s z).card q (node s z).log e.near.link ∙ e.far.shows.count

    by : HasNoAnswer heard ⊎ AnswersFrom (node s z).card q (node s z).log heard → answered heard ≡ Some (version (node s y).card (node s y).log)
    by (inl nothing) = absurd (none_of_some (answers_in heard) (version (node s y).card (node s y).log) nothing.count count (version_least (node s y).card (node s y).log))
    by (inr a) =
        let n = names_its_number lives s y (node s y) p (node s y).log a.told.version run (joined s y p z q e.near.linked.there) (earlier_itself (node s y).log) a.answered in
        a.answered ∙ ap Some (n.number ∙ count)

-- Positions: each is at most what a neighbour's gives, and is what the parent's gives.
at_most_far : (lives : List LifeId) (s : Slice) → length lives ≤ 126 → Run lives nobody s → (y : LifeId) (p : ℕ) (z : LifeId) (q : ℕ) → HeardAll s y p z q → IsAtMost (place s y) (given (place s z) (plain z p))
at_most_far lives s few run y p z q e =
    (only_improves lives s few run).uncut y (node s y) (node s y).log p z q (told_on (version (node s z).card (node s z).log) (place s z) q)
    (joined s y p z q e.linked.there) (earlier_itself (node s y).log) e.linked.there e.shows.place

child_place : (lives : List LifeId) (s : Slice) → Run lives nobody s → (z : LifeId) (q : ℕ) (y : LifeId) (p : ℕ) → HeardAll s z q y p → (place s z).port ≡ q → place s z ≡ given (place s y) (plain y q)
child_place lives s run z q y p e at =
    let whole = at_whole (node s z).log in
    let g = law_parent_gives lives s run z q y p (length (node s z).log) e.linked (ap (λ (a : Log). (position (node s z).card a).port) whole ∙ at) in
    subst (λ (a : Log). position (node s z).card a ≡ gives_at s y (positions_in (on_port q a)) q) whole g.1
    ∙ ap (λ (n : ℕ). gives_at s y n q) e.shows.count
    ∙ gives_is s y (node s y).log q (earlier_itself (node s y).log)

level_most : (c : CardOf) (l : Log) → (position c l).level ≤ 125
level_most c l =
    ⊎_elim (λ (own : position c l ≡ self_root c.me). let none = ap (λ (a : Place). a.level) own in omega (arith, none))
    (λ (w : FromLink c l (position c l)). let up = ap (λ (a : Place). a.level) w.is in let low = w.offered.level in omega (arith, up, low))
    (position_is c l)

-- So they have one root,
same_root : (lives : List LifeId) (s : Slice) (x y : LifeId) → Delivered lives s x → Reached s x y → (place s y).root ≡ (place s x).root
same_root lives s x _ d start = refl
same_root lives s x _ d (next y z p q n h sy named) =
    let e = exchange lives s x y d h p z q (subst (λ (a : Node). Names a.card p z q) (sym (node_is s y n sy)) named) in
    let down = root_at_most (place s y) (given (place s z) (plain z p)) (at_most_far lives s d.few d.run y p z q e.near) in
    let up = root_at_most (place s z) (given (place s y) (plain y q)) (at_most_far lives s d.few d.run z q y p e.far) in
    life_antisym (place s z).root (place s y).root up down ∙ same_root lives s x y d h

-- which is one of them.
reach_back : (lives : List LifeId) (s : Slice) (few : length lives ≤ 126) (run : Run lives nobody s) (content : Content s) (r x y : LifeId) → Reach (laws lives s few run content) r y → Reached s x y → Reached s x r
reach_back lives s few run content r x _ Reach-start h = h
reach_back lives s few run content r x _ (Reach-next a p z q g l) h = reach_back lives s few run content r x a g (next z a q p (node s z) h (joined s z q a p l.back) l.back)

had_its_root : (lives : List LifeId) (s : Slice) (few : length lives ≤ 126) (run : Run lives nobody s) (x : LifeId) → Reach (laws lives s few run (no_content s)) (place s x).root x
had_its_root lives s few run x =
    had_root (laws lives s few run (no_content s)) (place s x).root (suc (position (node s x).card (mom s x (length (node s x).log))).level) x (length (node s x).log) (omega arith) (omega arith)
    (ap (λ (a : Log). (position (node s x).card a).root) (at_whole (node s x).log))

-- All are stable, from the deepest ones up: a link that claims leads to one that is deeper.
stable_now : (lives : List LifeId) (s : Slice) (x : LifeId) (d : Delivered lives s x) (n : ℕ) (y : LifeId) → Reached s x y → 126 ≤ (place s y).level + n → is_stable (node s y).card (node s y).log ≡ true
stable_now lives s x d zero y h low = let top = level_most (node s y).card (node s y).log in absurd (omega (arith, top, low))
stable_now lives s x d (suc n) y h low = stable_from (node s y).card (node s y).log (λ k i. settled k i (λ z hz up. stable_now lives s x d n z hz up))
  where
    card : IsCardOf y (node s y).card
    card = (nodes lives s d.run y (node s y) (in_joined lives s x y d h)).0

    no_root : (z : LifeId) (q : ℕ) (p : ℕ) → HeardAll s z q y p → (place s z).port ≡ q → is_root (node s z).card (node s z).log ≡ false
    no_root z q p e at =
        let above = port_above (node s z).card (record { port = q; peer = record { life = y; port = p } }) (rises z (node s z).card (nodes lives s d.run z (node s z) (joined s z q y p e.linked.there)).0) (link_of (node s z).card q y p e.linked.there) in
        ⊎_elim
        (λ (is : is_root (node s z).card (node s z).log ≡ true).
        let none = ap (λ (a : Place). a.port) (is_same-eq (place s z) (self_root (node s z).card.me) is) in
        absurd (omega (arith, none, at, above)))
        (λ (is : is_root (node s z).card (node s z).log ≡ false). is)
        (bool_cases (is_root (node s z).card (node s z).log))

    settled : (k : PeerAt) → In k (node s y).card.links → ((z : LifeId) → Reached s x z → 126 ≤ (place s z).level + n → is_stable (node s z).card (node s z).log ≡ true)
        → Settled (node s y).log (version (node s y).card (node s y).log) k.port
    settled k i rest = on_link (exchange lives s x y d h k.port k.peer.life k.peer.port (find_link 0 (node s y).card.links k (rises y (node s y).card card) i))
      where
        z : LifeId
        z = k.peer.life

        q : ℕ
        q = k.peer.port

        on_link : Exchange s x y k.port z q → Settled (node s y).log (version (node s y).card (node s y).log) k.port
        on_link e = record {
          answered = answered_now lives s d.run x y k.port z q e;
          reported = λ claims.
              let at = flag_same (place s z).port q (is_claimed (on_port k.port (node s y).log)) e.near.shows.claimed claims in
              let up = ap (λ (a : Place). a.level) (child_place lives s d.run z q y k.port e.far at) in
              subst HasFresh (sym e.near.all)
              (fresh_sent (node s z).card q e.near.link (node s z).log (rest z e.reached (omega (arith, up, low))) (no_root z q k.port e.far at) at);
        }

-- From the root down all have finished: who finished was stable then in its present version, and so passed the topology on to each child that it has now.
claimed_then : (lives : List LifeId) (s : Slice) (r : LifeId) → Rooted lives s r → (z : LifeId) (q : ℕ) (y : LifeId) (p : ℕ) → Linked s z q y p → Reached s r z → Reached s r y → (place s y).port ≡ p
    → (t : TopoOf) (h : Log) → Earlier h (node s z).log → finish (node s z).card h ≡ Some t → is_claimed (on_port q h) ≡ true
claimed_then lives s r g z q y p l hz hy at t h e done =
    let c = (node s z).card in
    let mz = member lives s r z g hz in
    let my = member lives s r y g hy in
    let kept = finish_kept lives s g.few g.run z (node s z) h t mz.joined e done in
    let k = number h (node s z).log e in
    let root : (position c h).root ≡ r = ap (λ (a : Place). a.root) (one_position c (node s z).log h (node s z).log e (earlier_itself (node s z).log) (sym kept.version)) ∙ mz.root in
    let claim = settled_claim (state lives s r g) z q y p (length h) (length (node s y).log) r l k.0
    (subst (λ (a : Log). is_stable c a ≡ true) (sym k.1) kept.stable)
    (subst (λ (a : Log). (position c a).root ≡ r) (sym k.1) root)
    (λ m hm em. subst (λ (v : ℕ). version c (mom s z m) ≤ v) (kept.version ∙ ap (version c) (sym k.1)) (version_grows c (mom s z m) (node s z).log (at_earlier (node s z).log m)))
    (record { within = omega arith; root = ap (λ (a : Log). (position (node s y).card a).root) (at_whole (node s y).log) ∙ my.root; most = λ m hm em. hm })
    (ap (λ (a : Log). (position (node s y).card a).port) (at_whole (node s y).log) ∙ at) in
    ap (λ (a : Log). is_claimed (on_port q a)) (sym k.1) ∙ claim.claims

-- a topology with which one of them finished names each of them
names_each : (lives : List LifeId) (s : Slice) (r : LifeId) → Rooted lives s r → (z y : LifeId) (t : TopoOf) → Reached s r z → Reached s r y → FinishedUnder s z t → is_named (node s y).card.me t ≡ true
names_each lives s r g z y t hz hy u =
    let same = one_root lives s u.root r z g.few g.run u.was g.was u.reached hz in
    let e = own_entry (node s y).card (node s y).log in
    let has = (u.entries e).1 (record { life = y; node = node s y; reached = subst (λ (a : LifeId). Reached s a y) (sym same) hy; joined = (member lives s r y g hy).joined; is = refl }) in
    entry_names (node s y).card.me t.entries e (in_from e t.entries has) refl

finished_now : (lives : List LifeId) (s : Slice) (x r : LifeId) (d : Delivered lives s x) (g : Rooted lives s r) → ((y : LifeId) → Reached s r y → Reached s x y) → (n : ℕ) (y : LifeId) → Reached s r y → (place s y).level < n
    → is_some (finish (node s y).card (node s y).log) ≡ true
finished_now lives s x r d g into zero y h low = absurd (omega (arith, low))
finished_now lives s x r d g into (suc n) y h low =
    ⊎_elim (λ (ne : y ≡ r → ⊥). below ne (λ z hz up. finished_now lives s x r d g into n z hz up)) (λ (is : y ≡ r). at_root is) (decide_life y r)
  where
    my : Member lives s r y g
    my = member lives s r y g h

    at_root : y ≡ r → is_some (finish (node s y).card (node s y).log) ≡ true
    at_root is =
        root_finishes (node s y).card (node s y).log my.stable
        (ap (place s) is ∙ at_own lives s r g ∙ ap self_root (sym is ∙ sym (me_is lives s g.run y)))

    below : (y ≡ r → ⊥) → ((z : LifeId) → Reached s r z → (place s z).level < n → is_some (finish (node s z).card (node s z).log) ≡ true) → is_some (finish (node s y).card (node s y).log) ≡ true
    below ne rest =
        let f = from_parent lives s r y g h ne in
        let z = f.parent in
        let up = ap (λ (a : Place). a.level) f.is in
        let at = ap (λ (a : Place). a.port) f.is in
        let done = some_is (finish (node s z).card (node s z).log) (rest z f.reached (omega (arith, up, low))) in
        let mz = member lives s r z g f.reached in
        let heard = heard_all lives s x y d (into y h) f.port z f.far f.linked.there in
        let named = names_each lives s r g z y done.0 f.reached h (finished_under lives s g.few g.run z (node s z) done.0 mz.joined done.1) in
        let passed = topo_passed (node s z).card f.far heard.link (node s z).log done.0
        (λ k e was. claimed_then lives s r g z f.far y f.port (turned s y f.port z f.far f.linked) f.reached h at done.0 k e was) done.1 in
        named_finishes (node s y).card f.port done.0 (node s y).log named (subst (In (Topo done.0)) (sym heard.all) passed)

reached_append : (s : Slice) (a b c : LifeId) → Reached s a b → Reached s b c → Reached s a c
reached_append s a b _ h start = h
reached_append s a b _ h (next x z p q n g sx named) = next x z p q n (reached_append s a b x h g) sx named

pub has_ended : (lives : List LifeId) (s : Slice) (x : LifeId) → length lives ≤ 126 → Run lives nobody s → IsDelivered s x → HasEnded lives s x
has_ended lives s x few run all = record {
  root = r;
  was = was;
  detected = detected;
  members = λ y. (λ h. to_root y h, λ h. from_root y h);
  topology = topology;
  finished = λ y n h sy.
      let done = some_is (finish (node s y).card (node s y).log) (finished_now lives s x r d g from_root (suc (place s y).level) y (to_root y h) (omega arith)) in
      subst (λ (a : Node). finish a.card a.log ≡ Some topology) (node_is s y n sy)
      (done.1 ∙ ap Some (one_topology lives s r g (node s r).log (earlier_itself (node s r).log) stable_root y (node s y) done.0 (to_root y h) (in_joined lives s x y d h) done.1));
  entries = λ e. (
    λ i. moved r x (λ y h. from_root y h) e ((detected.entries (node s r) (node s r).log joined_root (earlier_itself (node s r).log) stable_root e).0 i),
    λ m. (detected.entries (node s r) (node s r).log joined_root (earlier_itself (node s r).log) stable_root e).1 (moved x r (λ y h. to_root y h) e m),
  );
  rising = detected.rising (node s r) (node s r).log joined_root (earlier_itself (node s r).log) stable_root;
  numbers = refl;
}
  where
    d : Delivered lives s x
    d = record { few = few; run = run; all = all }

    r : LifeId
    r = (place s x).root

    had : Reach (laws lives s few run (no_content s)) r x
    had = had_its_root lives s few run x

    there : Reached s x r
    there = reach_back lives s few run (no_content s) r x x had start

    back : Reached s r x
    back = reached lives s few run (no_content s) r x had

    to_root : (y : LifeId) → Reached s x y → Reached s r y
    to_root y h = reached_append s r x y back h

    from_root : (y : LifeId) → Reached s r y → Reached s x y
    from_root y h = reached_append s x r y there h

    joined_root : s r ≡ Some (node s r)
    joined_root = in_joined lives s x r d there

    stable_root : is_stable (node s r).card (node s r).log ≡ true
    stable_root = stable_now lives s x d 126 r there (omega arith)

    was : WasStableRoot s r
    was = record { node = node s r; joined = joined_root; moment = (node s r).log; earlier = earlier_itself (node s r).log; stable = stable_root; root = same_root lives s x r d there }

    g : Rooted lives s r
    g = record { few = few; run = run; was = was }

    detected : IsDetected lives s r
    detected = is_detected lives s r few run was

    topology : TopoOf
    topology = topology_of (report (node s r).card (node s r).log)

    moved : (a b : LifeId) → ((y : LifeId) → Reached s a y → Reached s b y) → (e : EntryOf) → IsMemberEntry s a e → IsMemberEntry s b e
    moved a b into e m = record { life = m.life; node = m.node; reached = into m.life m.reached; joined = m.joined; is = m.is }

-- Nothing is under way among lives that have accepted all and whose links lead to such lives only.
pub delivered_among : (s : Slice) (Among : LifeId → Type 0) → ((y : LifeId) → Among y → AcceptedAll s y)
    → ((y : LifeId) (n : Node) (p : ℕ) (z : LifeId) (q : ℕ) → Among y → s y ≡ Some n → Names n.card p z q → Among z)
    → (x : LifeId) → Among x → IsDelivered s x
delivered_among s Among all closed x i y h = all y (inside y h)
  where
    inside : (y : LifeId) → Reached s x y → Among y
    inside _ start = i
    inside _ (next y z p q n h sy named) = closed y n p z q (inside y h) sy named
