use Rattle.std.proofs.Common.{◌≡◌, ◌≢◌, ◌⊎◌, inl, inr, ℕ, suc, ◌+◌, ◌≤◌, ◌<◌, List, [], ◌∷◌, length, Option, Some, None, Bool, true, false, true≢false, cond, refl, sym, ap, ◌∙◌, subst, ⊎_elim, arith}
use Rattle.std.specs.Prelude.{◌==◌, is_some}
use Rattle.an_base.specs.Values.{LifeId, EndId, Place, PeerAt, PosOf}
use Rattle.an_base.specs.Order.{life_cmp, IsBelow}
use Rattle.an_base.specs.declared.body.Body.{Body}
use Rattle.an_base.specs.declared.body.Body.TheVariants.{Pos, Answer, Stable, Topo}
use Rattle.an_base.specs.TotalOrders.{life_total}
use Rattle.an_base.proofs.LifeLemmas.{below_same}
use Rattle.tree_position.specs.Position.{self_root, lesser}
use Rattle.epoch_core.specs.Log.{CardOf, OnPort, Log, on_port, is_claimed, answered, fresh_report}
use Rattle.epoch_core.specs.Epoch.{version, position, is_stable, sent}
use Rattle.epoch_core.specs.Laws.{IsAtMost}
use Rattle.epoch_game.specs.Slice.{Earlier, Node, Slice, nobody, with_node, link_at, Names, Run, none, joins, accepts}
use Rattle.epoch_game.specs.Streams.{positions_in, answers_in}
use Rattle.epoch_game.specs.Leaving.{WasStableRoot, IsStableUnder, HadLast, IsUnstableAbove, HasLeft, LeftUnstable, NobodyLeaves}
use Rattle.epoch_game.proofs.Basics.{number_itself, none_some, bool_cases}
use Rattle.epoch_game.proofs.Lists.{earlier_itself}
use Rattle.epoch_game.proofs.Moments.{version_grows, at, at_cases, at_earlier, at_grows, at_whole, number, earlier_length}
use Rattle.epoch_game.proofs.Nodes.{after, decide_life, node_here, node_else, node_cases, not_own, has_link, with_item}
use Rattle.epoch_game.proofs.StreamLemmas.{nodes}
use Rattle.epoch_game.proofs.Orders.{Before, LifeAtMost, lesser_cases, le_or_lt, le_lt_trans, root_at_most, level_at_most}
use Rattle.epoch_game.proofs.OfferLemmas.{behind, FromLink, position_is, at_most_self}
use Rattle.epoch_game.proofs.ImproveLemmas.{best, best_with, improving, next_pos}
use Rattle.epoch_game.proofs.HandshakeLemmas.{Lasting, IsLast, lasting_step, life_antisym}
use Rattle.epoch_game.proofs.EpochLaws.{EpochLaws}
use Rattle.epoch_game.proofs.LeaverLemmas.{NeverStable, IsLeaver, Upward, find_last, neighbour_left, nobody_leaves, upward}
use Rattle.epoch_game.proofs.StateLemmas.{or_blank, node, IsBlank, node_joined, node_is, Linked, turned, joined, me_is, mom, improves_at, law_seen, law_answered, law_stable, Settled, stable_at, stable_from, stable_on, Content, laws, no_content}
use Rattle.std.proofs.lemmas.Bool.{eqb-true}

-- Once stable, a life stays stable while its version stays.
abbrev pub LastingIn : Node → Type 0
LastingIn n = (h k : Log) → Earlier h k → Earlier k n.log → version n.card h ≡ version n.card k → is_stable n.card h ≡ true → is_stable n.card k ≡ true

-- the newest body of a life that was stable, where the version stayed
lasting_new : (lives : List LifeId) (s : Slice) (x : LifeId) (p : ℕ) (z : LifeId) (q : ℕ) (b : Body) (l : Log) → length lives ≤ 126 → Run lives nobody s → Linked s x p z q
    → (node s x).log ≡ record { port = p; body = b } ∷ l
    → version (node s x).card l ≡ version (node s x).card (record { port = p; body = b } ∷ l)
    → is_stable (node s x).card l ≡ true → is_stable (node s x).card (record { port = p; body = b } ∷ l) ≡ true
lasting_new lives s x p z q b l few run lk is v st = stable_from c new (λ k i. each k (p == k.port) refl (stable_at c l k st i))
  where
    c : CardOf
    c = (node s x).card

    new : Log
    new = record { port = p; body = b } ∷ l

    inside : Earlier l (node s x).log
    inside = subst (Earlier l) (sym is) (inr (earlier_itself l))

    whole : Earlier new (node s x).log
    whole = subst (Earlier new) (sym is) (earlier_itself new)

    here : on_port p new ≡ b ∷ on_port p l
    here = ap (λ (g : Bool). cond g (b ∷ on_port p l) (on_port p l)) (number_itself p)

    old : Settled l (version c l) p
    old = stable_on s x p z q l lk.there st

    -- what is settled, by the bodies on the port
    on : List Body → Type 0
    on r = (answered r ≡ Some (version c new)) × (is_claimed r ≡ true → is_some (fresh_report r) ≡ true)

    claim_again : (d : PosOf) → Pos d ≡ b → d.to_parent ≡ true → ⊥
    claim_again d e up =
        let i = number l (node s x).log inside in
        let full : mom s x (length (node s x).log) ≡ new = at_whole (node s x).log ∙ is in
        let heard : on_port p new ≡ Pos d ∷ on_port p l = here ∙ ap (λ (y : Body). y ∷ on_port p l) (sym e) in
        lasting_step (laws lives s few run (no_content s)) x p z q (length l) lk i.0 (subst (λ a. is_stable c a ≡ true) (sym i.1) st)
        (ap (version c) i.1 ∙ v ∙ ap (version c) (sym full))
        (ap (λ a. positions_in (on_port p a)) full ∙ ap positions_in heard ∙ ap (λ a. suc (positions_in (on_port p a))) (sym i.1))
        (ap (λ a. is_claimed (on_port p a)) full ∙ ap is_claimed heard ∙ up)

    answer_again : (y : Body) → y ≡ b → answers_in (y ∷ on_port p l) ≡ suc (answers_in (on_port p l)) → ⊥
    answer_again y e count =
        let before = law_stable lives s run x p z q lk l inside st in
        let after : answers_in (on_port p new) ≡ suc (answers_in (on_port p l)) = ap answers_in (here ∙ ap (λ (a : Body). a ∷ on_port p l) (sym e)) ∙ count in
        let a = law_answered lives s run x p z q lk new whole (subst (λ n. 1 ≤ n) (sym after) (omega arith)) in
        let few_seen = law_seen lives s run z q x p (turned s x p z q lk) a.moment a.earlier in
        let top : version c (node s x).log ≡ version c new = ap (version c) is in
        let had = a.count in
        omega (arith, before, after, had, few_seen, top, v)

    by_body : (y : Body) → y ≡ b → on (y ∷ on_port p l)
    by_body (Pos d) e = (old.answered ∙ ap Some v, (λ f. absurd (claim_again d e f)))
    by_body (Answer d) e = absurd (answer_again (Answer d) e refl)
    by_body (Stable es) e = (old.answered ∙ ap Some v, (λ f. refl))
    by_body (Topo t) e = (old.answered ∙ ap Some v, old.reported)

    settled_by : (r : List Body) (k : ℕ) → on_port k new ≡ r → on r → Settled new (version c new) k
    settled_by r k e o = record {
      answered = ap answered e ∙ o.0;
      reported = λ f. subst (λ (a : List Body). is_some (fresh_report a) ≡ true) (sym e) (o.1 (sym (ap is_claimed e) ∙ f));
    }

    each : (k : PeerAt) (g : Bool) → (p == k.port) ≡ g → Settled l (version c l) k.port → Settled new (version c new) k.port
    each k true e o = subst (Settled new (version c new)) (eqb-true p k.port e) (settled_by (b ∷ on_port p l) p here (by_body b refl))
    each k false e o =
        settled_by (on_port k.port l) k.port (ap (λ (g : Bool). cond g (b ∷ on_port k.port l) (on_port k.port l)) e) (o.answered ∙ ap Some v, o.reported)

own_node : (t : Slice) (x : LifeId) (new : Node) → node (with_node t x new) x ≡ new
own_node t x new = node_is (with_node t x new) x new (node_here t x new)

other_node : (t : Slice) (x y : LifeId) (new : Node) → (x ≡ y → ⊥) → node (with_node t x new) y ≡ node t y
other_node t x y new ne = ap (or_blank y) (node_else t x y new ne)

linked_after : (t : Slice) (x z : LifeId) (p q : ℕ) (n m new : Node) → new.card ≡ n.card → (x ≡ z → ⊥) → t z ≡ Some m → Names n.card p z q → Names m.card q x p → Linked (with_node t x new) x p z q
linked_after t x z p q n m new card ne sz lx lz = record {
  there = subst (λ (a : Node). Names a.card p z q) (sym (own_node t x new)) (subst (λ (c : CardOf). Names c p z q) (sym card) lx);
  back = subst (λ (a : Node). Names a.card q x p) (sym (other_node t x z new ne ∙ node_is t z m sz)) lz;
}

lasting_accept : (lives : List LifeId) (t : Slice) (x z : LifeId) (p q : ℕ) (n : Node) (b : Body) → length lives ≤ 126 → Run lives nobody (after t x n (record { port = p; body = b })) → Linked (after t x n (record { port = p; body = b })) x p z q
    → LastingIn n → LastingIn (with_item n (record { port = p; body = b }))
lasting_accept lives t x z p q n b few run lk old h k e1 (inr e2) v st = old h k e1 e2 v st
lasting_accept lives t x z p q n b few run lk old h k e1 (inl e2) v st =
    ⊎_elim
    (λ (same : h ≡ log). subst (λ a. is_stable n.card a ≡ true) (same ∙ sym e2) st)
    (λ (e : Earlier h n.log).
    let low = version_grows n.card h n.log e in
    let up : version n.card n.log ≤ version n.card log = version_grows n.card n.log log (inr (earlier_itself n.log)) in
    let v2 : version n.card h ≡ version n.card log = v ∙ ap (version n.card) e2 in
    let was : is_stable n.card n.log ≡ true = old h n.log e (earlier_itself n.log) (omega (arith, low, up, v2)) st in
    let is : node (after t x n item) x ≡ with_item n item = own_node t x (with_item n item) in
    let now = lasting_new lives (after t x n item) x p z q b n.log few run lk (ap (λ (a : Node). a.log) is)
    (subst (λ (a : Node). version a.card n.log ≡ version a.card log) (sym is) (omega (arith, low, up, v2)))
    (subst (λ (a : Node). is_stable a.card n.log ≡ true) (sym is) was) in
    subst (λ a. is_stable n.card a ≡ true) (sym e2) (subst (λ (a : Node). is_stable a.card log ≡ true) is now))
    (subst (Earlier h) e2 e1)
  where
    item : OnPort
    item = record { port = p; body = b }

    log : Log
    log = item ∷ n.log

apart : (lives : List LifeId) (t : Slice) (x z : LifeId) (p q : ℕ) (n : Node) → Run lives nobody t → t x ≡ Some n → Names n.card p z q → x ≡ z → ⊥
apart lives t x z p q n run sx lx e = not_own x n.card p z q (nodes lives t run x n sx).0 lx e

pub lasting : (lives : List LifeId) (s : Slice) → length lives ≤ 126 → Run lives nobody s → (y : LifeId) (k : Node) → s y ≡ Some k → LastingIn k
lasting lives _ few none y k e = absurd (none_some e)
lasting lives _ few (joins t x c run free known ok) y k e =
    let old = lasting lives t few run in
    ⊎_elim
    (λ (w : (x ≡ y) × (record { card = c; log = [] } ≡ k)). subst LastingIn w.1 (λ h i a d v st. subst (λ j. is_stable c j ≡ true) (subst (Earlier h) d a ∙ sym d) st))
    (λ (w : (x ≡ y → ⊥) × (t y ≡ Some k)). old y k w.1)
    (node_cases t x y (record { card = c; log = [] }) k e)
lasting lives _ few (accepts t x z p q n m b run sx sz lx lz next) y k e =
    let old = lasting lives t few run in
    let new = with_item n (record { port = p; body = b }) in
    ⊎_elim
    (λ (w : (x ≡ y) × (new ≡ k)).
    subst LastingIn w.1
    (lasting_accept lives t x z p q n b few (accepts t x z p q n m b run sx sz lx lz next)
    (linked_after t x z p q n m new refl (apart lives t x z p q n run sx lx) sz lx lz) (old x n sx)))
    (λ (w : (x ≡ y → ⊥) × (t y ≡ Some k)). old y k w.1)
    (node_cases t x y new k e)

-- Who had root r last at moment j, and has a lesser root now.
record LastIn (n : Node) (r : LifeId) (j : ℕ) : Type 0 where
  within : j ≤ length n.log
  root : (position n.card (at n.log j)).root ≡ r
  most : (k : ℕ) → k ≤ length n.log → (position n.card (at n.log k)).root ≡ r → k ≤ j

record LeaverIn (n : Node) (r : LifeId) (j : ℕ) : Type 0 where
  last : LastIn n r j
  left : IsBelow (position n.card n.log).root r

record WitnessIn (n : Node) (r : LifeId) (j : ℕ) : Type 0 where
  leaver : LeaverIn n r j
  unstable : is_stable n.card (at n.log j) ≡ true → ⊥

record SomeWitness (s : Slice) (r : LifeId) : Type 0 where
  life : LifeId
  moment : ℕ
  witness : WitnessIn (node s life) r moment

abbrev Never : Slice → Type 0
Never s = (r y : LifeId) (j : ℕ) → LeaverIn (node s y) r j → SomeWitness s r

-- an empty list left nothing
no_leaver : (n : Node) (r : LifeId) (j : ℕ) → n.log ≡ [] → LeaverIn n r j → ⊥
no_leaver n r j e h =
    let a : (position n.card []).root ≡ r = ap (λ l. (position n.card l).root) (sym (ap (λ l. at l j) e)) ∙ h.last.root in
    let b : IsBelow (position n.card []).root r = subst (λ l. IsBelow (position n.card l).root r) e h.left in
    below_same (position n.card []).root r a b

-- with one more item the moments before are the same
at_older : (x : OnPort) (l : Log) (i : ℕ) → i ≤ length l → at (x ∷ l) i ≡ at l i
at_older x l i e = ⊎_elim (λ w. let a = w.0 in absurd (omega (arith, e, a))) (λ w. w.1) (at_cases x l i)

older_last : (c : CardOf) (x : OnPort) (l : Log) (r : LifeId) (j : ℕ) → IsBelow (position c (x ∷ l)).root r → LastIn (record { card = c; log = l }) r j → LeaverIn (record { card = c; log = x ∷ l }) r j
older_last c x l r j less h = record {
  last = record { within = let a = h.within in omega (arith, a); root = ap (λ a. (position c a).root) (at_older x l j h.within) ∙ h.root; most = last };
  left = less;
}
  where
    last : (k : ℕ) → k ≤ length (x ∷ l) → (position c (at (x ∷ l) k)).root ≡ r → k ≤ j
    last k hk e =
        ⊎_elim
        (λ (w : (length l < k) × (at (x ∷ l) k ≡ x ∷ l)). absurd (below_same (position c (x ∷ l)).root r (ap (λ a. (position c a).root) (sym w.1) ∙ e) less))
        (λ (w : (k ≤ length l) × (at (x ∷ l) k ≡ at l k)). h.most k w.0 (ap (λ a. (position c a).root) (sym w.1) ∙ e))
        (at_cases x l k)

newer_last : (c : CardOf) (x : OnPort) (l : Log) (r : LifeId) (j : ℕ) → LeaverIn (record { card = c; log = x ∷ l }) r j → LastIn (record { card = c; log = l }) r j
newer_last c x l r j h =
    ⊎_elim
    (λ (w : (length l < j) × (at (x ∷ l) j ≡ x ∷ l)). absurd (below_same (position c (x ∷ l)).root r (ap (λ a. (position c a).root) (sym w.1) ∙ h.last.root) h.left))
    (λ (w : (j ≤ length l) × (at (x ∷ l) j ≡ at l j)). record {
      within = w.0;
      root = ap (λ a. (position c a).root) (sym w.1) ∙ h.last.root;
      most = λ k hk e. h.last.most k (omega (arith, hk)) (ap (λ a. (position c a).root) (at_older x l k hk) ∙ e);
    })
    (at_cases x l j)

-- the newest item brought a lesser root: the peer had it
record Brought (m : Node) (r : LifeId) : Type 0 where
  moment : Log
  earlier : Earlier moment m.log
  below : IsBelow (position m.card moment).root r

brought : (lives : List LifeId) (t : Slice) (x z : LifeId) (p q : ℕ) (n m : Node) (b : Body) → length lives ≤ 126 → Run lives nobody t → t x ≡ Some n → t z ≡ Some m → Names n.card p z q → Names m.card q x p
    → Earlier (b ∷ on_port p n.log) (sent m.card q m.log)
    → IsBelow (position n.card (record { port = p; body = b } ∷ n.log)).root (position n.card n.log).root → Brought m (position n.card n.log).root
brought lives t x z p q n m b few run sx sz lx lz next less = by_body b refl
  where
    item : OnPort
    item = record { port = p; body = b }

    log : Log
    log = item ∷ n.log

    after_run : Run lives nobody (after t x n item)
    after_run = accepts t x z p q n m b run sx sz lx lz next

    is_best : position n.card log ≡ best n.card log
    is_best = (improving lives (after t x n item) few after_run).0 x (with_item n item) (node_here t x (with_item n item)) log (earlier_itself log)

    was_best : position n.card n.log ≡ best n.card n.log
    was_best = (improving lives t few run).0 x n sx n.log (earlier_itself n.log)

    unmoved : position n.card log ≡ position n.card n.log → Brought m (position n.card n.log).root
    unmoved e = absurd (below_same (position n.card log).root (position n.card n.log).root (ap (λ (a : Place). a.root) e) less)

    with_body : (y : Body) → y ≡ b → position n.card log ≡ best_with y (link_at p n.card.links) p (best n.card n.log)
    with_body y e = is_best ∙ ap (λ (a : Body). best_with a (link_at p n.card.links) p (best n.card n.log)) (sym e)

    by_body : (y : Body) → y ≡ b → Brought m (position n.card n.log).root
    by_body (Pos d) e =
        let fr = next_pos m.card q m.log (on_port p n.log) d
        (has_link z m.card q x p (nodes lives t run z m sz).0 lz) (subst (λ (a : Body). Earlier (a ∷ on_port p n.log) (sent m.card q m.log)) (sym e) next) in
        let k0 : PeerAt = record { port = p; peer = record { life = z; port = q } } in
        let is : position n.card log ≡ lesser (behind k0 d) (position n.card n.log) =
        with_body (Pos d) e ∙ ap (λ (a : Option EndId). best_with (Pos d) a p (best n.card n.log)) lx ∙ ap (lesser (behind k0 d)) (sym was_best) in
        ⊎_elim
        (λ (w : (IsAtMost (behind k0 d) (position n.card n.log)) × (lesser (behind k0 d) (position n.card n.log) ≡ behind k0 d)).
        record { moment = fr.moment; earlier = fr.earlier; below = subst (λ (a : LifeId). IsBelow a (position n.card n.log).root) (ap (λ (a : Place). a.root) (is ∙ w.1) ∙ ap (λ (a : PosOf). a.root) fr.is) less })
        (λ (w : (Before (position n.card n.log) (behind k0 d)) × (lesser (behind k0 d) (position n.card n.log) ≡ position n.card n.log)). unmoved (is ∙ w.1))
        (lesser_cases (behind k0 d) (position n.card n.log))
    by_body (Answer d) e = unmoved (with_body (Answer d) e ∙ sym was_best)
    by_body (Stable es) e = unmoved (with_body (Stable es) e ∙ sym was_best)
    by_body (Topo u) e = unmoved (with_body (Topo u) e ∙ sym was_best)

-- a witness of before is one after
witness_after : (lives : List LifeId) (t : Slice) (x : LifeId) (n : Node) (item : OnPort) (r : LifeId) → length lives ≤ 126 → Run lives nobody (after t x n item) → t x ≡ Some n → SomeWitness t r → SomeWitness (after t x n item) r
witness_after lives t x n item r few run sx w =
    ⊎_elim
    (λ (ne : x ≡ w.life → ⊥). record { life = w.life; moment = w.moment; witness = subst (λ (a : Node). WitnessIn a r w.moment) (sym (other_node t x w.life new ne)) w.witness })
    (λ (at_x : x ≡ w.life).
    let mine : WitnessIn n r w.moment = subst (λ (a : Node). WitnessIn a r w.moment) (ap (node t) (sym at_x) ∙ node_is t x n sx) w.witness in
    let down : LifeAtMost (position n.card log).root (position n.card n.log).root =
    root_at_most (position n.card log) (position n.card n.log) (subst (λ (a : Node). IsAtMost (position a.card log) (position a.card n.log)) is
    (improves_at lives (after t x n item) few run x n.log log (inr (earlier_itself n.log)) (subst (λ (a : Node). Earlier log a.log) (sym is) (earlier_itself log)))) in
    let lv : LeaverIn new r w.moment = older_last n.card item n.log r w.moment (le_lt_trans life_cmp life_total (position n.card log).root (position n.card n.log).root r down mine.leaver.left) mine.leaver.last in
    let st : is_stable n.card (at log w.moment) ≡ true → ⊥ = λ f. mine.unstable (subst (λ a. is_stable n.card a ≡ true) (at_older item n.log w.moment mine.leaver.last.within) f) in
    record { life = x; moment = w.moment; witness = subst (λ (a : Node). WitnessIn a r w.moment) (sym is) (record { leaver = lv; unstable = st }) })
    (decide_life x w.life)
  where
    log : Log
    log = item ∷ n.log

    new : Node
    new = with_item n item

    is : node (after t x n item) x ≡ new
    is = own_node t x new

never_accept : (lives : List LifeId) (t : Slice) (x z : LifeId) (p q : ℕ) (n m : Node) (b : Body) → length lives ≤ 126 → Run lives nobody t → t x ≡ Some n → t z ≡ Some m → Names n.card p z q → Names m.card q x p
    → Earlier (b ∷ on_port p n.log) (sent m.card q m.log) → Never t → Never (after t x n (record { port = p; body = b }))
never_accept lives t x z p q n m b few run sx sz lx lz next old r y j h =
    ⊎_elim
    (λ (ne : x ≡ y → ⊥). kept (old r y j (subst (λ (a : Node). LeaverIn a r j) (other_node t x y new ne) h)))
    (λ (e : x ≡ y). mine (subst (λ (a : Node). LeaverIn a r j) (ap (node (after t x n item)) (sym e) ∙ own_node t x new) h))
    (decide_life x y)
  where
    item : OnPort
    item = record { port = p; body = b }

    log : Log
    log = item ∷ n.log

    new : Node
    new = with_item n item

    after_run : Run lives nobody (after t x n item)
    after_run = accepts t x z p q n m b run sx sz lx lz next

    kept : SomeWitness t r → SomeWitness (after t x n item) r
    kept w = witness_after lives t x n item r few after_run sx w

    is_x : node t x ≡ n
    is_x = node_is t x n sx

    is_z : node t z ≡ m
    is_z = node_is t z m sz

    linked : Linked t x p z q
    linked = record { there = subst (λ (a : Node). Names a.card p z q) (sym is_x) lx; back = subst (λ (a : Node). Names a.card q x p) (sym is_z) lz }

    -- x was stable with root r: its neighbour had left r before
    was_stable : (position n.card n.log).root ≡ r → IsBelow (position n.card log).root r → is_stable n.card n.log ≡ true → SomeWitness (after t x n item) r
    was_stable same_root low st =
        let br = brought lives t x z p q n m b few run sx sz lx lz next (subst (IsBelow (position n.card log).root) (sym same_root) low) in
        let k = number br.moment m.log br.earlier in
        let nl = neighbour_left (laws lives t few run (no_content t)) x p z q (length br.moment) r linked
        (subst (λ (a : Node). is_stable a.card (at a.log (length a.log)) ≡ true) (sym is_x) (subst (λ a. is_stable n.card a ≡ true) (sym (at_whole n.log)) st))
        (subst (λ (a : Node). (position a.card (at a.log (length a.log))).root ≡ r) (sym is_x) (ap (λ a. (position n.card a).root) (at_whole n.log) ∙ same_root))
        (subst (λ (a : Node). length br.moment ≤ length a.log) (sym is_z) k.0)
        (subst (λ (a : Node). IsBelow (position a.card (at a.log (length br.moment))).root r) (sym is_z)
        (subst (λ a. IsBelow (position m.card a).root r) (sym k.1) (subst (IsBelow (position m.card br.moment).root) same_root br.below))) in
        kept (old r z nl.0 (record {
          last = record { within = nl.1.last.within; root = nl.1.last.root; most = nl.1.last.most };
          left = subst (λ (a : Log). IsBelow (position (node t z).card a).root r) (at_whole (node t z).log) nl.1.left;
        }))

    -- x was not stable: it is a witness itself
    was_not : (position n.card n.log).root ≡ r → IsBelow (position n.card log).root r → is_stable n.card n.log ≡ false → SomeWitness (after t x n item) r
    was_not same_root low unstable =
        let full : length n.log ≤ length n.log = omega arith in
        let last : LastIn n r (length n.log) = record { within = full; root = ap (λ a. (position n.card a).root) (at_whole n.log) ∙ same_root; most = λ i hi e. hi } in
        record {
          life = x;
          moment = length n.log;
          witness = subst (λ (a : Node). WitnessIn a r (length n.log)) (sym (own_node t x new)) (record {
            leaver = older_last n.card item n.log r (length n.log) low last;
            unstable = λ f. true≢false (sym f ∙ ap (is_stable n.card) (at_older item n.log (length n.log) full ∙ at_whole n.log) ∙ unstable);
          });
        }

    mine : LeaverIn new r j → SomeWitness (after t x n item) r
    mine lv =
        let w = newer_last n.card item n.log r j lv in
        let down : LifeAtMost (position n.card n.log).root r =
        subst (LifeAtMost (position n.card n.log).root) w.root
        (root_at_most (position n.card n.log) (position n.card (at n.log j)) (subst (λ (a : Node). IsAtMost (position a.card n.log) (position a.card (at n.log j))) is_x
        (improves_at lives t few run x (at n.log j) n.log (at_earlier n.log j) (subst (λ (a : Node). Earlier n.log a.log) (sym is_x) (earlier_itself n.log))))) in
        ⊎_elim
        (λ (ge : LifeAtMost r (position n.card n.log).root).
        let same_root : (position n.card n.log).root ≡ r = life_antisym (position n.card n.log).root r down ge in
        ⊎_elim (was_stable same_root lv.left) (was_not same_root lv.left) (bool_cases (is_stable n.card n.log)))
        (λ (lt : IsBelow (position n.card n.log).root r). kept (old r x j (subst (λ (a : Node). LeaverIn a r j) (sym is_x) (record { last = w; left = lt }))))
        (le_or_lt life_cmp life_total r (position n.card n.log).root)

never_join : (t : Slice) (x : LifeId) (c : CardOf) → t x ≡ None → Never t → Never (with_node t x (record { card = c; log = [] }))
never_join t x c free old r y j h =
    ⊎_elim
    (λ (ne : x ≡ y → ⊥). kept (old r y j (subst (λ (a : Node). LeaverIn a r j) (other_node t x y new ne) h)))
    (λ (e : x ≡ y). absurd (no_leaver (node (with_node t x new) y) r j (ap (λ (a : Node). a.log) (ap (node (with_node t x new)) (sym e) ∙ own_node t x new)) h))
    (decide_life x y)
  where
    new : Node
    new = record { card = c; log = [] }

    kept : SomeWitness t r → SomeWitness (with_node t x new) r
    kept w =
        ⊎_elim
        (λ (ne : x ≡ w.life → ⊥). record { life = w.life; moment = w.moment; witness = subst (λ (a : Node). WitnessIn a r w.moment) (sym (other_node t x w.life new ne)) w.witness })
        (λ (f : x ≡ w.life). absurd (no_leaver (node t w.life) r w.moment (ap (λ (a : Node). a.log) (ap (node t) (sym f) ∙ ap (or_blank x) free)) w.witness.leaver))
        (decide_life x w.life)

never : (lives : List LifeId) (s : Slice) → length lives ≤ 126 → Run lives nobody s → Never s
never lives _ few none r y j h = absurd (no_leaver (node nobody y) r j refl h)
never lives _ few (joins t x c run free known ok) r y j h = never_join t x c free (never lives t few run) r y j h
never lives _ few (accepts t x z p q n m b run sx sz lx lz next) r y j h = never_accept lives t x z p q n m b few run sx sz lx lz next (never lives t few run) r y j h

-- a life whose root it is itself is at its own position
pub own_root : (c : CardOf) (l : Log) → (position c l).root ≡ c.me → position c l ≡ self_root c.me
own_root c l e =
    ⊎_elim (λ (w : position c l ≡ self_root c.me). w)
    (λ (w : FromLink c l (position c l)).
    absurd (over (position c l).level w.told.level (level_at_most (position c l) (self_root c.me) (at_most_self c l) e) (ap (λ (a : Place). a.level) w.is)))
    (position_is c l)
  where
    over : (a v : ℕ) → a ≤ 0 → a ≡ v + 1 → ⊥
    over a v x y = omega (arith, x, y)

-- The laws of any state: whatever is said of reports.
pub lasting_state : (lives : List LifeId) (s : Slice) (few : length lives ≤ 126) (run : Run lives nobody s) (content : Content s) → Lasting (laws lives s few run content)
lasting_state lives s few run content x i j ij hj v st =
    ⊎_elim
    (λ (e : s x ≡ Some (node s x)). lasting lives s few run x (node s x) e (mom s x i) (mom s x j) (at_grows (node s x).log i j ij) (at_earlier (node s x).log j) v st)
    (λ (w : IsBlank x (node s x)). subst (λ a. is_stable (node s x).card a ≡ true) (ap (λ l. at l i) w.log ∙ sym (ap (λ l. at l j) w.log)) st)
    (node_joined s x)

-- the same of moments by number
leaver_from : (lives : List LifeId) (s : Slice) (few : length lives ≤ 126) (run : Run lives nobody s) (content : Content s) (r y : LifeId) (j : ℕ) → IsLeaver (laws lives s few run content) r y j → LeaverIn (node s y) r j
leaver_from lives s few run content r y j h = record {
  last = record { within = h.last.within; root = h.last.root; most = h.last.most };
  left = subst (λ (a : Log). IsBelow (position (node s y).card a).root r) (at_whole (node s y).log) h.left;
}

pub never_state : (lives : List LifeId) (s : Slice) (few : length lives ≤ 126) (run : Run lives nobody s) (content : Content s) (r : LifeId) → NeverStable (laws lives s few run content) r
never_state lives s few run content r y j h =
    let w = never lives s few run r y j (leaver_from lives s few run content r y j h) in
    let lv = w.witness.leaver in
    record {
      life = w.life;
      moment = w.moment;
      leaver = record {
        last = record { within = lv.last.within; root = lv.last.root; most = lv.last.most };
        left = subst (λ (a : Log). IsBelow (position (node s w.life).card a).root r) (sym (at_whole (node s w.life).log)) lv.left;
      };
      unstable = w.witness.unstable;
    }

-- a life that was once a stable root is stable in its last moment as its own root
pub record StableLast (w : EpochLaws) (r : LifeId) : Type 0 where
  pub moment : ℕ
  pub last : IsLast w r r moment
  pub stable : w.stable r moment ≡ true

pub stable_last : (lives : List LifeId) (s : Slice) (few : length lives ≤ 126) (run : Run lives nobody s) (content : Content s) (r : LifeId) → WasStableRoot s r → StableLast (laws lives s few run content) r
stable_last lives s few run content r was = record { moment = g.0; last = g.1; stable = stable_then }
  where
    w : EpochLaws
    w = laws lives s few run content

    is_r : node s r ≡ was.node
    is_r = node_is s r was.node was.joined

    k0 : (length was.moment ≤ length (node s r).log) × (at (node s r).log (length was.moment) ≡ was.moment)
    k0 = number was.moment (node s r).log (subst (λ (a : Node). Earlier was.moment a.log) (sym is_r) was.earlier)

    root_r : (position (node s r).card (at (node s r).log (length was.moment))).root ≡ r
    root_r = subst (λ (a : Node). (position a.card (at (node s r).log (length was.moment))).root ≡ r) (sym is_r) (ap (λ a. (position was.node.card a).root) k0.1 ∙ was.root)

    g : (i : ℕ) × (IsLast w r r i) × (length was.moment ≤ i)
    g = find_last w r r (length was.moment) k0.0 root_r

    self_at : (i : ℕ) → (position (node s r).card (at (node s r).log i)).root ≡ r → position (node s r).card (at (node s r).log i) ≡ self_root (node s r).card.me
    self_at i d = own_root (node s r).card (at (node s r).log i) (d ∙ sym (me_is lives s run r))

    stable_then : is_stable (node s r).card (at (node s r).log g.0) ≡ true
    stable_then =
        lasting_state lives s few run content r (length was.moment) g.0 g.2 g.1.within
        (w.version_once r (length was.moment) g.0 k0.0 g.1.within (self_at (length was.moment) root_r ∙ sym (self_at g.0 g.1.root)))
        (subst (λ (a : Node). is_stable a.card (at (node s r).log (length was.moment)) ≡ true) (sym is_r) (subst (λ a. is_stable was.node.card a ≡ true) (sym k0.1) was.stable))

-- and nobody leaves it
stays_at : (lives : List LifeId) (s : Slice) → length lives ≤ 126 → Run lives nobody s → (r y : LifeId) (n : Node) (h : Log) → WasStableRoot s r → s y ≡ Some n → Earlier h n.log → (position n.card h).root ≡ r → IsStableUnder r n
stays_at lives s few run r y n h was sy e ry = subst (IsStableUnder r) is_y done
  where
    w : EpochLaws
    w = laws lives s few run (no_content s)

    is_y : node s y ≡ n
    is_y = node_is s y n sy

    ky : (length h ≤ length (node s y).log) × (at (node s y).log (length h) ≡ h)
    ky = number h (node s y).log (subst (λ (a : Node). Earlier h a.log) (sym is_y) e)

    last : StableLast w r
    last = stable_last lives s few run (no_content s) r was

    all : (IsLast w r y (length (node s y).log)) × (is_stable (node s y).card (at (node s y).log (length (node s y).log)) ≡ true)
    all =
        nobody_leaves w r last.moment (lasting_state lives s few run (no_content s)) (never_state lives s few run (no_content s) r) last.last last.stable y (length h) ky.0
        (subst (λ (a : Node). (position a.card (at (node s y).log (length h))).root ≡ r) (sym is_y) (ap (λ a. (position n.card a).root) ky.1 ∙ ry))

    done : IsStableUnder r (node s y)
    done = record {
      root = ap (λ a. (position (node s y).card a).root) (sym (at_whole (node s y).log)) ∙ all.0.root;
      stable = subst (λ a. is_stable (node s y).card a ≡ true) (at_whole (node s y).log) all.1;
    }

length_at : (l : Log) (i : ℕ) → i ≤ length l → length (at l i) ≡ i
length_at [] i e = omega (arith, e)
length_at (x ∷ l) i e =
    let old = length_at l i in
    ⊎_elim
    (λ (w : (length l < i) × (at (x ∷ l) i ≡ x ∷ l)). let low = w.0 in let long = ap length w.1 in omega (arith, low, long, e))
    (λ (w : (i ≤ length l) × (at (x ∷ l) i ≡ at l i)). ap length w.1 ∙ old w.0)
    (at_cases x l i)

-- the last moment with a root, by its number
had_last : (s : Slice) (r y : LifeId) (n : Node) (last : Log) → HadLast s r y n last → LastIn n r (length last)
had_last s r y n last h = record {
  within = (number last n.log h.earlier).0;
  root = ap (λ a. (position n.card a).root) (number last n.log h.earlier).1 ∙ h.root;
  most = λ k hk e. subst (λ m. m ≤ length last) (length_at n.log k hk) (earlier_length (at n.log k) last (h.most (at n.log k) (at_earlier n.log k) e));
}

-- and as a moment
last_most : (n : Node) (r : LifeId) (j : ℕ) → LastIn n r j → (h : Log) → Earlier h n.log → (position n.card h).root ≡ r → Earlier h (at n.log j)
last_most n r j last h e d =
    let k = number h n.log e in
    subst (λ (a : Log). Earlier a (at n.log j)) k.1 (at_grows n.log (length h) j (last.most (length h) k.0 (ap (λ a. (position n.card a).root) k.1 ∙ d)))

not_true : (b : Bool) → (b ≡ true → ⊥) → b ≡ false
not_true true f = absurd (f refl)
not_true false f = refl

-- who was not stable has one above it that was not
above_it : (lives : List LifeId) (s : Slice) → length lives ≤ 126 → Run lives nobody s → (r y : LifeId) (n : Node) (last : Log) → y ≢ r → HadLast s r y n last → is_stable n.card last ≡ false → IsUnstableAbove s r (position n.card last).level
above_it lives s few run r y n last other h unstable = record {
  life = up.upper;
  node = m;
  last = at m.log up.moment;
  had = record {
    joined = joined s up.upper up.port y up.far up.link.there;
    earlier = at_earlier m.log up.moment;
    root = top.root;
    most = last_most m r up.moment top;
  };
  above = subst (λ (a : Log). (position m.card (at m.log up.moment)).level < (position n.card a).level) here
      (subst (λ (a : Node). (position m.card (at m.log up.moment)).level < (position a.card (at a.log (length last))).level) is up.level);
  unstable = not_true (is_stable m.card (at m.log up.moment)) (λ st. true≢false (sym (subst (λ (a : Node). is_stable a.card (at a.log (length last)) ≡ true) is (up.stable st)) ∙ ap (is_stable n.card) here ∙ unstable));
}
  where
    is : node s y ≡ n
    is = node_is s y n h.joined

    here : at n.log (length last) ≡ last
    here = (number last n.log h.earlier).1

    mine : LastIn (node s y) r (length last)
    mine = subst (λ (a : Node). LastIn a r (length last)) (sym is) (had_last s r y n last h)

    up : Upward (laws lives s few run (no_content s)) r y (length last)
    up = upward (laws lives s few run (no_content s)) r y (length last) (lasting_state lives s few run (no_content s)) other (record { within = mine.within; root = mine.root; most = mine.most })

    m : Node
    m = node s up.upper

    top : LastIn m r up.moment
    top = record { within = up.last.within; root = up.last.root; most = up.last.most }

has_left : (s : Slice) (r y : LifeId) (h : HasLeft s r y) → LeaverIn (node s y) r (length h.last)
has_left s r y h =
    subst (λ (a : Node). LeaverIn a r (length h.last)) (sym (node_is s y h.node h.joined)) (record {
      last = had_last s r y h.node h.last (record { joined = h.joined; earlier = h.earlier; root = h.root; most = h.most });
      left = h.left;
    })

left_unstable : (s : Slice) (r : LifeId) → SomeWitness s r → LeftUnstable s r
left_unstable s r w = by (node_joined s w.life)
  where
    n : Node
    n = node s w.life

    lv : LeaverIn n r w.moment
    lv = w.witness.leaver

    by : (s w.life ≡ Some n) ⊎ IsBlank w.life n → LeftUnstable s r
    by (inr b) = absurd (no_leaver n r w.moment b.log lv)
    by (inl j) = record {
      life = w.life;
      leaver = record {
        node = n;
        joined = j;
        last = at n.log w.moment;
        earlier = at_earlier n.log w.moment;
        root = lv.last.root;
        most = last_most n r w.moment lv.last;
        left = lv.left;
      };
      unstable = not_true (is_stable n.card (at n.log w.moment)) w.witness.unstable;
    }

pub nobody_leaves_it : (lives : List LifeId) (s : Slice) → length lives ≤ 126 → Run lives nobody s → NobodyLeaves s
nobody_leaves_it lives s few run = record {
  lasting = λ x n h g sx a b v st. lasting lives s few run x n sx h g a b v st;
  upward = above_it lives s few run;
  never_stable = λ r y h. left_unstable s r (never lives s few run r y (length h.last) (has_left s r y h));
  stays = λ r y n h was sy e ry. stays_at lives s few run r y n h was sy e ry;
}
