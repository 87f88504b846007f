use Rattle.std.proofs.Common.{◌≡◌, ◌⊎◌, inl, inr, ℕ, ◌≤◌, ◌<◌, List, [], ◌∷◌, length, Option, Some, None, Bool, true, false, true≢false, cond, refl, sym, ap, ◌∙◌, subst, ⊎_elim, arith}
use Rattle.std.specs.Prelude.{◌==◌, ◌&&◌, ◌||◌, not, is_some, nat_lt}
use Rattle.std.specs.List.{list_all}
use Rattle.std.proofs.lemmas.Bool.{cases_lt, lt-ltb, le-ltb, eqb-true, and_parts}
use Rattle.std.proofs.lemmas.Bool.Decides.{nat_tests}
use Rattle.an_base.specs.Values.{LifeId, Place, PeerAt, EntryOf, PosOf}
use Rattle.an_base.specs.declared.body.Body.{Body}
use Rattle.common_values.proofs.ListLemmas.{some_is}
use Rattle.tree_position.specs.Position.{self_root}
use Rattle.topo_report.proofs.Members.{In}
use Rattle.epoch_core.specs.Log.{CardOf, Log, on_port, last_pos, is_claimed, answered, fresh_report}
use Rattle.epoch_core.specs.Epoch.{version, position, is_stable, is_settled, names, report}
use Rattle.epoch_core.specs.Laws.{IsAtMost}
use Rattle.epoch_game.specs.Slice.{Earlier, Node, Slice, nobody, link_at, Names, IsCardOf, Run}
use Rattle.epoch_game.specs.Streams.{positions_in, answers_in, told_on, AnswersFrom, HasNoAnswer, ShowsFar}
use Rattle.epoch_game.proofs.Lists.{earlier_trans}
use Rattle.epoch_game.proofs.Moments.{version_cases, version_least, version_grows, version_had, one_position, on_port_grows, positions_grow, at, at_earlier, at_grows, at_whole, number}
use Rattle.epoch_game.proofs.Basics.{some_same, none_some, number_itself}
use Rattle.epoch_game.proofs.Nodes.{link_found, rises}
use Rattle.epoch_game.proofs.StreamLemmas.{nodes, View, view_of, shows_far, names_its_number}
use Rattle.epoch_game.proofs.Orders.{same_at_most, given}
use Rattle.epoch_game.proofs.OfferLemmas.{behind, FromLink, position_is, one_port, port_above}
use Rattle.epoch_game.proofs.ImproveLemmas.{only_improves}
use Rattle.epoch_game.proofs.EpochLaws.{EpochLaws}

-- a life that has not joined counts as one without links and list
abbrev pub or_blank : LifeId → Option Node → Node
or_blank x None = record { card = record { me = x; proposed = 0; links = [] }; log = [] }
or_blank x (Some n) = n

abbrev pub node : Slice → LifeId → Node
node s x = or_blank x (s x)

pub record IsBlank (x : LifeId) (n : Node) : Type 0 where
  pub links : n.card.links ≡ []
  pub log : n.log ≡ []
  pub me : n.card.me ≡ x

pub node_joined : (s : Slice) (x : LifeId) → (s x ≡ Some (node s x)) ⊎ IsBlank x (node s x)
node_joined s x = by (s x)
  where
    by : (o : Option Node) → (o ≡ Some (or_blank x o)) ⊎ IsBlank x (or_blank x o)
    by None = inr (record { links = refl; log = refl; me = refl })
    by (Some n) = inl refl

pub node_is : (s : Slice) (x : LifeId) (n : Node) → s x ≡ Some n → node s x ≡ n
node_is s x n e = ap (or_blank x) e

-- port p of x and port q of z name each other
pub record Linked (s : Slice) (x : LifeId) (p : ℕ) (z : LifeId) (q : ℕ) : Type 0 where
  pub there : Names (node s x).card p z q
  pub back : Names (node s z).card q x p

pub turned : (s : Slice) (x : LifeId) (p : ℕ) (z : LifeId) (q : ℕ) → Linked s x p z q → Linked s z q x p
turned s x p z q l = record { there = l.back; back = l.there }

no_links : (c : CardOf) (p : ℕ) (z : LifeId) (q : ℕ) → c.links ≡ [] → Names c p z q → ⊥
no_links c p z q nil at = none_some (sym (ap (link_at p) nil) ∙ at)

pub joined : (s : Slice) (x : LifeId) (p : ℕ) (z : LifeId) (q : ℕ) → Names (node s x).card p z q → s x ≡ Some (node s x)
joined s x p z q at = ⊎_elim (λ e. e) (λ b. absurd (no_links (node s x).card p z q b.links at)) (node_joined s x)

pub me_is : (lives : List LifeId) (s : Slice) → Run lives nobody s → (x : LifeId) → (node s x).card.me ≡ x
me_is lives s run x = ⊎_elim (λ e. (nodes lives s run x (node s x) e).0.me) (λ b. b.me) (node_joined s x)

-- the moment with a number
abbrev pub mom : Slice → LifeId → ℕ → Log
mom s x i = at (node s x).log i

pub improves_at : (lives : List LifeId) (s : Slice) → length lives ≤ 126 → Run lives nobody s → (x : LifeId) (h g : Log) → Earlier h g → Earlier g (node s x).log → IsAtMost (position (node s x).card g) (position (node s x).card h)
improves_at lives s few run x h g a b =
    ⊎_elim
    (λ e. (only_improves lives s few run).improving x (node s x) h g e a b)
    (λ w.
    let none : g ≡ [] = subst (Earlier g) w.log b in
    same_at_most (position (node s x).card g) (position (node s x).card h) (ap (position (node s x).card) (none ∙ sym (subst (Earlier h) none a))))
    (node_joined s x)

-- what was heard on a link shows its far end
pub view : (lives : List LifeId) (s : Slice) → Run lives nobody s → (x : LifeId) (p : ℕ) (z : LifeId) (q : ℕ) → Linked s x p z q → (h : Log) → Earlier h (node s x).log → (on_port p h ≡ []) ⊎ View (node s z) q (on_port p h)
view lives s run x p z q l h e = view_of lives s x (node s x) p z (node s z) q h run (joined s x p z q l.there) (joined s z q x p l.back) l.there e

-- the moment at which a version began
abbrev pub with_version : CardOf → Log → ℕ → Log
with_version c [] n = []
with_version c (x ∷ l) n = cond (nat_lt (version c l) n) (x ∷ l) (with_version c l n)

pub with_version_is : (c : CardOf) (l : Log) (n : ℕ) → 1 ≤ n → n ≤ version c l → (Earlier (with_version c l n) l) × (version c (with_version c l n) ≡ n)
with_version_is c [] n lo hi = (refl, omega (arith, lo, hi))
with_version_is c (x ∷ l) n lo hi =
    ⊎_elim
    (λ (lt : version c l < n).
    let is : with_version c (x ∷ l) n ≡ x ∷ l = ap (λ (g : Bool). cond g (x ∷ l) (with_version c l n)) (lt-ltb (version c l) n lt) in
    (inl is, ap (version c) is ∙ ⊎_elim (λ w. let same = w.1 in absurd (omega (arith, same, lt, hi))) (λ w. let up = w.1 in omega (arith, up, lt, hi)) (version_cases c x l)))
    (λ (ge : n ≤ version c l).
    let is : with_version c (x ∷ l) n ≡ with_version c l n = ap (λ (g : Bool). cond g (x ∷ l) (with_version c l n)) (le-ltb (version c l) n ge) in
    let old = with_version_is c l n lo ge in
    (inr (subst (λ h. Earlier h l) (sym is) old.0), ap (version c) is ∙ old.1))
    (cases_lt (version c l) n)

abbrev pub plain : LifeId → ℕ → PeerAt
plain z p = record { port = p; peer = record { life = z; port = 0 } }

-- what version n of z gives at port p of its neighbour
abbrev pub gives_at : Slice → LifeId → ℕ → ℕ → Place
gives_at s z n p = given (position (node s z).card (with_version (node s z).card (node s z).log n)) (plain z p)

pub gives_is : (s : Slice) (z : LifeId) (j : Log) (p : ℕ) → Earlier j (node s z).log → gives_at s z (version (node s z).card j) p ≡ given (position (node s z).card j) (plain z p)
gives_is s z j p e =
    let c = (node s z).card in
    let w = with_version_is c (node s z).log (version c j) (version_least c j) (version_grows c j (node s z).log e) in
    ap (λ (a : Place). given a (plain z p)) (one_position c (node s z).log (with_version c (node s z).log (version c j)) j w.0 e w.1)

no_pos : (r : List Body) (b : PosOf) → r ≡ [] → last_pos r ≡ Some b → ⊥
no_pos r b e f = none_some (sym (ap last_pos e) ∙ f)

seen_none : (r : List Body) → r ≡ [] → 1 ≤ positions_in r → ⊥
seen_none r e one = let none = ap positions_in e in omega (arith, none, one)

pub law_uncut : (lives : List LifeId) (s : Slice) → length lives ≤ 126 → Run lives nobody s → (x : LifeId) (p : ℕ) (z : LifeId) (q i : ℕ) → Linked s x p z q → 1 ≤ positions_in (on_port p (mom s x i))
    → IsAtMost (position (node s x).card (mom s x i)) (gives_at s z (positions_in (on_port p (mom s x i))) p)
law_uncut lives s few run x p z q i l one = by (view lives s run x p z q l h e)
  where
    h : Log
    h = mom s x i

    e : Earlier h (node s x).log
    e = at_earlier (node s x).log i

    by : (on_port p h ≡ []) ⊎ View (node s z) q (on_port p h) → IsAtMost (position (node s x).card h) (gives_at s z (positions_in (on_port p h)) p)
    by (inl nil) = absurd (seen_none (on_port p h) nil one)
    by (inr v) =
        subst (IsAtMost (position (node s x).card h)) (sym (ap (λ n. gives_at s z n p) v.shows.count ∙ gives_is s z v.moment p v.earlier))
        ((only_improves lives s few run).uncut x (node s x) h p z q (told_on (version (node s z).card v.moment) (position (node s z).card v.moment) q) (joined s x p z q l.there) e l.there v.shows.place)

pub link_of : (c : CardOf) (p : ℕ) (z : LifeId) (q : ℕ) → Names c p z q → In (record { port = p; peer = record { life = z; port = q } }) c.links
link_of c p z q at =
    let f = link_found p c.links (record { life = z; port = q }) at in
    subst (λ (k : PeerAt). In k c.links) (λ i. record { port = f.port i; peer = f.peer i }) f.in_links

no_zero : (n : ℕ) → 0 ≡ n → 0 < n → ⊥
no_zero n e f = omega (arith, e, f)

pub law_parent_gives : (lives : List LifeId) (s : Slice) → Run lives nobody s → (x : LifeId) (p : ℕ) (z : LifeId) (q i : ℕ) → Linked s x p z q → (position (node s x).card (mom s x i)).port ≡ p
    → (1 ≤ positions_in (on_port p (mom s x i))) × (position (node s x).card (mom s x i) ≡ gives_at s z (positions_in (on_port p (mom s x i))) p)
law_parent_gives lives s run x p z q i l hp = by (position_is c h)
  where
    h : Log
    h = mom s x i

    c : CardOf
    c = (node s x).card

    e : Earlier h (node s x).log
    e = at_earlier (node s x).log i

    card : IsCardOf x c
    card = (nodes lives s run x (node s x) (joined s x p z q l.there)).0

    k0 : PeerAt
    k0 = record { port = p; peer = record { life = z; port = q } }

    in_links : In k0 c.links
    in_links = link_of c p z q l.there

    from_view : (w : FromLink c h (position c h)) → w.link ≡ k0 → last_pos (on_port p h) ≡ Some w.told → (on_port p h ≡ []) ⊎ View (node s z) q (on_port p h)
        → (1 ≤ positions_in (on_port p h)) × (position c h ≡ gives_at s z (positions_in (on_port p h)) p)
    from_view w is last (inl nil) = absurd (no_pos (on_port p h) w.told nil last)
    from_view w is last (inr v) =
        let d = (node s z).card in
        let told : w.told ≡ told_on (version d v.moment) (position d v.moment) q = some_same w.told _ (sym last ∙ v.shows.place) in (
          subst (λ n. 1 ≤ n) (sym v.shows.count) (version_least d v.moment),
          w.is ∙ ap (λ (k : PeerAt). behind k w.told) is ∙ ap (behind k0) told ∙ sym (ap (λ n. gives_at s z n p) v.shows.count ∙ gives_is s z v.moment p v.earlier),
        )

    by : (position c h ≡ self_root c.me) ⊎ FromLink c h (position c h) → (1 ≤ positions_in (on_port p h)) × (position c h ≡ gives_at s z (positions_in (on_port p h)) p)
    by (inl own) = absurd (no_zero p (sym (ap (λ (a : Place). a.port) own) ∙ hp) (port_above c k0 (rises x c card) in_links))
    by (inr w) =
        let port_is : w.link.port ≡ p = sym (ap (λ (a : Place). a.port) w.is) ∙ hp in
        from_view w (one_port 0 c.links w.link k0 (rises x c card) w.in_links in_links port_is) (ap (λ n. last_pos (on_port n h)) (sym port_is) ∙ w.offered.last) (view lives s run x p z q l h e)

pub record HasParent (s : Slice) (x : LifeId) (h : Log) : Type 0 where
  pub port : ℕ
  pub far : LifeId
  pub far_port : ℕ
  pub linked : Linked s x port far far_port
  pub is : (position (node s x).card h).port ≡ port

pub law_parent : (lives : List LifeId) (s : Slice) → Run lives nobody s → (x : LifeId) (i : ℕ) → ((position (node s x).card (mom s x i)).root ≡ x → ⊥) → HasParent s x (mom s x i)
law_parent lives s run x i ne = by (position_is c h)
  where
    h : Log
    h = mom s x i

    c : CardOf
    c = (node s x).card

    from_far : (w : FromLink c h (position c h)) → (on_port w.link.port h ≡ []) ⊎ ShowsFar s x (node s x) w.link.port (on_port w.link.port h) → HasParent s x h
    from_far w (inl nil) = absurd (no_pos (on_port w.link.port h) w.told nil w.offered.last)
    from_far w (inr v) =
        record {
          port = w.link.port;
          far = v.far;
          far_port = v.port;
          linked = record { there = v.named; back = subst (λ (a : Node). Names a.card v.port x w.link.port) (sym (node_is s v.far v.node v.joined)) v.back };
          is = ap (λ (a : Place). a.port) w.is;
        }

    by_join : (w : FromLink c h (position c h)) → (s x ≡ Some (node s x)) ⊎ IsBlank x (node s x) → HasParent s x h
    by_join w (inl j) = from_far w (shows_far lives s x (node s x) w.link.port h run j (at_earlier (node s x).log i))
    by_join w (inr b) = absurd (subst (λ (ks : List PeerAt). In w.link ks) b.links w.in_links)

    by : (position c h ≡ self_root c.me) ⊎ FromLink c h (position c h) → HasParent s x h
    by (inl own) = absurd (ne (ap (λ (a : Place). a.root) own ∙ me_is lives s run x))
    by (inr w) = by_join w (node_joined s x)

-- what was seen of a neighbour is no more than its versions
pub law_seen : (lives : List LifeId) (s : Slice) → Run lives nobody s → (x : LifeId) (p : ℕ) (z : LifeId) (q : ℕ) → Linked s x p z q → (h : Log) → Earlier h (node s x).log
    → positions_in (on_port p h) ≤ version (node s z).card (node s z).log
law_seen lives s run x p z q l h e = by (view lives s run x p z q l h e)
  where
    by : (on_port p h ≡ []) ⊎ View (node s z) q (on_port p h) → positions_in (on_port p h) ≤ version (node s z).card (node s z).log
    by (inl nil) = subst (λ (r : List Body). positions_in r ≤ version (node s z).card (node s z).log) (sym nil) (omega arith)
    by (inr v) = subst (λ n. n ≤ version (node s z).card (node s z).log) (sym v.shows.count) (version_grows (node s z).card v.moment (node s z).log v.earlier)

-- whether a link claims says whether it was the one to the parent in the last version heard of
pub law_claims : (lives : List LifeId) (s : Slice) → Run lives nobody s → (x : LifeId) (p : ℕ) (z : LifeId) (q : ℕ) → Linked s x p z q → (h : Log) → Earlier h (node s x).log
    → (j : Log) → Earlier j (node s z).log → version (node s z).card j ≡ positions_in (on_port p h) → is_claimed (on_port p h) ≡ (q == (position (node s z).card j).port)
law_claims lives s run x p z q l h e j ej same = by (view lives s run x p z q l h e)
  where
    d : CardOf
    d = (node s z).card

    no_version : (n : ℕ) → n ≡ 0 → 1 ≤ n → ⊥
    no_version n a b = omega (arith, a, b)

    by : (on_port p h ≡ []) ⊎ View (node s z) q (on_port p h) → is_claimed (on_port p h) ≡ (q == (position d j).port)
    by (inl nil) = absurd (no_version (version d j) (same ∙ ap positions_in nil) (version_least d j))
    by (inr v) = v.shows.claimed ∙ ap (λ (a : Place). q == a.port) (one_position d (node s z).log v.moment j v.earlier ej (sym v.shows.count ∙ sym same))

pub record AnsweredAt (s : Slice) (z : LifeId) (q seen number : ℕ) : Type 0 where
  pub moment : Log
  pub earlier : Earlier moment (node s z).log
  pub count : positions_in (on_port q moment) ≡ number
  pub version : version (node s z).card moment ≤ seen

no_answers : (n : ℕ) → n ≡ 0 → 1 ≤ n → ⊥
no_answers n a b = omega (arith, a, b)

pub law_answered : (lives : List LifeId) (s : Slice) → Run lives nobody s → (x : LifeId) (p : ℕ) (z : LifeId) (q : ℕ) → Linked s x p z q → (h : Log) → Earlier h (node s x).log → 1 ≤ answers_in (on_port p h)
    → AnsweredAt s z q (positions_in (on_port p h)) (answers_in (on_port p h))
law_answered lives s run x p z q l h e one = by (view lives s run x p z q l h e)
  where
    from_answer : (v : View (node s z) q (on_port p h)) → HasNoAnswer (on_port p h) ⊎ AnswersFrom (node s z).card q v.moment (on_port p h) → AnsweredAt s z q (positions_in (on_port p h)) (answers_in (on_port p h))
    from_answer v (inl nothing) = absurd (no_answers (answers_in (on_port p h)) nothing.count one)
    from_answer v (inr a) =
        record {
          moment = a.moment;
          earlier = earlier_trans a.moment v.moment (node s z).log a.earlier v.earlier;
          count = a.count;
          version = subst (λ n. version (node s z).card a.moment ≤ n) (sym v.shows.count) a.version;
        }

    by : (on_port p h ≡ []) ⊎ View (node s z) q (on_port p h) → AnsweredAt s z q (positions_in (on_port p h)) (answers_in (on_port p h))
    by (inl nil) = absurd (no_answers (answers_in (on_port p h)) (ap answers_in nil) one)
    by (inr v) = from_answer v v.shows.answer

-- Stable is settled on each link.
pub record Settled (l : Log) (v p : ℕ) : Type 0 where
  pub answered : answered (on_port p l) ≡ Some v
  pub reported : is_claimed (on_port p l) ≡ true → is_some (fresh_report (on_port p l)) ≡ true

names_is : (a : Option ℕ) (v : ℕ) → names a v ≡ true → a ≡ Some v
names_is None v e = absurd (true≢false (sym e))
names_is (Some w) v e = ap Some (eqb-true w v e)

settled_from : (v : ℕ) (l : Log) (k : PeerAt) → is_settled v l k ≡ true → Settled l v k.port
settled_from v l k e =
    let a = and_parts (names (answered (on_port k.port l)) v) (not (is_claimed (on_port k.port l)) || is_some (fresh_report (on_port k.port l))) e in
    record { answered = names_is (answered (on_port k.port l)) v a.0; reported = λ c. one_of (is_claimed (on_port k.port l)) (is_some (fresh_report (on_port k.port l))) a.1 c }
  where
    one_of : (c f : Bool) → (not c || f) ≡ true → c ≡ true → f ≡ true
    one_of true f e c = e
    one_of false f e c = absurd (cc)

settled_to : (v : ℕ) (l : Log) (k : PeerAt) → Settled l v k.port → is_settled v l k ≡ true
settled_to v l k st =
    both (names (answered (on_port k.port l)) v) (not (is_claimed (on_port k.port l)) || is_some (fresh_report (on_port k.port l)))
    (ap (λ o. names o v) st.answered ∙ number_itself v) (one_of (is_claimed (on_port k.port l)) (is_some (fresh_report (on_port k.port l))) st.reported)
  where
    both : (a b : Bool) → a ≡ true → b ≡ true → (a && b) ≡ true
    both a b x y = ap (λ g. g && b) x ∙ y

    one_of : (c f : Bool) → (c ≡ true → f ≡ true) → (not c || f) ≡ true
    one_of true f h = h refl
    one_of false f h = refl

all_from : {A : Type 0} (f : A → Bool) (xs : List A) (x : A) → list_all f xs ≡ true → In x xs → f x ≡ true
all_from f [] x e i = absurd i
all_from f (y ∷ ys) x e (inl is) = ap f is ∙ (and_parts (f y) (list_all f ys) e).0
all_from f (y ∷ ys) x e (inr i) = all_from f ys x (and_parts (f y) (list_all f ys) e).1 i

all_to : {A : Type 0} (f : A → Bool) (xs : List A) → ((x : A) → In x xs → f x ≡ true) → list_all f xs ≡ true
all_to f [] h = refl
all_to f (y ∷ ys) h = ap (λ g. g && list_all f ys) (h y (inl refl)) ∙ all_to f ys (λ x i. h x (inr i))

pub stable_at : (c : CardOf) (l : Log) (k : PeerAt) → is_stable c l ≡ true → In k c.links → Settled l (version c l) k.port
stable_at c l k st i = settled_from (version c l) l k (all_from (is_settled (version c l) l) c.links k st i)

pub stable_from : (c : CardOf) (l : Log) → ((k : PeerAt) → In k c.links → Settled l (version c l) k.port) → is_stable c l ≡ true
stable_from c l h = all_to (is_settled (version c l) l) c.links (λ k i. settled_to (version c l) l k (h k i))

pub stable_on : (s : Slice) (x : LifeId) (p : ℕ) (z : LifeId) (q : ℕ) (h : Log) → Names (node s x).card p z q → is_stable (node s x).card h ≡ true → Settled h (version (node s x).card h) p
stable_on s x p z q h at st = stable_at (node s x).card h (record { port = p; peer = record { life = z; port = q } }) st (link_of (node s x).card p z q at)

pub law_stable : (lives : List LifeId) (s : Slice) → Run lives nobody s → (x : LifeId) (p : ℕ) (z : LifeId) (q : ℕ) → Linked s x p z q → (h : Log) → Earlier h (node s x).log → is_stable (node s x).card h ≡ true
    → answers_in (on_port p h) ≡ version (node s x).card h
law_stable lives s run x p z q l h e st =
    let a = stable_on s x p z q h l.there st in
    sym (names_its_number lives s x (node s x) p h (version (node s x).card h) run (joined s x p z q l.there) e a.answered).number

-- the report that a stable life has of a child was made at a stable moment of the version heard of
pub record ReportOn (s : Slice) (z : LifeId) (q seen : ℕ) (heard : List Body) : Type 0 where
  pub moment : Log
  pub earlier : Earlier moment (node s z).log
  pub version : version (node s z).card moment ≡ seen
  pub stable : is_stable (node s z).card moment ≡ true
  pub report : fresh_report heard ≡ Some (report (node s z).card moment)

pub law_report : (lives : List LifeId) (s : Slice) → Run lives nobody s → (x : LifeId) (p : ℕ) (z : LifeId) (q : ℕ) → Linked s x p z q → (h : Log) → Earlier h (node s x).log → is_stable (node s x).card h ≡ true → is_claimed (on_port p h) ≡ true
    → ReportOn s z q (positions_in (on_port p h)) (on_port p h)
law_report lives s run x p z q l h e st f = by (some_is (fresh_report (on_port p h)) ((stable_on s x p z q h l.there st).reported f)) (view lives s run x p z q l h e)
  where
    by : (es : List EntryOf) × (fresh_report (on_port p h) ≡ Some es) → (on_port p h ≡ []) ⊎ View (node s z) q (on_port p h) → ReportOn s z q (positions_in (on_port p h)) (on_port p h)
    by es (inl nil) = absurd (none_some (sym (ap fresh_report nil) ∙ es.1))
    by es (inr v) =
        let r = v.shows.report es.0 es.1 in
        record {
          moment = r.moment;
          earlier = earlier_trans r.moment v.moment (node s z).log r.earlier v.earlier;
          version = r.version ∙ sym v.shows.count;
          stable = r.stable;
          report = es.1 ∙ ap Some r.report;
        }

pub law_later : (lives : List LifeId) (s : Slice) → length lives ≤ 126 → Run lives nobody s → (x : LifeId) (i j : ℕ)
    → version (node s x).card (mom s x i) ≤ version (node s x).card (mom s x j) → IsAtMost (position (node s x).card (mom s x j)) (position (node s x).card (mom s x i))
law_later lives s few run x i j v =
    ⊎_elim
    (λ (lt : j < i).
    let up : version (node s x).card (mom s x j) ≤ version (node s x).card (mom s x i) = version_grows (node s x).card (mom s x j) (mom s x i) (at_grows (node s x).log j i (omega (arith, lt))) in
    same_at_most _ _ (one_position (node s x).card (node s x).log (mom s x j) (mom s x i) (at_earlier (node s x).log j) (at_earlier (node s x).log i) (omega (arith, up, v))))
    (λ (ge : i ≤ j). improves_at lives s few run x (mom s x i) (mom s x j) (at_grows (node s x).log i j ge) (at_earlier (node s x).log j))
    (cases_lt j i)

pub law_once : (lives : List LifeId) (s : Slice) → length lives ≤ 126 → Run lives nobody s → (x : LifeId) (i j : ℕ)
    → position (node s x).card (mom s x i) ≡ position (node s x).card (mom s x j) → version (node s x).card (mom s x i) ≡ version (node s x).card (mom s x j)
law_once lives s few run x i j e =
    ⊎_elim
    (λ g. (only_improves lives s few run).once x (node s x) (mom s x i) (mom s x j) g (at_earlier (node s x).log i) (at_earlier (node s x).log j) e)
    (λ b. ap (λ (l : Log). version (node s x).card (at l i)) b.log ∙ sym (ap (λ (l : Log). version (node s x).card (at l j)) b.log))
    (node_joined s x)

pub same_flag : (p q : ℕ) (b : Bool) → b ≡ (q == p) → p ≡ q → b ≡ true
same_flag p q b e f = grind (arith, nat_tests)

pub flag_same : (p q : ℕ) (b : Bool) → b ≡ (q == p) → b ≡ true → p ≡ q
flag_same p q b e f = grind (arith, nat_tests)

-- A state of a run has the laws. What its reports hold is left to the caller.
pub record Content (s : Slice) : Type 1 where
  pub Holds : LifeId → ℕ → LifeId → Type 0
  pub own : (x : LifeId) (i : ℕ) → i ≤ length (node s x).log → is_stable (node s x).card (mom s x i) ≡ true → version (node s x).card (mom s x i) ≡ version (node s x).card (mom s x (length (node s x).log)) → Holds x i x
  pub passed : (x : LifeId) (p : ℕ) (z : LifeId) (q i : ℕ) (j : Log) → Linked s x p z q → i ≤ length (node s x).log → is_stable (node s x).card (mom s x i) ≡ true → is_claimed (on_port p (mom s x i)) ≡ true
      → Earlier j (node s z).log → is_stable (node s z).card j ≡ true → fresh_report (on_port p (mom s x i)) ≡ Some (report (node s z).card j) → (y : LifeId) → Holds z (length j) y → Holds x i y

abbrev pub laws : (lives : List LifeId) (s : Slice) → length lives ≤ 126 → Run lives nobody s → Content s → EpochLaws
laws lives s few run content = record {
  Link = Linked s;
  len = λ x. length (node s x).log;
  place = λ x i. position (node s x).card (mom s x i);
  version = λ x i. version (node s x).card (mom s x i);
  stable = λ x i. is_stable (node s x).card (mom s x i);
  seen = λ x p i. positions_in (on_port p (mom s x i));
  answers = λ x p i. answers_in (on_port p (mom s x i));
  claims = λ x p i. is_claimed (on_port p (mom s x i));
  gives = gives_at s;
  turn = turned s;
  improving = λ x i j e h. improves_at lives s few run x (mom s x i) (mom s x j) (at_grows (node s x).log i j e) (at_earlier (node s x).log j);
  version_least = λ x i. version_least (node s x).card (mom s x i);
  version_grows = λ x i j e h. version_grows (node s x).card (mom s x i) (mom s x j) (at_grows (node s x).log i j e);
  version_later = λ x i j hi hj v. law_later lives s few run x i j v;
  version_once = λ x i j hi hj e. law_once lives s few run x i j e;
  version_had = λ x n lo hi.
      let w = version_had (node s x).card (node s x).log n lo (subst (λ h. n ≤ version (node s x).card h) (at_whole (node s x).log) hi) in
      let k = number w.0 (node s x).log w.1 in
      (length w.0, k.0, ap (version (node s x).card) k.1 ∙ w.2);
  seen_grows = λ x p i j e h. positions_grow _ _ (on_port_grows p (mom s x i) (mom s x j) (at_grows (node s x).log i j e));
  seen_most = λ x p z q i l h. subst (λ k. positions_in (on_port p (mom s x i)) ≤ version (node s z).card k) (sym (at_whole (node s z).log)) (law_seen lives s run x p z q l (mom s x i) (at_earlier (node s x).log i));
  uncut = λ x p z q i l h one. law_uncut lives s few run x p z q i l one;
  parent_gives = λ x p z q i l h e. law_parent_gives lives s run x p z q i l e;
  gives_root = λ z j p h. ap (λ (a : Place). a.root) (gives_is s z (mom s z j) p (at_earlier (node s z).log j));
  gives_level = λ z j p h. ap (λ (a : Place). a.level) (gives_is s z (mom s z j) p (at_earlier (node s z).log j)) ∙ omega arith;
  parent = λ x i h ne. let w = law_parent lives s run x i ne in (w.port, w.far, w.far_port, w.linked, w.is);
  claims_if = λ x p z q i j l h hj v e.
      same_flag (position (node s z).card (mom s z j)).port q (is_claimed (on_port p (mom s x i)))
      (law_claims lives s run x p z q l (mom s x i) (at_earlier (node s x).log i) (mom s z j) (at_earlier (node s z).log j) v) e;
  claims_only_if = λ x p z q i j l h hj v e.
      flag_same (position (node s z).card (mom s z j)).port q (is_claimed (on_port p (mom s x i)))
      (law_claims lives s run x p z q l (mom s x i) (at_earlier (node s x).log i) (mom s z j) (at_earlier (node s z).log j) v) e;
  answered = λ x p z q i l h one.
      let w = law_answered lives s run x p z q l (mom s x i) (at_earlier (node s x).log i) one in
      let k = number w.moment (node s z).log w.earlier in
      (length w.moment, k.0, ap (λ a. positions_in (on_port q a)) k.1 ∙ w.count, subst (λ a. version (node s z).card a ≤ positions_in (on_port p (mom s x i))) (sym k.1) w.version);
  stable_answers = λ x p z q i l h e. law_stable lives s run x p z q l (mom s x i) (at_earlier (node s x).log i) e;
  Holds = content.Holds;
  holds_own = content.own;
  stable_report = λ x p z q i l h e f.
      let w = law_report lives s run x p z q l (mom s x i) (at_earlier (node s x).log i) e f in
      let k = number w.moment (node s z).log w.earlier in
      (length w.moment, k.0, ap (version (node s z).card) k.1 ∙ w.version, subst (λ a. is_stable (node s z).card a ≡ true) (sym k.1) w.stable, content.passed x p z q i w.moment l h e f w.earlier w.stable w.report);
}

-- nothing said of reports
abbrev pub no_content : (s : Slice) → Content s
no_content s = record { Holds = λ x i y. Unit; own = λ x i h e v. tt; passed = λ x p z q i j l h e f a b r y k. tt }
