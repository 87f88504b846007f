use Rattle.std.proofs.Common.{◌≡◌, ◌⊎◌, inl, inr, ℕ, zero, suc, ◌+◌, ◌≤◌, List, [], ◌∷◌, length, Option, Some, None, Bool, true, false, true≢false, cond, refl, sym, ap, ◌∙◌, subst, ⊎_elim, arith, Contains}
use Rattle.std.proofs.lemmas.Bool.{and_parts}
use Rattle.std.specs.Prelude.{◌==◌, ◌&&◌}
use Rattle.std.specs.List.{list_any}
use Rattle.std.specs.Ordering.{is_eq}
use Rattle.an_base.specs.Values.{LifeId, Place, PeerAt, EntryOf, TopoOf}
use Rattle.an_base.specs.Order.{life_cmp}
use Rattle.an_base.specs.declared.body.Body.{Body}
use Rattle.an_base.specs.declared.body.Body.TheVariants.{Pos, Answer, Stable, Topo}
use Rattle.an_base.proofs.LifeLemmas.{same_life}
use Rattle.tree_position.specs.Position.{self_root}
use Rattle.topo_report.proofs.Members.{In, in_from, contains_from}
use Rattle.topo_report.proofs.ReportLaws.{report_is_report}
use Rattle.epoch_core.specs.Log.{CardOf, OnPort, Log, on_port}
use Rattle.std.specs.Option.{option_or}
use Rattle.epoch_core.specs.Epoch.{version, position, is_stable, is_root, is_named, own_entry, reported, report, topology_of, finished_as_root, given_by, finish, sent}
use Rattle.epoch_core.specs.Laws.{IsAtMost}
use Rattle.epoch_game.specs.Slice.{Earlier, Node, Slice, nobody, with_node, Names, IsCardOf, Run, none, joins, accepts}
use Rattle.epoch_game.specs.Streams.{Shows, ShowsFar}
use Rattle.epoch_game.specs.Leaving.{WasStableRoot}
use Rattle.epoch_game.specs.Detection.{Reached, start, next, IsNextTo, WalkTo, IsJoined, IsSettled, IsMemberEntry, IsDetected, FinishedUnder}
use Rattle.epoch_game.proofs.Lists.{earlier_itself, earlier_trans}
use Rattle.epoch_game.proofs.ViewLemmas.{is_same-eq, finish_stays, shown}
use Rattle.epoch_game.proofs.Basics.{some_same, none_some, number_itself}
use Rattle.epoch_game.proofs.Nodes.{after, decide_life, node_here, node_cases, has_link, with_item}
use Rattle.epoch_game.proofs.StreamLemmas.{nodes, shows_far, has_grown}
use Rattle.epoch_game.proofs.Orders.{antisym, given, same_at_most}
use Rattle.epoch_game.proofs.ImproveLemmas.{only_improves}
use Rattle.epoch_game.proofs.StateLemmas.{node, node_is, Linked, joined, plain}
use Rattle.epoch_game.proofs.ContentLemmas.{all_true}
use Rattle.epoch_game.proofs.DetectLemmas.{Rooted, place, Member, linked_back, member, at_own, at_most_next, from_parent, walk_level, level_walk, tree_place, root_least, report_has, report_only, one_report}

-- One run after another.
pub run_append : (lives : List LifeId) (a b c : Slice) → Run lives a b → Run lives b c → Run lives a c
run_append lives a b _ first none = first
run_append lives a b _ first (joins t x c run free known ok) = joins t x c (run_append lives a b t first run) free known ok
run_append lives a b _ first (accepts t x z p q n m y run sx sz lx lz sends) = accepts t x z p q n m y (run_append lives a b t first run) sx sz lx lz sends

-- A root that was once stable was so in every later state.
was_later : (lives : List LifeId) (s t : Slice) (r : LifeId) → Run lives s t → WasStableRoot s r → WasStableRoot t r
was_later lives s t r run was =
    let g = has_grown lives s t r was.node run was.joined in
    record {
      node = g.node;
      joined = g.joined;
      moment = was.moment;
      earlier = earlier_trans was.moment was.node.log g.node.log was.earlier g.log;
      stable = subst (λ (c : CardOf). is_stable c was.moment ≡ true) (sym g.card) was.stable;
      root = subst (λ (c : CardOf). (position c was.moment).root ≡ r) (sym g.card) was.root;
    }

later_root : (lives : List LifeId) (s t : Slice) (r : LifeId) → Rooted lives s r → Run lives s t → Rooted lives t r
later_root lives s t r d run = record { few = d.few; run = run_append lives nobody s t d.run run; was = was_later lives s t r run d.was }

-- what `node` gives of it has that moment, too
record AtMoment (s : Slice) (r : LifeId) (moment : Log) : Type 0 where
  earlier : Earlier moment (node s r).log
  stable : is_stable (node s r).card moment ≡ true

at_moment : (s : Slice) (r : LifeId) (was : WasStableRoot s r) → AtMoment s r was.moment
at_moment s r was =
    let is : was.node ≡ node s r = sym (node_is s r was.node was.joined) in
    record {
      earlier = subst (λ (a : Node). Earlier was.moment a.log) is was.earlier;
      stable = subst (λ (a : Node). is_stable a.card was.moment ≡ true) is was.stable;
    }

-- The links of lives that have joined stay, so the same lives are reached by the same walks.
named_later : (lives : List LifeId) (s t : Slice) (x : LifeId) (p : ℕ) (z : LifeId) → Run lives s t → IsNextTo s x p z → IsNextTo t x p z
named_later lives s t x p z run k =
    let g = has_grown lives s t x k.node run k.joined in
    record { node = g.node; joined = g.joined; port = k.port; named = subst (λ (c : CardOf). Names c p z k.port) (sym g.card) k.named }

named_before : (lives : List LifeId) (s t : Slice) (x : LifeId) (p : ℕ) (z : LifeId) → Run lives s t → s x ≡ Some (node s x) → IsNextTo t x p z → IsNextTo s x p z
named_before lives s t x p z run sx k =
    let g = has_grown lives s t x (node s x) run sx in
    let is : g.node ≡ k.node = some_same g.node k.node (sym g.joined ∙ k.joined) in
    record { node = node s x; joined = sx; port = k.port; named = subst (λ (c : CardOf). Names c p z k.port) (ap (λ (a : Node). a.card) (sym is) ∙ g.card) k.named }

reached_later : (lives : List LifeId) (s t : Slice) (r x : LifeId) → Run lives s t → Reached s r x → Reached t r x
reached_later lives s t r _ run start = start
reached_later lives s t r _ run (next x z p q n h sx named) =
    let k = named_later lives s t x p z run (record { node = n; joined = sx; port = q; named = named }) in
    next x z p k.port k.node (reached_later lives s t r x run h) k.joined k.named

reached_before : (lives : List LifeId) (s t : Slice) (r x : LifeId) → Rooted lives s r → Run lives s t → Reached t r x → Reached s r x
reached_before lives s t r _ d run start = start
reached_before lives s t r _ d run (next x z p q n h sx named) =
    let old = reached_before lives s t r x d run h in
    let k = named_before lives s t x p z run (member lives s r x d old).joined (record { node = n; joined = sx; port = q; named = named }) in
    next x z p k.port k.node old k.joined k.named

walk_later : (lives : List LifeId) (s t : Slice) (n : ℕ) (x y : LifeId) → Run lives s t → WalkTo s n x y → WalkTo t n x y
walk_later lives s t zero x y run w = w
walk_later lives s t (suc n) x y run w = (w.0, w.1, named_later lives s t x w.0 w.1 run w.2, walk_later lives s t n w.1 y run w.3)

walk_before : (lives : List LifeId) (s t : Slice) (r : LifeId) (n : ℕ) (x y : LifeId) → Rooted lives s r → Run lives s t → Reached s r x → WalkTo t n x y → WalkTo s n x y
walk_before lives s t r zero x y d run h w = w
walk_before lives s t r (suc n) x y d run h w =
    let k = named_before lives s t x w.0 w.1 run (member lives s r x d h).joined w.2 in
    (w.0, w.1, k, walk_before lives s t r n w.1 y d run (next x w.1 w.0 k.port k.node h k.joined k.named) w.3)

same_level : (lives : List LifeId) (s t : Slice) (r x : LifeId) (d : Rooted lives s r) → Run lives s t → Reached s r x → (place t x).level ≡ (place s x).level
same_level lives s t r x d run h =
    let e = later_root lives s t r d run in
    let ht = reached_later lives s t r x run h in
    let down = walk_level lives t r e (place s x).level x ht (walk_later lives s t (place s x).level x r run (level_walk lives s r d (place s x).level x h refl)) in
    let up = walk_level lives s r d (place t x).level x h (walk_before lives s t r (place t x).level x r d run h (level_walk lives t r e (place t x).level x ht refl)) in
    omega (arith, down, up)

given_same : (p q : Place) (k : PeerAt) → p.root ≡ q.root → p.level ≡ q.level → given p k ≡ given q k
given_same p q k root level = λ i. record { root = root i; level = level i + 1; parent = k.peer.life; port = k.port }

-- the same positions: each is no greater than the other
card_later : (lives : List LifeId) (s t : Slice) (x : LifeId) → Run lives s t → s x ≡ Some (node s x) → (node t x).card ≡ (node s x).card
card_later lives s t x run sx = let g = has_grown lives s t x (node s x) run sx in ap (λ (a : Node). a.card) (node_is t x g.node g.joined) ∙ g.card

linked_later : (lives : List LifeId) (s t : Slice) (r x : LifeId) (d : Rooted lives s r) → Run lives s t → Reached s r x → (p : ℕ) (z : LifeId) (q : ℕ) → Linked s x p z q → Linked t x p z q
linked_later lives s t r x d run h p z q l =
    let e = later_root lives s t r d run in
    linked_back lives t r x e (member lives t r x e (reached_later lives s t r x run h)) p z q
    (subst (λ (c : CardOf). Names c p z q) (sym (card_later lives s t x run (member lives s r x d h).joined)) l.there)

linked_before : (lives : List LifeId) (s t : Slice) (r x : LifeId) (d : Rooted lives s r) → Run lives s t → Reached s r x → (p : ℕ) (z : LifeId) (q : ℕ) → Linked t x p z q → Linked s x p z q
linked_before lives s t r x d run h p z q l =
    let m = member lives s r x d h in
    linked_back lives s r x d m p z q (subst (λ (c : CardOf). Names c p z q) (card_later lives s t x run m.joined) l.there)

no_greater : (lives : List LifeId) (s t : Slice) (r x : LifeId) (d : Rooted lives s r) → Run lives s t → Reached s r x → IsAtMost (place t x) (place s x)
no_greater lives s t r x d run h =
    let e = later_root lives s t r d run in
    ⊎_elim
    (λ (ne : x ≡ r → ⊥).
    let f = from_parent lives s r x d h ne in
    let l = linked_later lives s t r x d run h f.port f.parent f.far f.linked in
    let mt = member lives t r f.parent e (reached_later lives s t r f.parent run f.reached) in
    let ms = member lives s r f.parent d f.reached in
    let same : given (place t f.parent) (plain f.parent f.port) ≡ place s x =
    given_same (place t f.parent) (place s f.parent) (plain f.parent f.port) (mt.root ∙ sym ms.root) (same_level lives s t r f.parent d run f.reached) ∙ sym f.is in
    subst (IsAtMost (place t x)) same (at_most_next lives t r x e f.port f.parent f.far l mt))
    (λ (is : x ≡ r). same_at_most (place t x) (place s x) (ap (place t) is ∙ at_own lives t r e ∙ sym (at_own lives s r d) ∙ ap (place s) (sym is)))
    (decide_life x r)

no_less : (lives : List LifeId) (s t : Slice) (r x : LifeId) (d : Rooted lives s r) → Run lives s t → Reached s r x → IsAtMost (place s x) (place t x)
no_less lives s t r x d run h =
    let e = later_root lives s t r d run in
    ⊎_elim
    (λ (ne : x ≡ r → ⊥).
    let f = from_parent lives t r x e (reached_later lives s t r x run h) ne in
    let old = reached_before lives s t r f.parent d run f.reached in
    let l = linked_before lives s t r x d run h f.port f.parent f.far f.linked in
    let mt = member lives t r f.parent e f.reached in
    let ms = member lives s r f.parent d old in
    let same : given (place s f.parent) (plain f.parent f.port) ≡ place t x =
    given_same (place s f.parent) (place t f.parent) (plain f.parent f.port) (ms.root ∙ sym mt.root) (sym (same_level lives s t r f.parent d run old)) ∙ sym f.is in
    subst (IsAtMost (place s x)) same (at_most_next lives s r x d f.port f.parent f.far l ms))
    (λ (is : x ≡ r). same_at_most (place s x) (place t x) (ap (place s) is ∙ at_own lives s r d ∙ sym (at_own lives t r e) ∙ ap (place t) (sym is)))
    (decide_life x r)

same_place : (lives : List LifeId) (s t : Slice) (r x : LifeId) (d : Rooted lives s r) → Run lives s t → Reached s r x → place t x ≡ place s x
same_place lives s t r x d run h = antisym (place t x) (place s x) (no_greater lives s t r x d run h) (no_less lives s t r x d run h)

is_settled : (lives : List LifeId) (s : Slice) (r x : LifeId) (d : Rooted lives s r) → Reached s r x → IsSettled lives s r x (node s x)
is_settled lives s r x d h = record {
  place = tree_place lives s r x d h;
  stable = m.stable;
  version = λ t k run tk.
      let g = has_grown lives s t x (node s x) run m.joined in
      let is : g.node ≡ k = some_same g.node k (sym g.joined ∙ tk) in
      let card : k.card ≡ (node s x).card = ap (λ (a : Node). a.card) (sym is) ∙ g.card in
      let log : Earlier (node s x).log k.log = subst (λ (a : Node). Earlier (node s x).log a.log) is g.log in
      let e = later_root lives s t r d run in
      sym (ap (λ (c : CardOf). version c (node s x).log) (sym card)
      ∙ (only_improves lives t e.few e.run).once x k (node s x).log k.log tk log (earlier_itself k.log)
      (ap (λ (c : CardOf). position c (node s x).log) card ∙ sym (same_place lives s t r x d run h) ∙ ap (λ (a : Node). position a.card a.log) (node_is t x k tk)));
  stays = λ t k run tk. ap (λ (a : Node). position a.card a.log) (sym (node_is t x k tk)) ∙ same_place lives s t r x d run h;
}
  where
    m : Member lives s r x d
    m = member lives s r x d h

-- Where a finish comes from: the report of a life that was a stable root, which names who has finished.
record Origin (s : Slice) (x : LifeId) (t : TopoOf) : Type 0 where
  root : LifeId
  was : WasStableRoot s root
  topology : t ≡ topology_of (report was.node.card was.moment)
  entry : EntryOf
  among : In entry t.entries
  life : entry.life ≡ x

abbrev Origins : Slice → Type 0
Origins s = (x : LifeId) (n : Node) (t : TopoOf) → s x ≡ Some n → finish n.card n.log ≡ Some t → Origin s x t

origin_grows : (lives : List LifeId) (s u : Slice) (x : LifeId) (t : TopoOf) → Run lives s u → Origin s x t → Origin u x t
unfolding was_later
origin_grows lives s u x t run o =
    let g = has_grown lives s u o.root o.was.node run o.was.joined in
    record {
      root = o.root;
      was = was_later lives s u o.root run o.was;
      topology = subst (λ (c : CardOf). t ≡ topology_of (report c o.was.moment)) (sym g.card) o.topology;
      entry = o.entry;
      among = o.among;
      life = o.life;
    }

-- a finish as a root
record AsRoot (c : CardOf) (l : Log) (t : TopoOf) : Type 0 where
  stable : is_stable c l ≡ true
  own : position c l ≡ self_root c.me
  topology : t ≡ topology_of (report c l)

as_root : (c : CardOf) (l : Log) (t : TopoOf) → finished_as_root c l ≡ Some t → AsRoot c l t
as_root c l t e = by (is_stable c l && is_root c l) refl e
  where
    by : (b : Bool) → (is_stable c l && is_root c l) ≡ b → cond b (Some (topology_of (report c l))) None ≡ Some t → AsRoot c l t
    by false e f = absurd (none_some f)
    by true e f =
        let both = and_parts (is_stable c l) (is_root c l) e in
        record { stable = both.0; own = is_same-eq (position c l) (self_root c.me) both.1; topology = some_same t _ (sym f) }

as_root_origin : (lives : List LifeId) (s : Slice) → length lives ≤ 126 → Run lives nobody s → (x : LifeId) (n : Node) (t : TopoOf) → s x ≡ Some n → AsRoot n.card n.log t → Origin s x t
as_root_origin lives s few run x n t sx a =
    let own = (all_true lives s few run x n n.log sx (earlier_itself n.log) a.stable).own in
    let me = (nodes lives s run x n sx).0.me in
    let root = ap (λ (p : Place). p.root) a.own ∙ me in
    record {
      root = x;
      was = record { node = n; joined = sx; moment = n.log; earlier = earlier_itself n.log; stable = a.stable; root = root };
      topology = a.topology;
      entry = own_entry n.card n.log;
      among = subst (λ (u : TopoOf). In (own_entry n.card n.log) u.entries) (sym a.topology) own;
      life = me;
    }

-- a topology that names a life has an entry of it
record HasEntry (me : LifeId) (es : List EntryOf) : Type 0 where
  entry : EntryOf
  among : In entry es
  life : entry.life ≡ me

named_entry : (me : LifeId) (es : List EntryOf) → list_any (λ e. is_eq (life_cmp e.life me)) es ≡ true → HasEntry me es
named_entry me [] e = absurd (true≢false (sym e))
named_entry me (f ∷ es) e = by (is_eq (life_cmp f.life me)) refl e (λ g. named_entry me es g)
  where
    by : (b : Bool) → is_eq (life_cmp f.life me) ≡ b → Rattle.std.specs.Prelude.◌||◌ b (list_any (λ e. is_eq (life_cmp e.life me)) es) ≡ true → (list_any (λ e. is_eq (life_cmp e.life me)) es ≡ true → HasEntry me es) → HasEntry me (f ∷ es)
    by true is h rest = record { entry = f; among = inl refl; life = same_life f.life me is }
    by false is h rest = let r = rest h in record { entry = r.entry; among = inr r.among; life = r.life }

-- a topology given by a body is that of the body, and names the life
record Given (me : LifeId) (b : Body) (t : TopoOf) : Type 0 where
  is : b ≡ Topo t
  named : HasEntry me t.entries

given_topo : (me : LifeId) (b : Body) (t : TopoOf) → given_by me b ≡ Some t → Given me b t
given_topo me (Pos b) t e = absurd (none_some e)
given_topo me (Answer b) t e = absurd (none_some e)
given_topo me (Stable es) t e = absurd (none_some e)
given_topo me (Topo u) t e = by (is_named me u) refl e
  where
    by : (b : Bool) → is_named me u ≡ b → cond b (Some u) None ≡ Some t → Given me (Topo u) t
    by false f g = absurd (none_some g)
    by true f g = let is : u ≡ t = some_same u t g in record { is = ap Topo is; named = subst (λ (v : TopoOf). HasEntry me v.entries) is (named_entry me u.entries f) }

pub finish_earlier : (c : CardOf) (h l : Log) (t : TopoOf) → Earlier h l → finish c h ≡ Some t → finish c l ≡ Some t
finish_earlier c h [] t e f = subst (λ a. finish c a ≡ Some t) e f
finish_earlier c h (x ∷ l) t (inl e) f = subst (λ a. finish c a ≡ Some t) e f
finish_earlier c h (x ∷ l) t (inr e) f = finish_stays c x l t (finish_earlier c h l t e f)

-- a topology in what was sent is what the sender finished with
topo_sent : (lives : List LifeId) (s : Slice) → Run lives nobody s → (z : LifeId) (m : Node) (q : ℕ) (x : LifeId) (p : ℕ) → s z ≡ Some m → Names m.card q x p → (r : List Body) (t : TopoOf) → Earlier r (sent m.card q m.log) → Contains r (Topo t) → finish m.card m.log ≡ Some t
topo_sent lives s run z m q x p sz back r t e i = by (shown m.card q (has_link z m.card q x p (nodes lives s run z m sz).0 back) m.log r e)
  where
    empty : r ≡ [] → ⊥
    empty nil = subst (In (Topo t)) nil (in_from (Topo t) r i)

    by : (r ≡ []) ⊎ ((h : Log) × (Earlier h m.log) × (Shows m.card q h r)) → finish m.card m.log ≡ Some t
    by (inl nil) = absurd (empty nil)
    by (inr w) = finish_earlier m.card w.0 m.log t w.1 (w.2.topology t i)

-- the three ways to finish
either_finish : {A : Type 0} (a b c : Option A) (t : A) → option_or a (option_or b c) ≡ Some t → (a ≡ Some t) ⊎ ((b ≡ Some t) ⊎ (c ≡ Some t))
either_finish (Some v) b c t e = inl e
either_finish None (Some v) c t e = inr (inl e)
either_finish None None c t e = inr (inr e)

origin_join : (lives : List LifeId) (t : Slice) (x : LifeId) (c : CardOf) → length lives ≤ 126 → Run lives nobody t → t x ≡ None → Contains lives x → IsCardOf x c → Origins t → Origins (with_node t x (record { card = c; log = [] }))
origin_join lives t x c few run free known ok old y k u sy done =
    ⊎_elim
    (λ (w : (x ≡ y) × (new ≡ k)).
    as_root_origin lives (with_node t x new) few (joins t x c run free known ok) y k u sy
    (subst (λ (a : Node). AsRoot a.card a.log u) w.1 (as_root c [] u (subst (λ (a : Node). finish a.card a.log ≡ Some u) (sym w.1) done))))
    (λ (w : (x ≡ y → ⊥) × (t y ≡ Some k)). origin_grows lives t (with_node t x new) y u (joins t x c none free known ok) (old y k u w.1 done))
    (node_cases t x y new k sy)
  where
    new : Node
    new = record { card = c; log = [] }

origin_accept : (lives : List LifeId) (t : Slice) (x z : LifeId) (p q : ℕ) (n m : Node) (b : Body) → length lives ≤ 126 → Run lives nobody t → t x ≡ Some n → t z ≡ Some m → Names m.card q x p → Earlier (b ∷ on_port p n.log) (sent m.card q m.log)
    → Run lives t (after t x n (record { port = p; body = b })) → Run lives nobody (after t x n (record { port = p; body = b }))
    → Origins t → Origins (after t x n (record { port = p; body = b }))
origin_accept lives t x z p q n m b few run sx sz lz sends step whole old y k u sy done =
    ⊎_elim
    (λ (w : (x ≡ y) × (with_item n item ≡ k)). subst (λ (a : LifeId). Origin (after t x n item) a u) w.0 (own_finish (subst (λ (a : Node). finish a.card a.log ≡ Some u) (sym w.1) done)))
    (λ (w : (x ≡ y → ⊥) × (t y ≡ Some k)). origin_grows lives t (after t x n item) y u step (old y k u w.1 done))
    (node_cases t x y (with_item n item) k sy)
  where
    item : OnPort
    item = record { port = p; body = b }

    from_peer : Given n.card.me b u → Origin (after t x n item) x u
    from_peer g =
        let first : Earlier (Topo u ∷ on_port p n.log) (sent m.card q m.log) = subst (λ (a : Body). Earlier (a ∷ on_port p n.log) (sent m.card q m.log)) g.is sends in
        let peer = topo_sent lives t run z m q x p sz lz (Topo u ∷ on_port p n.log) u first (contains_from (Topo u) (Topo u ∷ on_port p n.log) (inl refl)) in
        let o = origin_grows lives t (after t x n item) z u step (old z m u sz peer) in
        let life = g.named.life ∙ (nodes lives t run x n sx).0.me in
        record { root = o.root; was = o.was; topology = o.topology; entry = g.named.entry; among = g.named.among; life = life }

    own_finish : finish n.card (item ∷ n.log) ≡ Some u → Origin (after t x n item) x u
    own_finish e =
        ⊎_elim
        (λ (f : finish n.card n.log ≡ Some u). origin_grows lives t (after t x n item) x u step (old x n u sx f))
        (λ f. ⊎_elim
        (λ (g : finished_as_root n.card (item ∷ n.log) ≡ Some u). as_root_origin lives (after t x n item) few whole x (with_item n item) u (node_here t x (with_item n item)) (as_root n.card (item ∷ n.log) u g))
        (λ (g : given_by n.card.me b ≡ Some u). from_peer (given_topo n.card.me b u g)) f)
        (either_finish (finish n.card n.log) (finished_as_root n.card (item ∷ n.log)) (given_by n.card.me b) u e)

origins : (lives : List LifeId) (s : Slice) → length lives ≤ 126 → Run lives nobody s → Origins s
origins lives _ few none = λ x n t sx e. absurd (none_some sx)
origins lives _ few (joins t x c run free known ok) = origin_join lives t x c few run free known ok (origins lives t few run)
origins lives _ few (accepts t x z p q n m b run sx sz lx lz sends) =
    origin_accept lives t x z p q n m b few run sx sz lz sends (accepts t x z p q n m b none sx sz lx lz sends) (accepts t x z p q n m b run sx sz lx lz sends) (origins lives t few run)

-- who has finished is reached by the root of its finish
pub finished_under : (lives : List LifeId) (s : Slice) → length lives ≤ 126 → Run lives nobody s → (x : LifeId) (n : Node) (t : TopoOf) → s x ≡ Some n → finish n.card n.log ≡ Some t → FinishedUnder s x t
finished_under lives s few run x n t sx done = record {
  root = o.root;
  was = o.was;
  topology = o.topology;
  reached = subst (Reached s o.root) life f.reached;
  entries = λ e. (λ i. only e (in_from e t.entries i), λ g. contains_from e t.entries (has e g));
}
  where
    o : Origin s x t
    o = origins lives s few run x n t sx done

    d : Rooted lives s o.root
    d = record { few = few; run = run; was = o.was }

    at : AtMoment s o.root o.was.moment
    at = at_moment s o.root o.was

    same : t.entries ≡ report (node s o.root).card o.was.moment
    same = ap (λ (a : TopoOf). a.entries) o.topology ∙ ap (λ (a : Node). report a.card o.was.moment) (sym (node_is s o.root o.was.node o.was.joined))

    only : (e : EntryOf) → In e t.entries → IsMemberEntry s o.root e
    only e i = report_only lives s o.root d o.was.moment at.earlier at.stable e (subst (In e) same i)

    has : (e : EntryOf) → IsMemberEntry s o.root e → In e t.entries
    has e g =
        subst (λ (a : EntryOf). In a t.entries) (ap (λ (a : Node). own_entry a.card a.log) (node_is s g.life g.node g.joined) ∙ sym g.is)
        (subst (In (own_entry (node s g.life).card (node s g.life).log)) (sym same) (report_has lives s o.root d o.was.moment at.earlier at.stable g.life g.reached))

    f : IsMemberEntry s o.root o.entry
    f = only o.entry o.among

    life : f.life ≡ x
    life = sym (nodes lives s run f.life f.node f.joined).0.me ∙ ap (λ (a : EntryOf). a.life) (sym f.is) ∙ o.life

-- all that finish among the members of r hold its report
same_report : (lives : List LifeId) (s : Slice) (r : LifeId) (d : Rooted lives s r) (h : Log) → Earlier h (node s r).log → is_stable (node s r).card h ≡ true
    → (y : LifeId) → y ≡ r → (k : Node) → s y ≡ Some k → (g : Log) → Earlier g k.log → is_stable k.card g ≡ true → report k.card g ≡ report (node s r).card h
same_report lives s r d h e st y is k sy g eg sg =
    let node_same : k ≡ node s r = sym (node_is s r k (ap s (sym is) ∙ sy)) in
    ap (λ (a : Node). report a.card g) node_same
    ∙ one_report lives s r d g h (subst (λ (a : Node). Earlier g a.log) node_same eg) (subst (λ (a : Node). is_stable a.card g ≡ true) node_same sg) e st

pub one_topology : (lives : List LifeId) (s : Slice) (r : LifeId) (d : Rooted lives s r) (h : Log) → Earlier h (node s r).log → is_stable (node s r).card h ≡ true
    → (z : LifeId) (k : Node) (t : TopoOf) → Reached s r z → s z ≡ Some k → finish k.card k.log ≡ Some t → t ≡ topology_of (report (node s r).card h)
one_topology lives s r d h e st z k t hz sz done =
    let u = finished_under lives s d.few d.run z k t sz done in
    let d0 : Rooted lives s u.root = record { few = d.few; run = d.run; was = u.was } in
    let same : u.root ≡ r = sym (member lives s u.root z d0 u.reached).root ∙ (member lives s r z d hz).root in
    u.topology ∙ ap topology_of (same_report lives s r d h e st u.root same u.was.node u.was.joined u.was.moment u.was.earlier u.was.stable)

in_on_port : (p : ℕ) (b : Body) (l : Log) → In (record { port = p; body = b }) l → In b (on_port p l)
in_on_port p b [] i = absurd i
in_on_port p b (x ∷ l) (inl e) =
    subst (λ (y : OnPort). In b (cond (y.port == p) (y.body ∷ on_port p l) (on_port p l))) e
    (subst (λ (g : Bool). In b (cond g (b ∷ on_port p l) (on_port p l))) (sym (number_itself p)) (inl refl))
in_on_port p b (x ∷ l) (inr i) = more (x.port == p) (in_on_port p b l i)
  where
    more : (g : Bool) → In b (on_port p l) → In b (cond g (x.body ∷ on_port p l) (on_port p l))
    more true j = inr j
    more false j = j

-- a topology that a member accepted is what a member finished with
accepted_topo : (lives : List LifeId) (s : Slice) (r : LifeId) (d : Rooted lives s r) (h : Log) → Earlier h (node s r).log → is_stable (node s r).card h ≡ true
    → (x : LifeId) (m : Node) (p : ℕ) (t : TopoOf) → Reached s r x → s x ≡ Some m → Contains m.log (record { port = p; body = Topo t }) → t ≡ topology_of (report (node s r).card h)
accepted_topo lives s r d h e st x m p t hx sx i = by (shows_far lives s x m p m.log d.run sx (earlier_itself m.log))
  where
    there : In (Topo t) (on_port p m.log)
    there = in_on_port p (Topo t) m.log (in_from (record { port = p; body = Topo t }) m.log i)

    by : (on_port p m.log ≡ []) ⊎ ShowsFar s x m p (on_port p m.log) → t ≡ topology_of (report (node s r).card h)
    by (inl nil) = absurd (subst (In (Topo t)) nil there)
    by (inr w) =
        one_topology lives s r d h e st w.far w.node t (next x w.far p w.port m hx sx w.named) w.joined
        (finish_earlier w.node.card w.moment w.node.log t w.earlier (w.shows.topology t (contains_from (Topo t) (on_port p m.log) there)))

sent_topo : (lives : List LifeId) (s : Slice) (r : LifeId) (d : Rooted lives s r) (h : Log) → Earlier h (node s r).log → is_stable (node s r).card h ≡ true
    → (x z : LifeId) (m k : Node) (p q : ℕ) (t : TopoOf) → Reached s r x → s x ≡ Some m → Names m.card p z q → s z ≡ Some k → Contains (sent k.card q k.log) (Topo t) → t ≡ topology_of (report (node s r).card h)
sent_topo lives s r d h e st x z m k p q t hx sx named sz i =
    let l = linked_back lives s r x d (member lives s r x d hx) p z q (subst (λ (a : Node). Names a.card p z q) (sym (node_is s x m sx)) named) in
    let back : Names k.card q x p = subst (λ (a : Node). Names a.card q x p) (node_is s z k sz) l.back in
    one_topology lives s r d h e st z k t (next x z p q m hx sx named) sz (topo_sent lives s d.run z k q x p sz back (sent k.card q k.log) t (earlier_itself (sent k.card q k.log)) i)

-- all that holds of a stable root
pub is_detected : (lives : List LifeId) (s : Slice) (r : LifeId) → length lives ≤ 126 → Run lives nobody s → WasStableRoot s r → IsDetected lives s r
is_detected lives s r few run was = record {
  joined = λ x h. is_joined x h;
  least = λ x h. root_least lives s r x d h;
  settled = λ x n h sx. subst (IsSettled lives s r x) (node_is s x n sx) (is_settled lives s r x d h);
  members = λ t x later. (λ h. reached_before lives s t r x d later h, λ h. reached_later lives s t r x later h);
  entries = λ n h sr e st f. (
    λ i. report_only lives s r d h (own_log n sr h e) (own_stable n sr h st) f (subst (λ (a : Node). In f (report a.card h)) (sym (node_is s r n sr)) (in_from f (report n.card h) i)),
    λ g. contains_from f (report n.card h) (has_entry n h sr e st f g),
  );
  rising = λ n h sr e st. (report_is_report n.card.me (own_entry n.card h ∷ reported n.card h)).rising;
  accepted = λ x m p t n h hx sx i sr e st.
      subst (λ (a : Node). t ≡ topology_of (report a.card h)) (node_is s r n sr) (accepted_topo lives s r d h (own_log n sr h e) (own_stable n sr h st) x m p t hx sx i);
  sent = λ x z m k p q t n h hx sx named sz i sr e st.
      subst (λ (a : Node). t ≡ topology_of (report a.card h)) (node_is s r n sr) (sent_topo lives s r d h (own_log n sr h e) (own_stable n sr h st) x z m k p q t hx sx named sz i);
}
  where
    d : Rooted lives s r
    d = record { few = few; run = run; was = was }

    own_log : (n : Node) → s r ≡ Some n → (h : Log) → Earlier h n.log → Earlier h (node s r).log
    own_log n sr h e = subst (λ (a : Node). Earlier h a.log) (sym (node_is s r n sr)) e

    own_stable : (n : Node) → s r ≡ Some n → (h : Log) → is_stable n.card h ≡ true → is_stable (node s r).card h ≡ true
    own_stable n sr h st = subst (λ (a : Node). is_stable a.card h ≡ true) (sym (node_is s r n sr)) st

    is_joined : (x : LifeId) → Reached s r x → IsJoined s x
    is_joined x h =
        let m = member lives s r x d h in
        record {
          node = node s x;
          joined = m.joined;
          links = λ p z q named.
              let l = linked_back lives s r x d m p z q named in
              record { node = node s z; joined = joined s z q x p l.back; named = l.back };
        }

    has_entry : (n : Node) (h : Log) → s r ≡ Some n → Earlier h n.log → is_stable n.card h ≡ true → (f : EntryOf) → IsMemberEntry s r f → In f (report n.card h)
    has_entry n h sr e st f g =
        let there = report_has lives s r d h (own_log n sr h e) (own_stable n sr h st) g.life g.reached in
        subst (λ (a : Node). In f (report a.card h)) (node_is s r n sr)
        (subst (λ (a : EntryOf). In a (report (node s r).card h)) (ap (λ (a : Node). own_entry a.card a.log) (node_is s g.life g.node g.joined) ∙ sym g.is) there)

-- Roots that share a life are one.
pub one_root : (lives : List LifeId) (s : Slice) (r1 r2 x : LifeId) → length lives ≤ 126 → Run lives nobody s → WasStableRoot s r1 → WasStableRoot s r2 → Reached s r1 x → Reached s r2 x → r1 ≡ r2
one_root lives s r1 r2 x few run was1 was2 h1 h2 =
    sym (member lives s r1 x (record { few = few; run = run; was = was1 }) h1).root ∙ (member lives s r2 x (record { few = few; run = run; was = was2 }) h2).root

-- the entries of a finish have its root
entry_root : (lives : List LifeId) (s : Slice) → length lives ≤ 126 → Run lives nobody s → (x : LifeId) (t : TopoOf) (u : FinishedUnder s x t) (e : EntryOf) → Contains t.entries e → e.position.root ≡ u.root
entry_root lives s few run x t u e i =
    let f = (u.entries e).0 i in
    let d : Rooted lives s u.root = record { few = few; run = run; was = u.was } in
    ap (λ (a : EntryOf). a.position.root) f.is ∙ ap (λ (a : Node). (position a.card a.log).root) (sym (node_is s f.life f.node f.joined)) ∙ (member lives s u.root f.life d f.reached).root

-- two that finished under one root hold one topology
pub finished_alike : (lives : List LifeId) (s : Slice) (x y : LifeId) (n m : Node) (t u : TopoOf) (e f : EntryOf) → length lives ≤ 126 → Run lives nobody s → s x ≡ Some n → s y ≡ Some m → finish n.card n.log ≡ Some t → finish m.card m.log ≡ Some u
    → Contains t.entries e → Contains u.entries f → e.position.root ≡ f.position.root → t ≡ u
finished_alike lives s x y n m t u e f few run sx sy dx dy i j same = a.topology ∙ ap topology_of (same_report lives s b.root d b.was.moment (at_moment s b.root b.was).earlier (at_moment s b.root b.was).stable a.root roots a.was.node a.was.joined a.was.moment a.was.earlier a.was.stable ∙ ap (λ (k : Node). report k.card b.was.moment) (node_is s b.root b.was.node b.was.joined)) ∙ sym b.topology
  where
    a : FinishedUnder s x t
    a = finished_under lives s few run x n t sx dx

    b : FinishedUnder s y u
    b = finished_under lives s few run y m u sy dy

    d : Rooted lives s b.root
    d = record { few = few; run = run; was = b.was }

    roots : a.root ≡ b.root
    roots = sym (entry_root lives s few run x t a e i) ∙ same ∙ entry_root lives s few run y u b f j
