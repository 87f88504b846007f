use Rattle.std.proofs.Common.{◌≡◌, ◌⊎◌, inl, inr, ℕ, ◌≤◌, ◌<◌, List, [], ◌∷◌, length, filter, Option, Some, None, Bool, true, false, true≢false, cond, refl, sym, ap, ◌∙◌, subst, ⊎_elim, arith, Contains}
use Rattle.std.specs.List.{flat_map}
use Rattle.an_base.specs.Values.{LifeId, Place, PeerAt, EntryOf}
use Rattle.an_base.specs.Order.{position_cmp}
use Rattle.an_base.specs.declared.body.Body.{Body}
use Rattle.an_base.specs.declared.body.Body.TheVariants.{Pos, Answer, Stable, Topo}
use Rattle.topo_report.specs.Report.{Covers, IsAtMost as EntryAtMost}
use Rattle.topo_report.proofs.Members.{In, in_from, contains_from, in_append, in_left, in_right}
use Rattle.topo_report.proofs.ReportLaws.{report_is_report, report_is_complete}
use Rattle.tree_position.specs.Position.{self_root}
use Rattle.epoch_core.specs.Log.{CardOf, Log, on_port, last_pos, is_claimed, answered, last_report, fresh_report}
use Rattle.epoch_core.specs.Epoch.{version, position, is_stable, own_entry, entries_in, reported_on, reported, claiming, report}
use Rattle.epoch_core.specs.Laws.{IsAtMost}
use Rattle.epoch_game.specs.Slice.{Earlier, Node, Slice, nobody, with_node, Names, IsCardOf, Run, none, joins, accepts}
use Rattle.epoch_game.specs.Streams.{positions_in, ShowsFar}
use Rattle.epoch_game.specs.Content.{WasEntry, LeadsTo, here, via, ReportsAreTrue}
use Rattle.epoch_game.proofs.Lists.{earlier_itself, earlier_trans}
use Rattle.epoch_game.proofs.Moments.{at, at_earlier, at_whole, number, one_position}
use Rattle.epoch_game.proofs.Basics.{some_same, none_some}
use Rattle.epoch_game.proofs.Nodes.{node_here, node_else, node_cases, not_own, rises}
use Rattle.epoch_game.proofs.StreamLemmas.{nodes, one_end, shows_far, has_grown}
use Rattle.epoch_game.proofs.Orders.{antisym, first_le}
use Rattle.epoch_game.proofs.OfferLemmas.{FromLink, position_is, port_above}
use Rattle.epoch_game.proofs.ImproveLemmas.{only_improves}
use Rattle.epoch_game.proofs.HandshakeLemmas.{agreement}
use Rattle.epoch_game.proofs.MemberLemmas.{Under, here as Under-here, via as Under-via, below}
use Rattle.epoch_game.proofs.StateLemmas.{or_blank, node, node_is, Linked, me_is, mom, joined, link_of, stable_at, law_report, Content, laws, no_content}

-- What a report is made of.
fresh-last : (r : List Body) (es : List EntryOf) → fresh_report r ≡ Some es → last_report r ≡ Some es
fresh-last [] es e = absurd (none_some e)
fresh-last (Pos b ∷ r) es e = absurd (none_some e)
fresh-last (Answer b ∷ r) es e = fresh-last r es e
fresh-last (Stable fs ∷ r) es e = e
fresh-last (Topo t ∷ r) es e = fresh-last r es e

record FromOneOf {A B : Type 0} (f : A → List B) (xs : List A) (y : B) : Type 0 where
  from : A
  among : In from xs
  has : In y (f from)

in_flat_map : {A B : Type 0} (f : A → List B) (xs : List A) (y : B) → In y (flat_map f xs) → FromOneOf f xs y
in_flat_map f [] y i = absurd i
in_flat_map f (x ∷ xs) y i =
    ⊎_elim (λ j. record { from = x; among = inl refl; has = j })
    (λ j. let w = in_flat_map f xs y j in record { from = w.from; among = inr w.among; has = w.has })
    (in_append y (f x) (flat_map f xs) i)

to_flat_map : {A B : Type 0} (f : A → List B) (xs : List A) (x : A) (y : B) → In x xs → In y (f x) → In y (flat_map f xs)
to_flat_map f [] x y i j = absurd i
to_flat_map {A} {B} f (z ∷ xs) x y (inl e) j = in_left y (f z) (flat_map f xs) (subst (λ (a : A). In y (f a)) e j)
to_flat_map f (z ∷ xs) x y (inr i) j = in_right y (f z) (flat_map f xs) (to_flat_map f xs x y i j)

in_filter : {A : Type 0} (p : A → Bool) (xs : List A) (x : A) → In x (filter p xs) → In x xs × (p x ≡ true)
in_filter p [] x i = absurd i
in_filter p (y ∷ xs) x i = by (p y) refl (in_filter p xs x) i
  where
    by : (b : Bool) → p y ≡ b → (In x (filter p xs) → In x xs × (p x ≡ true)) → In x (cond b (y ∷ filter p xs) (filter p xs)) → In x (y ∷ xs) × (p x ≡ true)
    by true e rest (inl is) = (inl is, ap p is ∙ e)
    by true e rest (inr j) = let r = rest j in (inr r.0, r.1)
    by false e rest j = let r = rest j in (inr r.0, r.1)

to_filter : {A : Type 0} (p : A → Bool) (xs : List A) (x : A) → In x xs → p x ≡ true → In x (filter p xs)
to_filter p [] x i e = absurd i
to_filter p (y ∷ xs) x i e = by (p y) refl (λ j. to_filter p xs x j e) i
  where
    by : (b : Bool) → p y ≡ b → (In x xs → In x (filter p xs)) → In x (y ∷ xs) → In x (cond b (y ∷ filter p xs) (filter p xs))
    by true f rest (inl is) = inl is
    by true f rest (inr j) = inr (rest j)
    by false f rest (inl is) = absurd (true≢false (sym e ∙ ap p is ∙ f))
    by false f rest (inr j) = rest j

-- an entry that a claiming link reported
record FromChild (c : CardOf) (l : Log) (e : EntryOf) : Type 0 where
  link : PeerAt
  in_links : In link c.links
  claims : is_claimed (on_port link.port l) ≡ true
  entries : List EntryOf
  last : last_report (on_port link.port l) ≡ Some entries
  has : In e entries

entries_of : (o : Option (List EntryOf)) (e : EntryOf) → In e (entries_in o) → (es : List EntryOf) × (o ≡ Some es) × (In e es)
entries_of None e i = absurd i
entries_of (Some es) e i = (es, refl, i)

from_child : (c : CardOf) (l : Log) (e : EntryOf) → In e (reported c l) → FromChild c l e
from_child c l e i =
    let w = in_flat_map (reported_on l) (claiming c l) e i in
    let f = in_filter (λ k. is_claimed (on_port k.port l)) c.links w.from w.among in
    let es = entries_of (last_report (on_port w.from.port l)) e w.has in
    record { link = w.from; in_links = f.0; claims = f.1; entries = es.0; last = es.1; has = es.2 }

to_reported : (c : CardOf) (l : Log) (k : PeerAt) (es : List EntryOf) (e : EntryOf) → In k c.links → is_claimed (on_port k.port l) ≡ true → last_report (on_port k.port l) ≡ Some es → In e es → In e (reported c l)
to_reported c l k es e i claims last has =
    to_flat_map (reported_on l) (claiming c l) k e (to_filter (λ j. is_claimed (on_port j.port l)) c.links k i claims)
    (subst (λ (o : Option (List EntryOf)). In e (entries_in o)) (sym last) has)

-- what is in a report is the own entry, or came from a child
from_report : (c : CardOf) (l : Log) (e : EntryOf) → In e (report c l) → (e ≡ own_entry c l) ⊎ FromChild c l e
from_report c l e i =
    ⊎_elim (λ is. inl is) (λ j. inr (from_child c l e j))
    (in_from e (own_entry c l ∷ reported c l) ((report_is_report c.me (own_entry c l ∷ reported c l)).taken e (contains_from e (report c l) i)))

-- The link of a port on which something came.
pub record LinkOn (s : Slice) (x : LifeId) (p : ℕ) : Type 0 where
  pub far : LifeId
  pub far_port : ℕ
  pub linked : Linked s x p far far_port

pub link_on : (lives : List LifeId) (s : Slice) → Run lives nobody s → (x : LifeId) (p : ℕ) (h : Log) (v : ℕ) → s x ≡ Some (node s x) → Earlier h (node s x).log → answered (on_port p h) ≡ Some v → LinkOn s x p
link_on lives s run x p h v sx e says = by (shows_far lives s x (node s x) p h run sx e)
  where
    by : (on_port p h ≡ []) ⊎ ShowsFar s x (node s x) p (on_port p h) → LinkOn s x p
    by (inl nil) = absurd (none_some (sym (ap answered nil) ∙ says))
    by (inr w) = record { far = w.far; far_port = w.port; linked = record { there = w.named; back = subst (λ (a : Node). Names a.card w.port x p) (sym (node_is s w.far w.node w.joined)) w.back } }

-- the version of a neighbour that a stable life has heard of had its root
heard_root : (lives : List LifeId) (s : Slice) → length lives ≤ 126 → Run lives nobody s → (x : LifeId) (p : ℕ) (z : LifeId) (q : ℕ) → Linked s x p z q → (h : Log) → Earlier h (node s x).log → is_stable (node s x).card h ≡ true
    → (j : Log) → Earlier j (node s z).log → version (node s z).card j ≡ positions_in (on_port p h) → (position (node s z).card j).root ≡ (position (node s x).card h).root
heard_root lives s few run x p z q l h e st j ej same =
    let w = laws lives s few run (no_content s) in
    let k = number h (node s x).log e in
    let kj = number j (node s z).log ej in
    let ag = agreement w x p z q (length h) l k.0 (subst (λ a. is_stable (node s x).card a ≡ true) (sym k.1) st) in
    let is = ag.heard (length j) kj.0 (ap (version (node s z).card) kj.1 ∙ same ∙ ap (λ a. positions_in (on_port p a)) (sym k.1)) in
    ap (λ a. (position (node s z).card a).root) (sym kj.1) ∙ is ∙ ap (λ a. (position (node s x).card a).root) k.1

-- the last report of a child of a stable life was its report at a stable moment, under the same root
record ChildReport (s : Slice) (x : LifeId) (h : Log) (p : ℕ) (es : List EntryOf) : Type 0 where
  link : LinkOn s x p
  open link use {far, far_port, linked}
  moment : Log
  earlier : Earlier moment (node s far).log
  stable : is_stable (node s far).card moment ≡ true
  report : es ≡ report (node s far).card moment
  root : (position (node s far).card moment).root ≡ (position (node s x).card h).root

child_report : (lives : List LifeId) (s : Slice) → length lives ≤ 126 → Run lives nobody s → (x : LifeId) → s x ≡ Some (node s x) → (h : Log) → Earlier h (node s x).log → is_stable (node s x).card h ≡ true
    → (k : PeerAt) → In k (node s x).card.links → is_claimed (on_port k.port h) ≡ true → (es : List EntryOf) → last_report (on_port k.port h) ≡ Some es → ChildReport s x h k.port es
child_report lives s few run x sx h e st k i claims es last =
    let settled = stable_at (node s x).card h k st i in
    let l = link_on lives s run x k.port h (version (node s x).card h) sx e settled.answered in
    let r = law_report lives s run x k.port l.far l.far_port l.linked h e st claims in
    record {
      link = l;
      moment = r.moment;
      earlier = r.earlier;
      stable = r.stable;
      report = some_same es _ (sym last ∙ fresh-last (on_port k.port h) _ r.report);
      root = heard_root lives s few run x k.port l.far l.far_port l.linked h e st r.moment r.earlier r.version;
    }

-- Two entries of one life: that of a moment, if it is no greater, is the present one.
entry_life : (lives : List LifeId) (s : Slice) → Run lives nobody s → (r : LifeId) (e : EntryOf) (w : WasEntry s r e) → e.life ≡ w.life
entry_life lives s run r e w = ap (λ (a : EntryOf). a.life) w.is ∙ (nodes lives s run w.life w.node w.joined).0.me

present : (lives : List LifeId) (s : Slice) → length lives ≤ 126 → Run lives nobody s → (r y : LifeId) (m : Node) (o : EntryOf) → s y ≡ Some m → WasEntry s r o → o.life ≡ y → EntryAtMost o (own_entry m.card m.log) → o ≡ own_entry m.card m.log
present lives s few run r y m o sy w life low = is_then ∙ ap at_place same
  where
    node_same : w.node ≡ m
    node_same = some_same w.node m (sym w.joined ∙ ap s (sym (entry_life lives s run r o w) ∙ life) ∙ sy)

    at_place : Place → EntryOf
    at_place p = record { life = m.card.me; position = p; proposed = m.card.proposed; links = m.card.links }

    is_then : o ≡ at_place (position m.card w.moment)
    is_then = w.is ∙ ap (λ (a : Node). own_entry a.card w.moment) node_same

    earlier_then : Earlier w.moment m.log
    earlier_then = subst (λ (a : Node). Earlier w.moment a.log) node_same w.earlier

    down : IsAtMost (position m.card m.log) (position m.card w.moment)
    down = (only_improves lives s few run).improving y m w.moment m.log sy earlier_then (earlier_itself m.log)

    up : IsAtMost (position m.card w.moment) (position m.card m.log)
    up = first_le (position_cmp (position m.card w.moment) (position m.card m.log)) _ (subst (λ (a : EntryOf). EntryAtMost a (own_entry m.card m.log)) is_then low)

    same : position m.card w.moment ≡ position m.card m.log
    same = antisym (position m.card w.moment) (position m.card m.log) up down

was_grows : (lives : List LifeId) (s t : Slice) (r : LifeId) (e : EntryOf) → Run lives s t → WasEntry s r e → WasEntry t r e
was_grows lives s t r e run w =
    let g = has_grown lives s t w.life w.node run w.joined in
    record {
      life = w.life;
      node = g.node;
      joined = g.joined;
      moment = w.moment;
      earlier = earlier_trans w.moment w.node.log g.node.log w.earlier g.log;
      is = w.is ∙ ap (λ (c : CardOf). own_entry c w.moment) (sym g.card);
      root = subst (λ (c : CardOf). (position c w.moment).root ≡ r) (sym g.card) w.root;
    }

-- a report at a moment is true
pub record TrueAt (s : Slice) (n : Node) (h : Log) : Type 0 where
  pub had : (e : EntryOf) → In e (report n.card h) → WasEntry s (position n.card h).root e
  pub own : In (own_entry n.card h) (report n.card h)

abbrev pub AllTrue : Slice → Type 0
AllTrue s = (x : LifeId) (n : Node) (h : Log) → s x ≡ Some n → Earlier h n.log → is_stable n.card h ≡ true → TrueAt s n h

-- where what children reported is true, no life is left out
covered : (lives : List LifeId) (s : Slice) → length lives ≤ 126 → Run lives nobody s → (x : LifeId) (n : Node) (h : Log) → s x ≡ Some n
    → ((e : EntryOf) → FromChild n.card h e → WasEntry s (position n.card h).root e) → (f : EntryOf) → In f (own_entry n.card h ∷ reported n.card h) → Covers (report n.card h) f
covered lives s few run x n h sx children f i =
    report_is_complete n.card.me (own_entry n.card h ∷ reported n.card h) lives
    (record { most = few; own = me_known; all = λ e c. known e (in_from e (own_entry n.card h ∷ reported n.card h) c) }) f (contains_from f (own_entry n.card h ∷ reported n.card h) i)
  where
    me_known : Contains lives n.card.me
    me_known = let ok = nodes lives s run x n sx in subst (Contains lives) (sym ok.0.me) ok.1

    known : (e : EntryOf) → In e (own_entry n.card h ∷ reported n.card h) → Contains lives e.life
    known e (inl is) = subst (λ (a : EntryOf). Contains lives a.life) (sym is) me_known
    known e (inr j) =
        let w = children e (from_child n.card h e j) in
        subst (Contains lives) (sym (entry_life lives s run (position n.card h).root e w)) (nodes lives s run w.life w.node w.joined).1

true_now : (lives : List LifeId) (s : Slice) → length lives ≤ 126 → Run lives nobody s → (x : LifeId) (n : Node) → s x ≡ Some n
    → ((e : EntryOf) → FromChild n.card n.log e → WasEntry s (position n.card n.log).root e) → TrueAt s n n.log
true_now lives s few run x n sx children = record { had = had; own = own_in }
  where
    had : (e : EntryOf) → In e (report n.card n.log) → WasEntry s (position n.card n.log).root e
    had e i =
        ⊎_elim (λ (is : e ≡ own_entry n.card n.log). record { life = x; node = n; joined = sx; moment = n.log; earlier = earlier_itself n.log; is = is; root = refl })
        (λ (f : FromChild n.card n.log e). children e f)
        (from_report n.card n.log e i)

    own_in : In (own_entry n.card n.log) (report n.card n.log)
    own_in =
        let c = covered lives s few run x n n.log sx children (own_entry n.card n.log) (inl refl) in
        let i = in_from c.entry (report n.card n.log) c.kept in
        let is = present lives s few run (position n.card n.log).root x n c.entry sx (had c.entry i) (c.life ∙ (nodes lives s run x n sx).0.me) c.least in
        subst (λ (a : EntryOf). In a (report n.card n.log)) is i

true_grows : (lives : List LifeId) (s t : Slice) (n : Node) (h : Log) → Run lives s t → TrueAt s n h → TrueAt t n h
true_grows lives s t n h run a = record { had = λ e i. was_grows lives s t (position n.card h).root e run (a.had e i); own = a.own }

true_join : (lives : List LifeId) (t : Slice) (x : LifeId) (c : CardOf) → length lives ≤ 126 → Run lives nobody t → t x ≡ None → Contains lives x → IsCardOf x c → AllTrue t → AllTrue (with_node t x (record { card = c; log = [] }))
true_join lives t x c few run free known ok old y k h sy e st =
    ⊎_elim
    (λ (w : (x ≡ y) × (new ≡ k)). subst (λ (a : Node). Earlier h a.log → TrueAt (with_node t x new) a h) w.1 (λ d. subst (TrueAt (with_node t x new) new) (sym d) (true_now lives (with_node t x new) few (joins t x c run free known ok) x new (node_here t x new) nothing)) e)
    (λ (w : (x ≡ y → ⊥) × (t y ≡ Some k)). true_grows lives t (with_node t x new) k h (joins t x c none free known ok) (old y k h w.1 e st))
    (node_cases t x y new k sy)
  where
    new : Node
    new = record { card = c; log = [] }

    nothing : (e : EntryOf) → FromChild c [] e → WasEntry (with_node t x new) (position c []).root e
    nothing e f = absurd (true≢false (sym f.claims))

true_accept : (lives : List LifeId) (t : Slice) (x z : LifeId) (p q : ℕ) (n m : Node) (b : Body) → length lives ≤ 126 → (run : Run lives nobody t) → (step : Run lives t (with_node t x (record { card = n.card; log = record { port = p; body = b } ∷ n.log })))
    → Run lives nobody (with_node t x (record { card = n.card; log = record { port = p; body = b } ∷ n.log })) → t x ≡ Some n → AllTrue t → AllTrue (with_node t x (record { card = n.card; log = record { port = p; body = b } ∷ n.log }))
true_accept lives t x z p q n m b few run step whole sx old y k h sy e st =
    ⊎_elim
    (λ (w : (x ≡ y) × (new ≡ k)). subst (λ (a : Node). Earlier h a.log → is_stable a.card h ≡ true → TrueAt after a h) w.1 own_at e st)
    (λ (w : (x ≡ y → ⊥) × (t y ≡ Some k)). true_grows lives t after k h step (old y k h w.1 e st))
    (node_cases t x y new k sy)
  where
    new : Node
    new = record { card = n.card; log = record { port = p; body = b } ∷ n.log }

    after : Slice
    after = with_node t x new

    is_x : node after x ≡ new
    is_x = node_is after x new (node_here t x new)

    from_far : (e : EntryOf) (es : List EntryOf) (p : ℕ) → In e es → ChildReport after x new.log p es → WasEntry after (position n.card new.log).root e
    from_far e es p i r =
        let there : Names n.card p r.far r.far_port = subst (λ (a : Node). Names a.card p r.far r.far_port) is_x r.linked.there in
        let ne : x ≡ r.far → ⊥ = not_own x n.card p r.far r.far_port (nodes lives t run x n sx).0 there in
        let same : after r.far ≡ t r.far = node_else t x r.far new ne in
        let same_node : node after r.far ≡ node t r.far = ap (or_blank r.far) same in
        let far_joined : t r.far ≡ Some (node t r.far) = sym same ∙ joined after r.far r.far_port x p r.linked.back ∙ ap Some same_node in
        let was = old r.far (node t r.far) r.moment far_joined (subst (λ (a : Node). Earlier r.moment a.log) same_node r.earlier) (subst (λ (a : Node). is_stable a.card r.moment ≡ true) same_node r.stable) in
        let i' : In e (report (node t r.far).card r.moment) = subst (λ (a : Node). In e (report a.card r.moment)) same_node (subst (In e) r.report i) in
        let root : (position (node t r.far).card r.moment).root ≡ (position n.card new.log).root =
        ap (λ (a : Node). (position a.card r.moment).root) (sym same_node) ∙ r.root ∙ ap (λ (a : Node). (position a.card new.log).root) is_x in
        subst (λ (a : LifeId). WasEntry after a e) root (was_grows lives t after (position (node t r.far).card r.moment).root e step (was.had e i'))

    children : is_stable n.card new.log ≡ true → (e : EntryOf) → FromChild n.card new.log e → WasEntry after (position n.card new.log).root e
    children st e f =
        from_far e f.entries f.link.port f.has
        (child_report lives after few whole x (node_here t x new ∙ ap Some (sym is_x)) new.log (subst (λ (a : Node). Earlier new.log a.log) (sym is_x) (earlier_itself new.log))
        (subst (λ (a : Node). is_stable a.card new.log ≡ true) (sym is_x) st) f.link (subst (λ (a : Node). In f.link a.card.links) (sym is_x) f.in_links) f.claims f.entries f.last)

    own_at : Earlier h new.log → is_stable n.card h ≡ true → TrueAt after new h
    own_at (inl d) st =
        subst (TrueAt after new) (sym d) (true_now lives after few whole x new (node_here t x new) (children (subst (λ a. is_stable n.card a ≡ true) d st)))
    own_at (inr d) st =
        let a = true_grows lives t after n h step (old x n h sx d st) in
        record { had = a.had; own = a.own }

pub all_true : (lives : List LifeId) (s : Slice) → length lives ≤ 126 → Run lives nobody s → AllTrue s
all_true lives _ few none = λ x n h sx e st. absurd (none_some sx)
all_true lives _ few (joins t x c run free known ok) = true_join lives t x c few run free known ok (all_true lives t few run)
all_true lives _ few (accepts t x z p q n m b run sx sz lx lz next) =
    true_accept lives t x z p q n m b few run (accepts t x z p q n m b none sx sz lx lz next) (accepts t x z p q n m b run sx sz lx lz next) sx (all_true lives t few run)

-- what the children of a stable life reported is true
children_true : (lives : List LifeId) (s : Slice) → length lives ≤ 126 → Run lives nobody s → (x : LifeId) → s x ≡ Some (node s x) → (h : Log) → Earlier h (node s x).log → is_stable (node s x).card h ≡ true
    → (e : EntryOf) → FromChild (node s x).card h e → WasEntry s (position (node s x).card h).root e
children_true lives s few run x sx h e st f c =
    let r = child_report lives s few run x sx h e st c.link c.in_links c.claims c.entries c.last in
    let was = all_true lives s few run r.far (node s r.far) r.moment (joined s r.far r.far_port x c.link.port r.linked.back) r.earlier r.stable in
    subst (λ (a : LifeId). WasEntry s a f) r.root (was.had f (subst (In f) r.report c.has))

-- what a state's reports hold: the present entry of y is in the report of x at moment i
abbrev pub Present : Slice → LifeId → ℕ → LifeId → Type 0
Present s x i y = s x ≡ Some (node s x) → In (own_entry (node s y).card (node s y).log) (report (node s x).card (mom s x i))

pub present_own : (lives : List LifeId) (s : Slice) → length lives ≤ 126 → Run lives nobody s → (x : LifeId) (i : ℕ) → is_stable (node s x).card (mom s x i) ≡ true
    → version (node s x).card (mom s x i) ≡ version (node s x).card (mom s x (length (node s x).log)) → Present s x i x
present_own lives s few run x i st v sx =
    let own = (all_true lives s few run x (node s x) (mom s x i) sx (at_earlier (node s x).log i) st).own in
    let same = one_position (node s x).card (node s x).log (mom s x i) (node s x).log (at_earlier (node s x).log i) (earlier_itself (node s x).log) (v ∙ ap (version (node s x).card) (at_whole (node s x).log)) in
    subst (λ (p : Place). In (record { life = (node s x).card.me; position = p; proposed = (node s x).card.proposed; links = (node s x).card.links }) (report (node s x).card (mom s x i))) same own

pub present_passed : (lives : List LifeId) (s : Slice) → length lives ≤ 126 → Run lives nobody s → (x : LifeId) (p : ℕ) (z : LifeId) (q i : ℕ) (j : Log) → Linked s x p z q → is_stable (node s x).card (mom s x i) ≡ true → is_claimed (on_port p (mom s x i)) ≡ true
    → Earlier j (node s z).log → is_stable (node s z).card j ≡ true → fresh_report (on_port p (mom s x i)) ≡ Some (report (node s z).card j) → (y : LifeId) → Present s z (length j) y → Present s x i y
present_passed lives s few run x p z q i j l st claims ej stj fresh y holds sx = subst (λ (a : EntryOf). In a (report (node s x).card h)) is in_report
  where
    h : Log
    h = mom s x i

    e : Earlier h (node s x).log
    e = at_earlier (node s x).log i

    f : EntryOf
    f = own_entry (node s y).card (node s y).log

    sz : s z ≡ Some (node s z)
    sz = joined s z q x p l.back

    there : In f (report (node s z).card j)
    there = subst (λ a. In f (report (node s z).card a)) (number j (node s z).log ej).1 (holds sz)

    was : WasEntry s (position (node s z).card j).root f
    was = (all_true lives s few run z (node s z) j sz ej stj).had f there

    me_y : (node s y).card.me ≡ y
    me_y = me_is lives s run y

    y_is : y ≡ was.life
    y_is = sym me_y ∙ entry_life lives s run (position (node s z).card j).root f was

    sy : s y ≡ Some (node s y)
    sy = let at_y = ap s y_is ∙ was.joined in at_y ∙ ap Some (sym (node_is s y was.node at_y))

    among : In f (reported (node s x).card h)
    among =
        to_reported (node s x).card h (record { port = p; peer = record { life = z; port = q } }) (report (node s z).card j) f (link_of (node s x).card p z q l.there) claims
        (fresh-last (on_port p h) (report (node s z).card j) fresh) there

    cover : Covers (report (node s x).card h) f
    cover = covered lives s few run x (node s x) h sx (children_true lives s few run x sx h e st) f (inr among)

    in_report : In cover.entry (report (node s x).card h)
    in_report = in_from cover.entry (report (node s x).card h) cover.kept

    is : cover.entry ≡ f
    is =
        present lives s few run (position (node s x).card h).root y (node s y) cover.entry sy ((all_true lives s few run x (node s x) h sx e st).had cover.entry in_report) (cover.life ∙ me_y) cover.least

abbrev pub content : (lives : List LifeId) (s : Slice) → length lives ≤ 126 → Run lives nobody s → Content s
content lives s few run = record {
  Holds = Present s;
  own = λ x i hi st v. present_own lives s few run x i st v;
  passed = λ x p z q i j l hi st f ej stj r y k. present_passed lives s few run x p z q i j l st f ej stj r y k;
}

-- the link to the parent is named at both ends
pub parent_linked : (lives : List LifeId) (s : Slice) → Run lives nobody s → (x z : LifeId) (q : ℕ) → s x ≡ Some (node s x) → Names (node s x).card (position (node s x).card (node s x).log).port z q → Linked s x (position (node s x).card (node s x).log).port z q
parent_linked lives s run x z q sx at = by (position_is c l)
  where
    c : CardOf
    c = (node s x).card

    l : Log
    l = (node s x).log

    p : ℕ
    p = (position c l).port

    no_zero : (n : ℕ) → n ≡ 0 → 0 < n → ⊥
    no_zero n e f = omega (arith, e, f)

    from_far : (w : FromLink c l (position c l)) → (on_port w.link.port l ≡ []) ⊎ ShowsFar s x (node s x) w.link.port (on_port w.link.port l) → Linked s x p z q
    from_far w (inl nil) = absurd (none_some (sym (ap last_pos nil) ∙ w.offered.last))
    from_far w (inr v) =
        let port_is : p ≡ w.link.port = ap (λ (a : Place). a.port) w.is in
        let ends = one_end c p v.far v.port z q (subst (λ n. Names c n v.far v.port) (sym port_is) v.named) at in
        record {
          there = at;
          back = subst (λ (a : LifeId × ℕ). Names (node s a.0).card a.1 x p) (λ i. (ends.0 i, ends.1 i))
              (subst (λ (a : Node). Names a.card v.port x p) (sym (node_is s v.far v.node v.joined)) (subst (λ n. Names v.node.card v.port x n) (sym port_is) v.back));
        }

    by : (position c l ≡ self_root c.me) ⊎ FromLink c l (position c l) → Linked s x p z q
    by (inl own) = absurd (no_zero p (ap (λ (a : Place). a.port) own) (port_above c (record { port = p; peer = record { life = z; port = q } }) (rises x c (nodes lives s run x (node s x) sx).0) (link_of c p z q at)))
    by (inr w) = from_far w (shows_far lives s x (node s x) w.link.port l run sx (earlier_itself l))

under_from : (lives : List LifeId) (s : Slice) (few : length lives ≤ 126) (run : Run lives nobody s) (z y : LifeId) → LeadsTo s z y → Under (laws lives s few run (content lives s few run)) z y
under_from lives s few run _ _ (here z) = Under-here z
under_from lives s few run _ _ (via z u y q n su at rest) =
    let is : node s u ≡ n = node_is s u n su in
    let sx : s u ≡ Some (node s u) = su ∙ ap Some (sym is) in
    let p : ℕ = (position (node s u).card (node s u).log).port in
    Under-via z u y p q (parent_linked lives s run u z q sx (subst (λ (a : Node). Names a.card (position a.card a.log).port z q) (sym is) at))
    (ap (λ (a : Log). (position (node s u).card a).port) (at_whole (node s u).log)) (under_from lives s few run u y rest)

below_at : (lives : List LifeId) (s : Slice) → length lives ≤ 126 → Run lives nobody s → (x : LifeId) (n : Node) (h : Log) (y : LifeId) (m : Node) → s x ≡ Some n → Earlier h n.log → is_stable n.card h ≡ true → version n.card h ≡ version n.card n.log
    → LeadsTo s x y → s y ≡ Some m → In (own_entry m.card m.log) (report n.card h)
below_at lives s few run x n h y m sx e st v leads sy =
    let is_x : node s x ≡ n = node_is s x n sx in
    let is_y : node s y ≡ m = node_is s y m sy in
    let w = laws lives s few run (content lives s few run) in
    let k = number h (node s x).log (subst (λ (a : Node). Earlier h a.log) (sym is_x) e) in
    let found = below w x y (length h) k.0
    (subst (λ (a : Log). is_stable (node s x).card a ≡ true) (sym k.1) (subst (λ (a : Node). is_stable a.card h ≡ true) (sym is_x) st))
    (ap (version (node s x).card) k.1 ∙ subst (λ (a : Node). version a.card h ≡ version a.card a.log) (sym is_x) v ∙ ap (version (node s x).card) (sym (at_whole (node s x).log)))
    (under_from lives s few run x y leads) in
    subst (λ (a : Node). In (own_entry a.card a.log) (report n.card h)) is_y
    (subst (λ (a : Node). In (own_entry (node s y).card (node s y).log) (report a.card h)) is_x
    (subst (λ (a : Log). In (own_entry (node s y).card (node s y).log) (report (node s x).card a)) k.1 (found (sx ∙ ap Some (sym is_x)))))

pub reports_are_true : (lives : List LifeId) (s : Slice) → length lives ≤ 126 → Run lives nobody s → ReportsAreTrue s
reports_are_true lives s few run = record {
  rising = λ x n h sx e st. (report_is_report n.card.me (own_entry n.card h ∷ reported n.card h)).rising;
  own = λ x n h sx e st. contains_from (own_entry n.card h) (report n.card h) (all_true lives s few run x n h sx e st).own;
  had = λ x n h f sx e st i. (all_true lives s few run x n h sx e st).had f (in_from f (report n.card h) i);
  below = λ x n h y m sx e st v leads sy. contains_from (own_entry m.card m.log) (report n.card h) (below_at lives s few run x n h y m sx e st v leads sy);
}
