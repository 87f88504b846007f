use Rattle.std.proofs.Common.{◌≡◌, inl, inr, ℕ, zero, suc, ◌+◌, ◌≤◌, ◌<◌, List, [], ◌∷◌, length, get_or, map, Some, refl, sym, ap, ◌∙◌, subst, ⊎_elim, arith, Contains}
use Rattle.std.proofs.lemmas.Bool.{cases_lt}
use Rattle.std.proofs.lemmas.List.{get_or_default}
use Rattle.std.proofs.lemmas.List.Elements.{Contains-get_or}
use Rattle.an_base.specs.Values.{LifeId, Place, PeerAt, EntryOf, TopoOf}
use Rattle.an_base.specs.Order.{LivesRise, PortsRise}
use Rattle.an_base.proofs.LifeLemmas.{below_same}
use Rattle.topo_report.proofs.Members.{In, Rises, in_from, contains_from, rises_from}
use Rattle.topo_report.proofs.DistinctLemmas.{AreApart, length-le_from_apart}
use Rattle.topo_report.proofs.ReportLaws.{report_is_report}
use Rattle.topo_graph.specs.Topology.{IsLink, nothing, entry_at, life_at, level_at, far_of, IsGraph, IsTree, Names as EntryNames}
use Rattle.topo_graph.specs.Stands.{IsAfter, IsNextBelow, Stands}
use Rattle.topo_graph.proofs.FarLemmas.{one_place, far_is_link, link_is_far}
use Rattle.topo_graph.proofs.TreeLemmas.{places_le, stand_tree}
use Rattle.epoch_core.specs.Epoch.{own_entry, reported, finish}
use Rattle.epoch_game.specs.Slice.{Node, Slice, nobody, Names, IsCardOf, Run}
use Rattle.epoch_game.specs.Detection.{Reached, start, IsMemberEntry, FinishedUnder}
use Rattle.epoch_game.proofs.Nodes.{all_in, not_own, rises}
use Rattle.epoch_game.proofs.StreamLemmas.{nodes}
use Rattle.epoch_game.proofs.Orders.{LifeAtMost, given}
use Rattle.epoch_game.proofs.OfferLemmas.{find_link}
use Rattle.epoch_game.proofs.StateLemmas.{node, node_is, Linked, link_of, plain}
use Rattle.epoch_game.proofs.DetectLemmas.{Rooted, place, Member, member, at_own, at_most_next, FromParent, from_parent, parent_least, level_next, root_least}
use Rattle.epoch_game.proofs.FinishLemmas.{finished_under}

-- entries that are exactly those of the members of r, by rising life
record MemberEntries (lives : List LifeId) (s : Slice) (r : LifeId) (es : List EntryOf) : Type 1 where
  rooted : Rooted lives s r
  rising : LivesRise es
  only : (e : EntryOf) → In e es → IsMemberEntry s r e
  has : (x : LifeId) → Reached s r x → In (own_entry (node s x).card (node s x).log) es

-- the member at a place
record At (s : Slice) (r : LifeId) (es : List EntryOf) (i : ℕ) : Type 0 where
  life : LifeId
  reached : Reached s r life
  is : entry_at es i ≡ own_entry (node s life).card (node s life).log

at_place : (lives : List LifeId) (s : Slice) (r : LifeId) (es : List EntryOf) → MemberEntries lives s r es → (i : ℕ) → i < length es → At s r es i
at_place lives s r es m i low =
    let f = m.only (entry_at es i) (in_from (entry_at es i) es (Contains-get_or es i nothing low)) in
    record { life = f.life; reached = f.reached; is = f.is ∙ ap (λ (a : Node). own_entry a.card a.log) (sym (node_is s f.life f.node f.joined)) }

own_life : (lives : List LifeId) (s : Slice) (r : LifeId) (es : List EntryOf) (m : MemberEntries lives s r es) (x : LifeId) → Reached s r x → (node s x).card.me ≡ x
own_life lives s r es m x h = (nodes lives s m.rooted.run x (node s x) (member lives s r x m.rooted h).joined).0.me

life_of : (lives : List LifeId) (s : Slice) (r : LifeId) (es : List EntryOf) (m : MemberEntries lives s r es) (i : ℕ) (a : At s r es i) → life_at es i ≡ a.life
life_of lives s r es m i a = ap (λ (e : EntryOf). e.life) a.is ∙ own_life lives s r es m a.life a.reached

-- the place of a member
record PlaceOf (es : List EntryOf) (x : LifeId) : Type 0 where
  at : ℕ
  low : at < length es
  life : life_at es at ≡ x

place_for : (lives : List LifeId) (s : Slice) (r : LifeId) (es : List EntryOf) (m : MemberEntries lives s r es) (x : LifeId) → Reached s r x → PlaceOf es x
place_for lives s r es m x h =
    let e = own_entry (node s x).card (node s x).log in
    let c = contains_from e es (m.has x h) in
    let there : get_or es c.0 nothing ≡ e = get_or_default es c.0 nothing e c.1 ∙ c.2 in
    record { at = c.0; low = c.1; life = ap (λ (a : EntryOf). a.life) there ∙ own_life lives s r es m x h }

-- Links of the entries are the links of the members.
card_of : (lives : List LifeId) (s : Slice) (r : LifeId) (es : List EntryOf) (m : MemberEntries lives s r es) (x : LifeId) → Reached s r x → IsCardOf x (node s x).card
card_of lives s r es m x h = (nodes lives s m.rooted.run x (node s x) (member lives s r x m.rooted h).joined).0

-- a link of the entries is one of the epoch
link_there : (lives : List LifeId) (s : Slice) (r : LifeId) (es : List EntryOf) (m : MemberEntries lives s r es) (x : LifeId) (p : ℕ) (z : LifeId) (q : ℕ) → Reached s r x
    → EntryNames es (record { life = x; port = p }) (record { life = z; port = q }) → Names (node s x).card p z q
link_there lives s r es m x p z q h names =
    let e = names.0 in
    let f = m.only e (in_from e es names.1) in
    let is : e ≡ own_entry (node s f.life).card (node s f.life).log = f.is ∙ ap (λ (a : Node). own_entry a.card a.log) (sym (node_is s f.life f.node f.joined)) in
    let life : f.life ≡ x = sym (own_life lives s r es m f.life f.reached) ∙ ap (λ (a : EntryOf). a.life) (sym is) ∙ names.2 in
    let k : PeerAt = record { port = p; peer = record { life = z; port = q } } in
    let i : In k (node s x).card.links =
    subst (λ (y : LifeId). In k (node s y).card.links) life (in_from k (node s f.life).card.links (subst (λ (a : EntryOf). Contains a.links k) is names.3)) in
    find_link 0 (node s x).card.links k (rises x (node s x).card (card_of lives s r es m x h)) i

-- and each link between members is one of the entries
link_in : (lives : List LifeId) (s : Slice) (r : LifeId) (es : List EntryOf) (m : MemberEntries lives s r es) (x : LifeId) (p : ℕ) (z : LifeId) (q : ℕ) → Reached s r x → Reached s r z → Linked s x p z q
    → IsLink es (record { life = x; port = p }) (record { life = z; port = q })
link_in lives s r es m x p z q hx hz l = record {
  there = names x p z q hx l.there;
  back = names z q x p hz l.back;
  apart = not_own x (node s x).card p z q (card_of lives s r es m x hx) l.there;
}
  where
    names : (x : LifeId) (p : ℕ) (z : LifeId) (q : ℕ) → Reached s r x → Names (node s x).card p z q → EntryNames es (record { life = x; port = p }) (record { life = z; port = q })
    names x p z q h at =
        let e = own_entry (node s x).card (node s x).log in
        let k : PeerAt = record { port = p; peer = record { life = z; port = q } } in
        (e, contains_from e es (m.has x h), own_life lives s r es m x h, contains_from k (node s x).card.links (link_of (node s x).card p z q at))

-- what a port leads to, among the members
record FarAt (s : Slice) (r : LifeId) (es : List EntryOf) (x p y q : ℕ) : Type 0 where
  low : x < length es
  far_low : y < length es
  near : At s r es x
  far : At s r es y
  linked : Linked s near.life p far.life q

far_at : (lives : List LifeId) (s : Slice) (r : LifeId) (es : List EntryOf) (m : MemberEntries lives s r es) (x p y q : ℕ) → far_of es x p ≡ Some (y, q) → FarAt s r es x p y q
far_at lives s r es m x p y q is =
    let f = far_is_link es x p y q m.rising is in
    let a = at_place lives s r es m x f.0 in
    let b = at_place lives s r es m y f.1 in
    let lx = life_of lives s r es m x a in
    let ly = life_of lives s r es m y b in
    let there : EntryNames es (record { life = a.life; port = p }) (record { life = b.life; port = q }) =
    subst (λ (v : LifeId × LifeId). EntryNames es (record { life = v.0; port = p }) (record { life = v.1; port = q })) (λ i. (lx i, ly i)) (f.2).there in
    let back : EntryNames es (record { life = b.life; port = q }) (record { life = a.life; port = p }) =
    subst (λ (v : LifeId × LifeId). EntryNames es (record { life = v.1; port = q }) (record { life = v.0; port = p })) (λ i. (lx i, ly i)) (f.2).back in
    record {
      low = f.0;
      far_low = f.1;
      near = a;
      far = b;
      linked = record { there = link_there lives s r es m a.life p b.life q a.reached there; back = link_there lives s r es m b.life q a.life p b.reached back };
    }

port_range : (lives : List LifeId) (s : Slice) (r : LifeId) (es : List EntryOf) (m : MemberEntries lives s r es) (x : LifeId) (p : ℕ) (z : LifeId) (q : ℕ) → Reached s r x → Names (node s x).card p z q → (1 ≤ p) × (p ≤ 12)
port_range lives s r es m x p z q h at =
    let c = card_of lives s r es m x h in
    let i = link_of (node s x).card p z q at in
    (all_in (λ k. 1 ≤ k.port) (node s x).card.links _ c.least i, all_in (λ k. k.port ≤ 12) (node s x).card.links _ c.most i)

-- no more entries than lives
life_in : (es : List EntryOf) (x : LifeId) → In x (map (λ e. e.life) es) → (e : EntryOf) × (In e es) × (e.life ≡ x)
life_in [] x i = absurd i
life_in (e ∷ es) x (inl is) = (e, inl refl, sym is)
life_in (e ∷ es) x (inr i) = let w = life_in es x i in (w.0, inr w.1, w.2)

lives_apart : (es : List EntryOf) → Rises es → AreApart (map (λ e. e.life) es)
lives_apart [] rise = tt
lives_apart (e ∷ es) rise = (λ i. let w = life_in es e.life i in below_same e.life (w.0).life (sym w.2) (rise.0 w.0 w.1), lives_apart es rise.1)

length-map : (es : List EntryOf) → length (map (λ e. e.life) es) ≡ length es
length-map [] = refl
length-map (e ∷ es) = ap suc (length-map es)

few_entries : (lives : List LifeId) (s : Slice) (r : LifeId) (es : List EntryOf) (m : MemberEntries lives s r es) → length es ≤ 126
few_entries lives s r es m =
    let within = length-le_from_apart (map (λ e. e.life) es) lives (lives_apart es (rises_from es m.rising)) known in
    let same = length-map es in
    let few = m.rooted.few in
    omega (arith, within, same, few)
  where
    known : (x : LifeId) → In x (map (λ e. e.life) es) → In x lives
    known x i =
        let w = life_in es x i in
        let f = m.only w.0 w.1 in
        let n = nodes lives s m.rooted.run f.life f.node f.joined in
        let is : f.life ≡ x = sym n.0.me ∙ ap (λ (a : EntryOf). a.life) (sym f.is) ∙ w.2 in
        subst (λ (y : LifeId). In y lives) is (in_from f.life lives n.1)

no_entry : (es : List EntryOf) (x : ℕ) → length es ≤ x → entry_at es x ≡ nothing
no_entry [] x e = refl
no_entry (f ∷ es) zero e = absurd (omega (arith, e))
no_entry (f ∷ es) (suc x) e = no_entry es x (omega (arith, e))

ports_rise : (lives : List LifeId) (s : Slice) (r : LifeId) (es : List EntryOf) (m : MemberEntries lives s r es) (x : ℕ) → PortsRise (entry_at es x).links
ports_rise lives s r es m x =
    ⊎_elim
    (λ (low : x < length es).
    let a = at_place lives s r es m x low in
    subst (λ (e : EntryOf). PortsRise e.links) (sym a.is) (card_of lives s r es m a.life a.reached).ports)
    (λ (high : length es ≤ x). subst (λ (e : EntryOf). PortsRise e.links) (sym (no_entry es x high)) (λ i j d less within. absurd (omega (arith, within))))
    (cases_lt x (length es))

some_entry : (xs : List EntryOf) (e : EntryOf) → In e xs → 1 ≤ length xs
some_entry [] e i = absurd i
some_entry (f ∷ xs) e i = omega arith

is_graph : (lives : List LifeId) (s : Slice) (r : LifeId) (es : List EntryOf) → MemberEntries lives s r es → IsGraph es
is_graph lives s r es m = record {
  some = some_entry es _ (m.has r start);
  most = few_entries lives s r es m;
  rising = m.rising;
  ports = ports_rise lives s r es m;
  within = λ x p far is.
      let f = far_at lives s r es m x p far.0 far.1 is in
      let a = port_range lives s r es m f.near.life p f.far.life far.1 f.near.reached f.linked.there in
      let b = port_range lives s r es m f.far.life far.1 f.near.life p f.far.reached f.linked.back in
      record { place = f.low; port_least = a.0; port_most = a.1; far_place = f.far_low; far_port_least = b.0; far_port_most = b.1 };
}

-- the root is first
root_first : (lives : List LifeId) (s : Slice) (r : LifeId) (es : List EntryOf) → MemberEntries lives s r es → life_at es 0 ≡ r
root_first lives s r es m =
    let i = place_for lives s r es m r start in
    let low = i.low in
    let zero_low : 0 < length es = omega (arith, low) in
    let a = at_place lives s r es m 0 zero_low in
    let least : LifeAtMost r a.life = root_least lives s r a.life m.rooted a.reached in
    let first = places_le es i.at 0 m.rising i.low (subst (λ (v : LifeId × LifeId). LifeAtMost v.0 v.1) (λ j. (sym i.life j, sym (life_of lives s r es m 0 a) j)) least) in
    let none : i.at ≡ 0 = omega (arith, first) in
    ap (life_at es) (sym none) ∙ i.life

level_of : (s : Slice) (r : LifeId) (es : List EntryOf) (i : ℕ) (a : At s r es i) → level_at es i ≡ (place s a.life).level
level_of s r es i a = ap (λ (e : EntryOf). e.position.level) a.is

stands : (lives : List LifeId) (s : Slice) (r : LifeId) (es : List EntryOf) → MemberEntries lives s r es → (x : ℕ) → x < length es → Stands es x (entry_at es x).position
stands lives s r es m x low = subst (Stands es x) (sym (ap (λ (e : EntryOf). e.position) a.is)) (record { root = mine.root ∙ sym first; first = at_first; below = below })
  where
    d : Rooted lives s r
    d = m.rooted

    a : At s r es x
    a = at_place lives s r es m x low

    mine : Member lives s r a.life d
    mine = member lives s r a.life d a.reached

    first : life_at es 0 ≡ r
    first = root_first lives s r es m

    life : life_at es x ≡ a.life
    life = life_of lives s r es m x a

    at_first : x ≡ 0 → ((place s a.life).level ≡ 0) × ((place s a.life).parent ≡ life_at es 0) × ((place s a.life).port ≡ 0)
    at_first e =
        let own = ap (place s) (sym life ∙ ap (life_at es) e ∙ first) ∙ at_own lives s r d in
        (ap (λ (p : Place). p.level) own, ap (λ (p : Place). p.parent) own ∙ sym first, ap (λ (p : Place). p.port) own)

    other : (x ≡ 0 → ⊥) → a.life ≡ r → ⊥
    other ne e = ne (one_place es x 0 m.rising low (let l = low in omega (arith, l)) (life ∙ e ∙ sym first))

    -- a link that leads from x, seen from the members
    after : (f : FromParent s r a.life) (y : ℕ) → y < length es → life_at es y ≡ f.parent → (o : ℕ) → IsAfter es x y (place s a.life) o
    after f y low_y at_y o z q is =
        let w = far_at lives s r es m x o z q is in
        let near : w.near.life ≡ a.life = sym (life_of lives s r es m x w.near) ∙ life in
        let l : Linked s a.life o w.far.life q = subst (λ (v : LifeId). Linked s v o w.far.life q) near w.linked in
        let mz = member lives s r w.far.life d w.far.reached in
        let level = level_of s r es z w.far in
        let step = level_next lives s r a.life d o w.far.life q l mine mz in
        let at_z = life_of lives s r es m z w.far in (
          omega (arith, level, step),
          λ same.
              let best = parent_least (place s a.life) (given (place s w.far.life) (plain w.far.life o)) (mine.root ∙ sym mz.root) (omega (arith, level, same)) (at_most_next lives s r a.life d o w.far.life q l mz) in
              let parent_is : (place s a.life).parent ≡ f.parent = ap (λ (p : Place). p.parent) f.is in (
                places_le es y z m.rising low_y (subst (λ (v : LifeId × LifeId). LifeAtMost v.0 v.1) (λ i. ((parent_is ∙ sym at_y) i, sym at_z i)) best.0),
                λ e. best.1 (parent_is ∙ sym at_y ∙ ap (life_at es) e ∙ at_z),
              ),
        )

    from_link : (f : FromParent s r a.life) → (ne : a.life ≡ r → ⊥) → (y : ℕ) × IsNextBelow es x y (place s a.life)
    from_link f ne =
        let w = link_is_far es (record { life = a.life; port = f.port }) (record { life = f.parent; port = f.far }) (is_graph lives s r es m) (link_in lives s r es m a.life f.port f.parent f.far a.reached f.reached f.linked) in
        let y = w.1 in
        let at_y = w.5 in
        let here : w.0 ≡ x = one_place es w.0 x m.rising w.2 low (w.4 ∙ sym life) in
        let b = at_place lives s r es m y w.3 in
        let peer : b.life ≡ f.parent = sym (life_of lives s r es m y b) ∙ at_y in
        let port_is : (place s a.life).port ≡ f.port = ap (λ (p : Place). p.port) f.is in
        let parent_is : (place s a.life).parent ≡ f.parent = ap (λ (p : Place). p.parent) f.is in
        let level_is : (place s a.life).level ≡ (place s f.parent).level + 1 = ap (λ (p : Place). p.level) f.is in (
          y,
          record {
            parent = record {
              port = (f.far, subst (λ (v : ℕ × ℕ). far_of es v.0 v.1 ≡ Some (y, f.far)) (λ i. (here i, sym port_is i)) w.6);
              level = ap (λ n. n + 1) (level_of s r es y b ∙ ap (λ (v : LifeId). (place s v).level) peer) ∙ sym level_is;
              parent = parent_is ∙ sym at_y;
            };
            after = after f y w.3 at_y;
          },
        )

    below : (x ≡ 0 → ⊥) → (y : ℕ) × IsNextBelow es x y (place s a.life)
    below ne = from_link (from_parent lives s r a.life d a.reached (other ne)) (other ne)

-- The entries of a finish are a tree.
pub is_tree : (lives : List LifeId) (s : Slice) (x : LifeId) (n : Node) (t : TopoOf) → length lives ≤ 126 → Run lives nobody s → s x ≡ Some n → finish n.card n.log ≡ Some t → IsGraph t.entries × IsTree t.entries
is_tree lives s x n t few run sx done = (is_graph lives s u.root t.entries m, stand_tree t.entries (is_graph lives s u.root t.entries m) (stands lives s u.root t.entries m))
  where
    u : FinishedUnder s x t
    u = finished_under lives s few run x n t sx done

    d : Rooted lives s u.root
    d = record { few = few; run = run; was = u.was }

    m : MemberEntries lives s u.root t.entries
    m = record {
      rooted = d;
      rising = subst (λ (a : TopoOf). LivesRise a.entries) (sym u.topology) (report_is_report u.was.node.card.me (own_entry u.was.node.card u.was.moment ∷ reported u.was.node.card u.was.moment)).rising;
      only = λ e i. (u.entries e).0 (contains_from e t.entries i);
      has = λ y h. in_from _ t.entries ((u.entries (own_entry (node s y).card (node s y).log)).1 (record { life = y; node = node s y; reached = h; joined = (member lives s u.root y d h).joined; is = refl }));
    }
