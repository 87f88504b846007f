use Rattle.std.proofs.Common.{◌≡◌, ℕ, zero, suc, ◌+◌, ◌≤◌, List, [], ◌∷◌, length, Some, true, refl, sym, ap, ◌∙◌, subst, ⊎_elim, arith, IsTrue, Less, Equal, Greater}
use Rattle.std.specs.declared.cmp.Ordering.{Ordering}
use Rattle.std.specs.Ordering.{is_le, nat_cmp, ordering_then}
use Rattle.std.specs.Cmp.{tied_itself}
use Rattle.std.proofs.lemmas.Bool.Decides.{nat_tests}
use Rattle.an_base.specs.Values.{LifeId, Place, EntryOf}
use Rattle.an_base.specs.Order.{life_cmp}
use Rattle.an_base.specs.TotalOrders.{life_total}
use Rattle.tree_position.specs.Position.{self_root}
use Rattle.topo_report.proofs.Members.{In, Rises, rises_from, rising_apart, same_members}
use Rattle.topo_report.proofs.ReportLaws.{report_is_report}
use Rattle.epoch_core.specs.Log.{CardOf, Log, on_port}
use Rattle.epoch_core.specs.Epoch.{version, position, is_stable, own_entry, reported, report}
use Rattle.epoch_core.specs.Laws.{IsAtMost}
use Rattle.epoch_game.specs.Slice.{Earlier, Node, Slice, nobody, Names, Run}
use Rattle.epoch_game.specs.Streams.{positions_in}
use Rattle.epoch_game.specs.Leaving.{WasStableRoot}
use Rattle.epoch_game.specs.Detection.{Reached, start, next, IsNextTo, WalkTo, IsDistance, IsNearer, IsTreePlace, IsMemberEntry}
use Rattle.epoch_game.proofs.Lists.{earlier_itself, earlier_nil}
use Rattle.epoch_game.proofs.Moments.{version_least, version_grows, one_position, at_whole, number}
use Rattle.epoch_game.proofs.Nodes.{decide_life}
use Rattle.epoch_game.proofs.StreamLemmas.{one_end}
use Rattle.epoch_game.proofs.Orders.{LifeAtMost, root_at_most, level_at_most, given, nat_le}
use Rattle.epoch_game.proofs.OfferLemmas.{at_most_self}
use Rattle.epoch_game.proofs.ImproveLemmas.{only_improves}
use Rattle.epoch_game.proofs.EpochLaws.{EpochLaws}
use Rattle.epoch_game.proofs.LeavingLemmas.{own_root, lasting_state, never_state, stable_last}
use Rattle.epoch_game.proofs.MemberLemmas.{Reach, start as Reach-start, next as Reach-next, Detected, members, offers_present, had_root, report_holds}
use Rattle.epoch_game.proofs.StateLemmas.{node, node_is, Linked, me_is, mom, joined, stable_on, plain, gives_at, gives_is, Content, laws}
use Rattle.epoch_game.proofs.ContentLemmas.{link_on, content, all_true}
use Rattle.epoch_core.proofs.JoinLemmas.{position_none}

-- a state in which r was once a stable root
pub record Rooted (lives : List LifeId) (s : Slice) (r : LifeId) : Type 0 where
  pub few : length lives ≤ 126
  pub run : Run lives nobody s
  pub was : WasStableRoot s r

abbrev pub state : (lives : List LifeId) (s : Slice) (r : LifeId) → Rooted lives s r → EpochLaws
state lives s r d = laws lives s d.few d.run (content lives s d.few d.run)

detected : (lives : List LifeId) (s : Slice) (r : LifeId) (d : Rooted lives s r) → Detected (state lives s r d) r
detected lives s r d =
    let g = stable_last lives s d.few d.run (content lives s d.few d.run) r d.was in
    record {
      moment = g.moment;
      never = never_state lives s d.few d.run (content lives s d.few d.run) r;
      last = g.last;
      stable = g.stable;
      lasting = lasting_state lives s d.few d.run (content lives s d.few d.run);
    }

-- the present position
abbrev pub place : Slice → LifeId → Place
place s x = position (node s x).card (node s x).log

-- a member: it has joined, has root r and is stable
pub record Member (lives : List LifeId) (s : Slice) (r x : LifeId) (d : Rooted lives s r) : Type 1 where
  pub joined : s x ≡ Some (node s x)
  pub reach : Reach (state lives s r d) r x
  pub root : (place s x).root ≡ r
  pub stable : is_stable (node s x).card (node s x).log ≡ true

member_of : (lives : List LifeId) (s : Slice) (r x : LifeId) (d : Rooted lives s r) → s x ≡ Some (node s x) → Reach (state lives s r d) r x → Member lives s r x d
member_of lives s r x d sx reach =
    let m = members (state lives s r d) r x (detected lives s r d) reach in
    record {
      joined = sx;
      reach = reach;
      root = ap (λ (a : Log). (position (node s x).card a).root) (sym (at_whole (node s x).log)) ∙ m.last.root;
      stable = subst (λ (a : Log). is_stable (node s x).card a ≡ true) (at_whole (node s x).log) m.stable;
    }

-- each link of a member is named at both ends
pub linked_back : (lives : List LifeId) (s : Slice) (r x : LifeId) (d : Rooted lives s r) → Member lives s r x d → (p : ℕ) (z : LifeId) (q : ℕ) → Names (node s x).card p z q → Linked s x p z q
linked_back lives s r x d m p z q named =
    let st = stable_on s x p z q (node s x).log named m.stable in
    let l = link_on lives s d.run x p (node s x).log (version (node s x).card (node s x).log) m.joined (earlier_itself (node s x).log) st.answered in
    let ends = one_end (node s x).card p l.far l.far_port z q l.linked.there named in
    subst (λ (a : LifeId × ℕ). Linked s x p a.0 a.1) (λ i. (ends.0 i, ends.1 i)) l.linked

pub member : (lives : List LifeId) (s : Slice) (r x : LifeId) (d : Rooted lives s r) → Reached s r x → Member lives s r x d
member lives s r _ d start = member_of lives s r r d (d.was.joined ∙ ap Some (sym (node_is s r d.was.node d.was.joined))) Reach-start
member lives s r _ d (next x z p q n h sx named) =
    let m = member lives s r x d h in
    let l = linked_back lives s r x d m p z q (subst (λ (a : Node). Names a.card p z q) (sym (node_is s x n sx)) named) in
    member_of lives s r z d (joined s z q x p l.back) (Reach-next x p z q m.reach l)

pub reached_next : (lives : List LifeId) (s : Slice) (r x : LifeId) (d : Rooted lives s r) → Reached s r x → s x ≡ Some (node s x) → (p : ℕ) (z : LifeId) (q : ℕ) → Linked s x p z q → Reached s r z
reached_next lives s r x d h sx p z q l = next x z p q (node s x) h sx l.there

pub reached : (lives : List LifeId) (s : Slice) (few : length lives ≤ 126) (run : Run lives nobody s) (reports : Content s) (r x : LifeId) → Reach (laws lives s few run reports) r x → Reached s r x
reached lives s few run reports r _ Reach-start = start
reached lives s few run reports r _ (Reach-next x p z q h l) = next x z p q (node s x) (reached lives s few run reports r x h) (joined s x p z q l.there) l.there

-- who ever had the root is reached
pub had_reached : (lives : List LifeId) (s : Slice) (r y : LifeId) (d : Rooted lives s r) (h : Log) → Earlier h (node s y).log → (position (node s y).card h).root ≡ r → Reached s r y
had_reached lives s r y d h e root =
    let k = number h (node s y).log e in
    reached lives s d.few d.run (content lives s d.few d.run) r y
    (had_root (state lives s r d) r (suc (position (node s y).card (mom s y (length h))).level) y (length h) (omega arith) k.0 (ap (λ (a : Log). (position (node s y).card a).root) k.1 ∙ root))

-- The equations between a member's position and those of its neighbours.
pub at_own : (lives : List LifeId) (s : Slice) (r : LifeId) (d : Rooted lives s r) → place s r ≡ self_root r
at_own lives s r d =
    let m = member lives s r r d start in
    own_root (node s r).card (node s r).log (m.root ∙ sym (me_is lives s d.run r)) ∙ ap self_root (me_is lives s d.run r)

-- what a neighbour offers is its present position
present_offer : (lives : List LifeId) (s : Slice) (r x : LifeId) (d : Rooted lives s r) (p : ℕ) (z : LifeId) (q : ℕ) → Linked s x p z q → Member lives s r z d
    → gives_at s z (positions_in (on_port p (mom s x (length (node s x).log)))) p ≡ given (place s z) (plain z p)
present_offer lives s r x d p z q l mz =
    let w = state lives s r d in
    let seen = offers_present w x p z q l (subst (λ (a : Log). is_stable (node s z).card a ≡ true) (sym (at_whole (node s z).log)) mz.stable) in
    ap (λ n. gives_at s z n p) (seen ∙ ap (version (node s z).card) (at_whole (node s z).log)) ∙ gives_is s z (node s z).log p (earlier_itself (node s z).log)

pub at_most_next : (lives : List LifeId) (s : Slice) (r x : LifeId) (d : Rooted lives s r) (p : ℕ) (z : LifeId) (q : ℕ) → Linked s x p z q → Member lives s r z d → IsAtMost (place s x) (given (place s z) (plain z p))
at_most_next lives s r x d p z q l mz =
    let w = state lives s r d in
    let full : length (node s x).log ≤ length (node s x).log = omega arith in
    let seen = offers_present w x p z q l (subst (λ (a : Log). is_stable (node s z).card a ≡ true) (sym (at_whole (node s z).log)) mz.stable) in
    let first = version_least (node s z).card (mom s z (length (node s z).log)) in
    let low = w.uncut x p z q (length (node s x).log) l full (subst (λ n. 1 ≤ n) (sym seen) first) in
    subst (λ (a : Log). IsAtMost (position (node s x).card a) (given (place s z) (plain z p))) (at_whole (node s x).log)
    (subst (IsAtMost (position (node s x).card (mom s x (length (node s x).log)))) (present_offer lives s r x d p z q l mz) low)

-- below the root the position came from a neighbour
pub record FromParent (s : Slice) (r x : LifeId) : Type 0 where
  pub port : ℕ
  pub parent : LifeId
  pub far : ℕ
  pub linked : Linked s x port parent far
  pub reached : Reached s r parent
  pub is : place s x ≡ given (place s parent) (plain parent port)

pub from_parent : (lives : List LifeId) (s : Slice) (r x : LifeId) (d : Rooted lives s r) → Reached s r x → (x ≡ r → ⊥) → FromParent s r x
from_parent lives s r x d h ne =
    let w = state lives s r d in
    let m = member lives s r x d h in
    let full : length (node s x).log ≤ length (node s x).log = omega arith in
    let whole = at_whole (node s x).log in
    let par = w.parent x (length (node s x).log) full (λ e. ne (sym e ∙ ap (λ (a : Log). (position (node s x).card a).root) whole ∙ m.root)) in
    let l = par.3 in
    let hz = next x par.1 par.0 par.2 (node s x) h m.joined l.there in
    let o = w.parent_gives x par.0 par.1 par.2 (length (node s x).log) l full par.4 in
    record {
      port = par.0;
      parent = par.1;
      far = par.2;
      linked = l;
      reached = hz;
      is = ap (position (node s x).card) (sym whole) ∙ o.1 ∙ present_offer lives s r x d par.0 par.1 par.2 l (member lives s r par.1 d hz);
    }

-- Levels are the lengths of shortest walks.
level_root : (lives : List LifeId) (s : Slice) (r : LifeId) (d : Rooted lives s r) → (place s r).level ≡ 0
level_root lives s r d = ap (λ (a : Place). a.level) (at_own lives s r d)

next_linked : (lives : List LifeId) (s : Slice) (r x : LifeId) (d : Rooted lives s r) → Member lives s r x d → (p : ℕ) (z : LifeId) → (k : IsNextTo s x p z) → Linked s x p z k.port
next_linked lives s r x d m p z k = linked_back lives s r x d m p z k.port (subst (λ (a : Node). Names a.card p z k.port) (sym (node_is s x k.node k.joined)) k.named)

pub level_next : (lives : List LifeId) (s : Slice) (r x : LifeId) (d : Rooted lives s r) (p : ℕ) (z : LifeId) (q : ℕ) → Linked s x p z q → Member lives s r x d → Member lives s r z d → (place s x).level ≤ (place s z).level + 1
level_next lives s r x d p z q l m mz = level_at_most (place s x) (given (place s z) (plain z p)) (at_most_next lives s r x d p z q l mz) (m.root ∙ sym mz.root)

pub walk_level : (lives : List LifeId) (s : Slice) (r : LifeId) (d : Rooted lives s r) (n : ℕ) (x : LifeId) → Reached s r x → WalkTo s n x r → (place s x).level ≤ n
walk_level lives s r d zero x h e = subst (λ (y : LifeId). (place s y).level ≤ 0) (sym e) (let is = level_root lives s r d in omega (arith, is))
walk_level lives s r d (suc n) x h w =
    let m = member lives s r x d h in
    let p = w.0 in
    let z = w.1 in
    let l = next_linked lives s r x d m p z w.2 in
    let hz = next x z p (w.2).port (node s x) h m.joined l.there in
    let rest = walk_level lives s r d n z hz w.3 in
    let step = level_next lives s r x d p z (w.2).port l m (member lives s r z d hz) in
    omega (arith, rest, step)

pub level_walk : (lives : List LifeId) (s : Slice) (r : LifeId) (d : Rooted lives s r) (n : ℕ) (x : LifeId) → Reached s r x → (place s x).level ≡ n → WalkTo s n x r
level_walk lives s r d zero x h e =
    ⊎_elim
    (λ (ne : x ≡ r → ⊥). let f = from_parent lives s r x d h ne in let up = ap (λ (a : Place). a.level) f.is in absurd (omega (arith, up, e)))
    (λ (is : x ≡ r). is)
    (decide_life x r)
level_walk lives s r d (suc n) x h e =
    ⊎_elim
    (λ (ne : x ≡ r → ⊥).
    let f = from_parent lives s r x d h ne in
    let m = member lives s r x d h in
    let up = ap (λ (a : Place). a.level) f.is in
    (f.port, f.parent, record { node = node s x; joined = m.joined; port = f.far; named = f.linked.there }, level_walk lives s r d n f.parent f.reached (omega (arith, up, e))))
    (λ (is : x ≡ r). let none = subst (λ (y : LifeId). (place s y).level ≡ suc n) is e in let own = level_root lives s r d in absurd (omega (arith, none, own)))
    (decide_life x r)

pub distance : (lives : List LifeId) (s : Slice) (r x : LifeId) (d : Rooted lives s r) → Reached s r x → IsDistance s x r (place s x).level
distance lives s r x d h = record { walk = level_walk lives s r d (place s x).level x h refl; least = λ m w. walk_level lives s r d m x h w }

one_distance : (lives : List LifeId) (s : Slice) (r x : LifeId) (d : Rooted lives s r) (n : ℕ) → Reached s r x → IsDistance s x r n → n ≡ (place s x).level
one_distance lives s r x d n h a =
    let b = distance lives s r x d h in
    let up = a.least (place s x).level b.walk in
    let down = b.least n a.walk in
    omega (arith, up, down)

-- of positions that agree in root and level, parent and port are compared
rest_le : (a b c e : Ordering) → a ≡ Equal → b ≡ Equal → IsTrue (is_le (ordering_then a (ordering_then b (ordering_then c e)))) → IsTrue (is_le (ordering_then c e))
rest_le a b c e x y le =
    sym (ap (λ (o : Ordering). is_le (ordering_then o (ordering_then b (ordering_then c e)))) x ∙ ap (λ (o : Ordering). is_le (ordering_then o (ordering_then c e))) y) ∙ le

first_of : (c e : Ordering) → IsTrue (is_le (ordering_then c e)) → IsTrue (is_le c)
first_of Less e le = refl
first_of Equal e le = refl
first_of Greater e le = absurd (cc)

second_of : (c e : Ordering) → c ≡ Equal → IsTrue (is_le (ordering_then c e)) → IsTrue (is_le e)
second_of c e x le = sym (ap (λ (o : Ordering). is_le (ordering_then o e)) x) ∙ le

nat_same : (a b : ℕ) → a ≡ b → nat_cmp a b ≡ Equal
nat_same a b e = grind (arith, nat_tests)

life_same : (a b : LifeId) → a ≡ b → life_cmp a b ≡ Equal
life_same a b e = subst (λ (c : LifeId). life_cmp a c ≡ Equal) e (tied_itself life_total a)

pub parent_least : (p q : Place) → p.root ≡ q.root → p.level ≡ q.level → IsAtMost p q → LifeAtMost p.parent q.parent × (p.parent ≡ q.parent → p.port ≤ q.port)
parent_least p q root level le =
    let rest = rest_le (life_cmp p.root q.root) (nat_cmp p.level q.level) (life_cmp p.parent q.parent) (nat_cmp p.port q.port) (life_same p.root q.root root) (nat_same p.level q.level level) le in (
      first_of (life_cmp p.parent q.parent) (nat_cmp p.port q.port) rest,
      λ e. nat_le p.port q.port (second_of (life_cmp p.parent q.parent) (nat_cmp p.port q.port) (life_same p.parent q.parent e) rest),
    )

pub tree_place : (lives : List LifeId) (s : Slice) (r x : LifeId) (d : Rooted lives s r) → Reached s r x → IsTreePlace s r x (place s x)
tree_place lives s r x d h = record {
  root = m.root;
  level = distance lives s r x d h;
  at_root = λ e.
      let own = ap (place s) e ∙ at_own lives s r d in
      (ap (λ (a : Place). a.parent) own, ap (λ (a : Place). a.port) own);
  parent = λ ne. nearer (from_parent lives s r x d h ne);
  least = λ o z ne k.
      let l = next_linked lives s r x d m o z k.next in
      let hz = next x z o (k.next).port (node s x) h m.joined l.there in
      let mz = member lives s r z d hz in
      let far = one_distance lives s r z d k.far hz k.distance in
      let level : (place s x).level ≡ (place s z).level + 1 = let up = k.level in omega (arith, far, up) in
      parent_least (place s x) (given (place s z) (plain z o)) (m.root ∙ sym mz.root) level (at_most_next lives s r x d o z (k.next).port l mz);
}
  where
    m : Member lives s r x d
    m = member lives s r x d h

    nearer : FromParent s r x → IsNearer s r x (place s x).level (place s x).port (place s x).parent
    nearer f =
        subst (λ (a : Place). IsNearer s r x a.level a.port a.parent) (sym f.is)
        (record {
          next = record { node = node s x; joined = m.joined; port = f.far; named = f.linked.there };
          far = (place s f.parent).level;
          distance = distance lives s r f.parent d f.reached;
          level = refl;
        })

pub root_least : (lives : List LifeId) (s : Slice) (r x : LifeId) (d : Rooted lives s r) → Reached s r x → LifeAtMost r x
root_least lives s r x d h =
    let m = member lives s r x d h in
    subst (LifeAtMost r) (me_is lives s d.run x)
    (subst (λ (a : LifeId). LifeAtMost a (node s x).card.me) m.root (root_at_most (place s x) (self_root (node s x).card.me) (at_most_self (node s x).card (node s x).log)))

-- The report of the root.
root_version : (lives : List LifeId) (s : Slice) (r : LifeId) (d : Rooted lives s r) (h : Log) → Earlier h (node s r).log → version (node s r).card h ≡ version (node s r).card (node s r).log
root_version lives s r d h e =
    let c = (node s r).card in
    let own : place s r ≡ position c [] = own_root c (node s r).log ((member lives s r r d start).root ∙ sym (me_is lives s d.run r)) ∙ sym (position_none c) in
    let now : version c (node s r).log ≡ 1 = (only_improves lives s d.few d.run).once r (node s r) (node s r).log [] (member lives s r r d start).joined (earlier_itself (node s r).log) (earlier_nil (node s r).log) own in
    let low = version_grows c h (node s r).log e in
    let first = version_least c h in
    omega (arith, now, low, first)

pub root_moment : (lives : List LifeId) (s : Slice) (r : LifeId) (d : Rooted lives s r) (h : Log) → Earlier h (node s r).log → (position (node s r).card h).root ≡ r
root_moment lives s r d h e =
    ap (λ (a : Place). a.root) (one_position (node s r).card (node s r).log h (node s r).log e (earlier_itself (node s r).log) (root_version lives s r d h e))
    ∙ (member lives s r r d start).root

-- the present entry of each member is in it
pub report_has : (lives : List LifeId) (s : Slice) (r : LifeId) (d : Rooted lives s r) (h : Log) → Earlier h (node s r).log → is_stable (node s r).card h ≡ true
    → (x : LifeId) → Reached s r x → In (own_entry (node s x).card (node s x).log) (report (node s r).card h)
report_has lives s r d h e st x hx =
    let w = state lives s r d in
    let k = number h (node s r).log e in
    let found = report_holds w r (length h) x (detected lives s r d) k.0
    (subst (λ (a : Log). is_stable (node s r).card a ≡ true) (sym k.1) st)
    (ap (version (node s r).card) k.1 ∙ root_version lives s r d h e ∙ ap (version (node s r).card) (sym (at_whole (node s r).log)))
    (member lives s r x d hx).reach in
    subst (λ (a : Log). In (own_entry (node s x).card (node s x).log) (report (node s r).card a)) k.1 (found (member lives s r r d start).joined)

report_rises : (c : CardOf) (h : Log) → Rises (report c h)
report_rises c h = rises_from (report c h) (report_is_report c.me (own_entry c h ∷ reported c h)).rising

-- and nothing else is
pub report_only : (lives : List LifeId) (s : Slice) (r : LifeId) (d : Rooted lives s r) (h : Log) → Earlier h (node s r).log → is_stable (node s r).card h ≡ true → (e : EntryOf) → In e (report (node s r).card h) → IsMemberEntry s r e
report_only lives s r d h e st f i =
    let was = (all_true lives s d.few d.run r (node s r) h (member lives s r r d start).joined e st).had f i in
    let y = was.life in
    let is_y : node s y ≡ was.node = node_is s y was.node was.joined in
    let root : (position was.node.card was.moment).root ≡ r = was.root ∙ root_moment lives s r d h e in
    let hy = had_reached lives s r y d was.moment (subst (λ (a : Node). Earlier was.moment a.log) (sym is_y) was.earlier) (subst (λ (a : Node). (position a.card was.moment).root ≡ r) (sym is_y) root) in
    let life : f.life ≡ (own_entry (node s y).card (node s y).log).life = ap (λ (a : EntryOf). a.life) was.is ∙ ap (λ (a : Node). a.card.me) (sym is_y) in
    record {
      life = y;
      node = node s y;
      reached = hy;
      joined = (member lives s r y d hy).joined;
      is = rising_apart f (own_entry (node s y).card (node s y).log) (report (node s r).card h) (report_rises (node s r).card h) i (report_has lives s r d h e st y hy) life;
    }

-- so all its reports are one list
pub one_report : (lives : List LifeId) (s : Slice) (r : LifeId) (d : Rooted lives s r) (h g : Log) → Earlier h (node s r).log → is_stable (node s r).card h ≡ true → Earlier g (node s r).log → is_stable (node s r).card g ≡ true → report (node s r).card h ≡ report (node s r).card g
one_report lives s r d h g eh sh eg sg =
    same_members (report (node s r).card h) (report (node s r).card g) (report_rises (node s r).card h) (report_rises (node s r).card g) (λ e i. there h g eh sh eg sg e i) (λ e i. there g h eg sg eh sh e i)
  where
    there : (h g : Log) → Earlier h (node s r).log → is_stable (node s r).card h ≡ true → Earlier g (node s r).log → is_stable (node s r).card g ≡ true → (e : EntryOf) → In e (report (node s r).card h) → In e (report (node s r).card g)
    there h g eh sh eg sg e i =
        let f = report_only lives s r d h eh sh e i in
        let is : e ≡ own_entry (node s f.life).card (node s f.life).log = f.is ∙ ap (λ (a : Node). own_entry a.card a.log) (sym (node_is s f.life f.node f.joined)) in
        subst (λ (a : EntryOf). In a (report (node s r).card g)) (sym is) (report_has lives s r d g eg sg f.life f.reached)
