use Rattle.std.proofs.Common.{◌≡◌, ◌∙◌, ◌⊎◌, inl, inr, sym, ap, refl, subst, ⊎_elim, ℕ, suc, ◌≤◌, List, [], ◌∷◌, length, get_or, Option, Some, None, Bool, true, false, true≢false, cond, arith}
use Rattle.std.specs.Prelude.{◌==◌, ◌≢◌, not, AllPairs}
use Rattle.std.proofs.lemmas.Bool.Decides.{nat_tests}
use Rattle.std.proofs.lemmas.List.Elements.{Contains-get_or}
use Rattle.std.proofs.lemmas.List.Kept.{AllPairs-cons}
use Rattle.an_base.specs.Values.{LifeId, EndId, Place, PeerAt, PosOf}
use Rattle.an_base.specs.declared.body.Body.{Body}
use Rattle.an_base.specs.declared.body.Body.TheVariants.{Pos, Answer, Stable, Topo}
use Rattle.tree_position.specs.Position.{self_root, lesser}
use Rattle.topo_report.proofs.Members.{In, in_from}
use Rattle.topo_report.proofs.DistinctLemmas.{AreApart, length-le_from_apart}
use Rattle.epoch_core.specs.Log.{CardOf, OnPort, Log, on_port, last_pos}
use Rattle.epoch_core.specs.Epoch.{version, position, is_same, sent}
use Rattle.epoch_core.specs.Laws.{IsAtMost}
use Rattle.epoch_core.proofs.LessLemmas.{at_most_itself, at_most_trans}
use Rattle.epoch_core.proofs.EpochLemmas.{IsQuiet, position-quiet, is_same-itself}
use Rattle.epoch_game.specs.Slice.{Earlier, Node, Slice, nobody, with_node, link_at, Names, IsCardOf, Run, none, joins, accepts}
use Rattle.epoch_game.specs.Streams.{told_on, Shows}
use Rattle.epoch_game.specs.Improving.{Had, behind_link, OnlyImproves}
use Rattle.epoch_game.proofs.Basics.{number_itself, some_same, none_some}
use Rattle.epoch_game.proofs.Lists.{earlier_itself, earlier_trans, earlier_total}
use Rattle.epoch_game.proofs.ViewLemmas.{HasLink, shown}
use Rattle.epoch_game.proofs.Moments.{version_cases, version_grows, one_position}
use Rattle.epoch_game.proofs.Nodes.{decide_life, node_here, node_else, node_cases, link_found, rises, has_link}
use Rattle.epoch_game.proofs.StreamLemmas.{nodes}
use Rattle.epoch_game.proofs.Orders.{Before, same_at_most, antisym, at_most_before, not_both, lesser_cases, lesser_first, lesser_second, given, given_at_most, before_given}
use Rattle.epoch_game.proofs.OfferLemmas.{behind, step, one_port}
use Rattle.std.proofs.lemmas.Bool.{eqb-true}
use Rattle.epoch_core.proofs.JoinLemmas.{position_none}

-- the least of all that was ever offered, whatever its level
abbrev pub best_with : Body → Option EndId → ℕ → Place → Place
best_with (Pos b) (Some e) p rest = lesser (behind (record { port = p; peer = e }) b) rest
best_with (Pos b) None p rest = rest
best_with (Answer b) e p rest = rest
best_with (Stable es) e p rest = rest
best_with (Topo t) e p rest = rest

abbrev pub best : CardOf → Log → Place
best c [] = self_root c.me
best c (x ∷ l) = best_with x.body (link_at x.port c.links) x.port (best c l)

best_with_less : (b : Body) (e : Option EndId) (p : ℕ) (rest : Place) → IsAtMost (best_with b e p rest) rest
best_with_less (Pos b) (Some e) p rest = lesser_second (behind (record { port = p; peer = e }) b) rest
best_with_less (Pos b) None p rest = at_most_itself rest
best_with_less (Answer b) e p rest = at_most_itself rest
best_with_less (Stable es) e p rest = at_most_itself rest
best_with_less (Topo t) e p rest = at_most_itself rest

pub best_less : (c : CardOf) (h l : Log) → Earlier h l → IsAtMost (best c l) (best c h)
best_less c h [] e = same_at_most (best c []) (best c h) (ap (best c) (sym e))
best_less c h (x ∷ l) (inl e) = same_at_most (best c (x ∷ l)) (best c h) (ap (best c) (sym e))
best_less c h (x ∷ l) (inr e) = at_most_trans (best c (x ∷ l)) (best c l) (best c h) (best_with_less x.body (link_at x.port c.links) x.port (best c l)) (best_less c h l e)

-- the invariant: the position is the least of all that was ever offered, and one life more than its level says shares its root
abbrev pub Least : Slice → Type 0
Least s = (x : LifeId) (n : Node) → s x ≡ Some n → (h : Log) → Earlier h n.log → position n.card h ≡ best n.card h

pub record Counted (s : Slice) (p : Place) : Type 0 where
  pub lives : List LifeId
  pub apart : AreApart lives
  pub count : length lives ≡ suc p.level
  pub had : (y : LifeId) → In y lives → Had s p.root p.level y

abbrev pub Count : Slice → Type 0
Count s = (x : LifeId) (n : Node) → s x ≡ Some n → (h : Log) → Earlier h n.log → Counted s (position n.card h)

-- what a position that comes next was: one of the peer's, and those before it were earlier ones
pub record NextPos (d : CardOf) (q : ℕ) (k : Log) (r : List Body) (b : PosOf) : Type 0 where
  pub moment : Log
  pub earlier : Earlier moment k
  pub is : b ≡ told_on (version d moment) (position d moment) q
  pub older : (b0 : PosOf) → last_pos r ≡ Some b0 → (j0 : Log) × (Earlier j0 moment) × (b0 ≡ told_on (version d j0) (position d j0) q)

tail_earlier : (b : Body) (r s : List Body) → Earlier (b ∷ r) s → Earlier r s
tail_earlier b r [] e = absurd (cc)
tail_earlier b r (x ∷ s) (inl e) = inr (subst (λ (i : List Body). Earlier r i) (tails e) (earlier_itself r))
  where
    tails : b ∷ r ≡ x ∷ s → r ≡ s
    tails e = cc
tail_earlier b r (x ∷ s) (inr e) = inr (tail_earlier b r s e)

pub next_pos : (d : CardOf) (q : ℕ) (k : Log) (r : List Body) (b : PosOf) → HasLink d q → Earlier (Pos b ∷ r) (sent d q k) → NextPos d q k r b
next_pos d q k r b link e = by (shown d q link k (Pos b ∷ r) e) (shown d q link k r (tail_earlier (Pos b) r (sent d q k) e))
  where
    empty : {A : Type 0} → Pos b ∷ r ≡ [] → A
    empty z = absurd (cc)

    before : (w : (h : Log) × (Earlier h k) × (Shows d q h (Pos b ∷ r))) → (r ≡ []) ⊎ ((h : Log) × (Earlier h k) × (Shows d q h r)) → (b0 : PosOf) → last_pos r ≡ Some b0 → (j0 : Log) × (Earlier j0 w.0) × (b0 ≡ told_on (version d j0) (position d j0) q)
    before w (inl z) b0 e0 = absurd (none_some (sym (ap last_pos z) ∙ e0))
    before w (inr y) b0 e0 =
        let now = w.2.count in
        let was = y.2.count in (
          y.0,
          ⊎_elim (λ (a : Earlier y.0 w.0). a) (λ (a : Earlier w.0 y.0). let low = version_grows d w.0 y.0 a in absurd (omega (arith, now, was, low))) (earlier_total y.0 w.0 k y.1 w.1),
          some_same b0 (told_on (version d y.0) (position d y.0) q) (sym e0 ∙ y.2.place),
        )

    by : (Pos b ∷ r ≡ []) ⊎ ((h : Log) × (Earlier h k) × (Shows d q h (Pos b ∷ r))) → (r ≡ []) ⊎ ((h : Log) × (Earlier h k) × (Shows d q h r)) → NextPos d q k r b
    by (inl z) old = empty z
    by (inr w) old = record { moment = w.0; earlier = w.1; is = some_same b (told_on (version d w.0) (position d w.0) q) w.2.place; older = before w old }

-- the lives that share a new position of x, but for x
record Others (t : Slice) (x : LifeId) (p : Place) : Type 0 where
  lives : List LifeId
  apart : AreApart lives
  absent : In x lives → ⊥
  count : suc (length lives) ≡ suc p.level
  had : (y : LifeId) → In y lives → Had t p.root p.level y

record Moved (t : Slice) (x : LifeId) (c : CardOf) (l l' : Log) : Type 0 where
  least : position c l' ≡ best c l'
  shared : (position c l' ≡ position c l) ⊎ Others t x (position c l')

in_life : (x : LifeId) (ys : List LifeId) → (In x ys → ⊥) ⊎ In x ys
in_life x [] = inl (λ i. i)
in_life x (y ∷ ys) =
    ⊎_elim
    (λ (absent : In x ys → ⊥). ⊎_elim (λ (ne : x ≡ y → ⊥). inl (λ i. ⊎_elim ne absent i)) (λ (e : x ≡ y). inr (inl e)) (decide_life x y))
    (λ (i : In x ys). inr (inr i))
    (in_life x ys)

eqb_turned : (a b : ℕ) → (a == b) ≡ false → (b == a) ≡ false
eqb_turned a b e = grind (arith, nat_tests)

-- a body that is no position changes nothing
unmoved : (t : Slice) (x : LifeId) (c : CardOf) (l : Log) (y : OnPort) → IsQuiet y.body → best c (y ∷ l) ≡ best c l → position c l ≡ best c l → Moved t x c l (y ∷ l)
unmoved t x c l y quiet same old =
    let still = position-quiet c y l quiet in
    record { least = still ∙ old ∙ sym same; shared = inl still }

moved_pos : (lives : List LifeId) (t : Slice) (x z : LifeId) (p q : ℕ) (n m : Node) (b : PosOf) → length lives ≤ 126 → Run lives nobody t
    → t x ≡ Some n → t z ≡ Some m → Names n.card p z q → Names m.card q x p → Earlier (Pos b ∷ on_port p n.log) (sent m.card q m.log)
    → Least t → Count t → Moved t x n.card n.log (record { port = p; body = Pos b } ∷ n.log)
moved_pos lives t x z p q n m b few run sx sz lx lz next least count = record { least = is_best; shared = counted }
  where
    k0 : PeerAt
    k0 = record { port = p; peer = record { life = z; port = q } }

    log : Log
    log = record { port = p; body = Pos b } ∷ n.log

    before : Place
    before = position n.card n.log

    card : IsCardOf x n.card
    card = (nodes lives t run x n sx).0

    in_links : In k0 n.card.links
    in_links =
        let f = link_found p n.card.links k0.peer lx in
        subst (λ (k : PeerAt). In k n.card.links) (λ i. record { port = f.port i; peer = f.peer i }) f.in_links

    fr : NextPos m.card q m.log (on_port p n.log) b
    fr = next_pos m.card q m.log (on_port p n.log) b (has_link z m.card q x p (nodes lives t run z m sz).0 lz) next

    others_by : (k : PeerAt) (g : Bool) → (p == k.port) ≡ g → In k n.card.links → (k ≡ k0) ⊎ (last_pos (cond g (Pos b ∷ on_port k.port n.log) (on_port k.port n.log)) ≡ last_pos (on_port k.port n.log))
    others_by k true e i = inl (one_port 0 n.card.links k k0 (rises x n.card card) i in_links (sym (eqb-true p k.port e)))
    others_by k false e i = inr refl

    now : last_pos (on_port p log) ≡ Some b
    now = ap (λ (g : Bool). last_pos (cond g (Pos b ∷ on_port p n.log) (on_port p n.log))) (number_itself p)

    gives : behind k0 b ≡ given (position m.card fr.moment) k0
    gives = ap (behind k0) fr.is

    older : (b0 : PosOf) → last_pos (on_port p n.log) ≡ Some b0 → IsAtMost (behind k0 b) (behind k0 b0)
    older b0 h =
        let w = fr.older b0 h in
        let at : IsAtMost (position m.card fr.moment) (position m.card w.0) =
        subst (λ (d : Place). IsAtMost d (position m.card w.0)) (sym (least z m sz fr.moment fr.earlier))
        (subst (IsAtMost (best m.card fr.moment)) (sym (least z m sz w.0 (earlier_trans w.0 fr.moment m.log w.1 fr.earlier))) (best_less m.card w.0 fr.moment w.1)) in
        subst (λ (d : Place). IsAtMost d (behind k0 b0)) (sym gives)
        (subst (IsAtMost (given (position m.card fr.moment) k0)) (sym (ap (behind k0) w.2)) (given_at_most (position m.card fr.moment) (position m.card w.0) k0 at))

    counts : Counted t (position m.card fr.moment)
    counts = count z m sz fr.moment fr.earlier

    had_before : Had t (position m.card fr.moment).root (position m.card fr.moment).level x → Before before (behind k0 b)
    had_before h =
        let same : h.node ≡ n = some_same h.node n (sym h.joined ∙ sx) in
        let inside : Earlier h.moment n.log = subst (λ (i : Node). Earlier h.moment i.log) same h.earlier in
        let root : (position n.card h.moment).root ≡ (position m.card fr.moment).root = subst (λ (i : Node). (position i.card h.moment).root ≡ (position m.card fr.moment).root) same h.root in
        let level : (position n.card h.moment).level ≤ (position m.card fr.moment).level = subst (λ (i : Node). (position i.card h.moment).level ≤ (position m.card fr.moment).level) same h.level in
        let low : IsAtMost before (position n.card h.moment) =
        subst (λ (d : Place). IsAtMost d (position n.card h.moment)) (sym (least x n sx n.log (earlier_itself n.log)))
        (subst (IsAtMost (best n.card n.log)) (sym (least x n sx h.moment inside)) (best_less n.card h.moment n.log inside)) in
        at_most_before before (position n.card h.moment) (behind k0 b) low
        (subst (Before (position n.card h.moment)) (sym gives) (before_given (position n.card h.moment) (position m.card fr.moment) k0 root level))

    all_known : (y : LifeId) → In y (x ∷ counts.lives) → In y lives
    all_known y (inl e) = subst (λ (i : LifeId). In i lives) (sym e) (in_from x lives (nodes lives t run x n sx).1)
    all_known y (inr i) = let h = counts.had y i in in_from y lives (nodes lives t run y h.node h.joined).1

    cut : 125 ≤ b.level → Before before (behind k0 b)
    cut ge =
        ⊎_elim
        (λ (absent : In x counts.lives → ⊥).
        let many = length-le_from_apart (x ∷ counts.lives) lives (absent, counts.apart) all_known in
        let level : b.level ≡ (position m.card fr.moment).level = ap (λ (i : PosOf). i.level) fr.is in
        let size = counts.count in
        absurd (omega (arith, many, size, level, ge, few)))
        (λ (i : In x counts.lives). had_before (counts.had x i))
        (in_life x counts.lives)

    stepped : position n.card log ≡ lesser (behind k0 b) before
    stepped = step n.card n.log log k0 b in_links (λ k i. others_by k (p == k.port) refl i) now older cut

    is_best : position n.card log ≡ best n.card log
    is_best = stepped ∙ ap (lesser (behind k0 b)) (least x n sx n.log (earlier_itself n.log)) ∙ ap (λ (i : Option EndId). best_with (Pos b) i p (best n.card n.log)) (sym lx)

    counted : (position n.card log ≡ before) ⊎ Others t x (position n.card log)
    counted =
        ⊎_elim
        (λ (w : (IsAtMost (behind k0 b) before) × (lesser (behind k0 b) before ≡ behind k0 b)).
        let is : position n.card log ≡ given (position m.card fr.moment) k0 = stepped ∙ w.1 ∙ gives in
        inr (subst (Others t x) (sym is) (record {
          lives = counts.lives;
          apart = counts.apart;
          absent = λ i. not_both before (behind k0 b) (had_before (counts.had x i)) w.0;
          count = let size = counts.count in omega (arith, size);
          had = λ y i. let g = counts.had y i in let low = g.level in record { node = g.node; joined = g.joined; moment = g.moment; earlier = g.earlier; root = g.root; level = omega (arith, low) };
        })))
        (λ (w : (Before before (behind k0 b)) × (lesser (behind k0 b) before ≡ before)). inl (stepped ∙ w.1))
        (lesser_cases (behind k0 b) before)

moved : (lives : List LifeId) (t : Slice) (x z : LifeId) (p q : ℕ) (n m : Node) (b : Body) → length lives ≤ 126 → Run lives nobody t
    → t x ≡ Some n → t z ≡ Some m → Names n.card p z q → Names m.card q x p → Earlier (b ∷ on_port p n.log) (sent m.card q m.log)
    → Least t → Count t → Moved t x n.card n.log (record { port = p; body = b } ∷ n.log)
moved lives t x z p q n m (Pos b) few run sx sz lx lz next least count = moved_pos lives t x z p q n m b few run sx sz lx lz next least count
moved lives t x z p q n m (Answer b) few run sx sz lx lz next least count =
    unmoved t x n.card n.log (record { port = p; body = Answer b }) (record { quiet = λ bs. refl }) refl (least x n sx n.log (earlier_itself n.log))
moved lives t x z p q n m (Stable es) few run sx sz lx lz next least count =
    unmoved t x n.card n.log (record { port = p; body = Stable es }) (record { quiet = λ bs. refl }) refl (least x n sx n.log (earlier_itself n.log))
moved lives t x z p q n m (Topo u) few run sx sz lx lz next least count =
    unmoved t x n.card n.log (record { port = p; body = Topo u }) (record { quiet = λ bs. refl }) refl (least x n sx n.log (earlier_itself n.log))

-- a life keeps what it had
abbrev Grows : Slice → Slice → Type 0
Grows t s = (y : LifeId) (k : Node) → t y ≡ Some k → (k' : Node) × (s y ≡ Some k') × (k'.card ≡ k.card) × (Earlier k.log k'.log)

had_grows : (t s : Slice) (r : LifeId) (most : ℕ) (y : LifeId) → Grows t s → Had t r most y → Had s r most y
had_grows t s r most y g h =
    let w = g y h.node h.joined in
    record {
      node = w.0;
      joined = w.1;
      moment = h.moment;
      earlier = earlier_trans h.moment h.node.log w.0.log h.earlier w.3;
      root = subst (λ (c : CardOf). (position c h.moment).root ≡ r) (sym w.2) h.root;
      level = subst (λ (c : CardOf). (position c h.moment).level ≤ most) (sym w.2) h.level;
    }

counted_grows : (t s : Slice) (p : Place) → Grows t s → Counted t p → Counted s p
counted_grows t s p g h = record { lives = h.lives; apart = h.apart; count = h.count; had = λ y i. had_grows t s p.root p.level y g (h.had y i) }

abbrev pub Improving : Slice → Type 0
Improving s = (Least s) × (Count s)

kept_join : (lives : List LifeId) (t : Slice) (x : LifeId) (c : CardOf) → Improving t → t x ≡ None → IsCardOf x c → Improving (with_node t x (record { card = c; log = [] }))
kept_join lives t x c old free card = (least, count)
  where
    new : Node
    new = record { card = c; log = [] }

    grows : Grows t (with_node t x new)
    grows y k e = (k, node_else t x y new (λ w. none_some (sym free ∙ ap t w ∙ e)) ∙ e, refl, earlier_itself k.log)

    start : (h : Log) → h ≡ [] → position c h ≡ self_root c.me
    start h e = ap (position c) e ∙ position_none c

    least : Least (with_node t x new)
    least y n e h i =
        ⊎_elim
        (λ (w : (x ≡ y) × (new ≡ n)). subst (λ (k : Node). Earlier h k.log → position k.card h ≡ best k.card h) w.1 (λ d. start h d ∙ ap (best c) (sym d)) i)
        (λ (w : (x ≡ y → ⊥) × (t y ≡ Some n)). old.0 y n w.1 h i)
        (node_cases t x y new n e)

    alone : Counted (with_node t x new) (self_root c.me)
    alone = record {
      lives = x ∷ [];
      apart = ((λ a. a), tt);
      count = refl;
      had = λ y i. ⊎_elim
          (λ (k : y ≡ x). subst (Had (with_node t x new) c.me 0) (sym k)
          (record { node = new; joined = node_here t x new; moment = []; earlier = refl; root = ap (λ (p : Place). p.root) (position_none c); level = subst (λ (p : Place). p.level ≤ 0) (sym (position_none c)) (omega arith) }))
          (λ (k : ⊥). absurd k) i;
    }

    count : Count (with_node t x new)
    count y n e h i =
        ⊎_elim
        (λ (w : (x ≡ y) × (new ≡ n)). subst (λ (k : Node). Earlier h k.log → Counted (with_node t x new) (position k.card h)) w.1 (λ d. subst (Counted (with_node t x new)) (sym (start h d)) alone) i)
        (λ (w : (x ≡ y → ⊥) × (t y ≡ Some n)). counted_grows t (with_node t x new) (position n.card h) grows (old.1 y n w.1 h i))
        (node_cases t x y new n e)

kept_accept : (t : Slice) (x : LifeId) (n : Node) (y0 : OnPort) → Improving t → t x ≡ Some n → Moved t x n.card n.log (y0 ∷ n.log) → Improving (with_node t x (record { card = n.card; log = y0 ∷ n.log }))
kept_accept t x n y0 old sx mv = (least, count)
  where
    log : Log
    log = y0 ∷ n.log

    new : Node
    new = record { card = n.card; log = log }

    grows : Grows t (with_node t x new)
    grows y k e =
        ⊎_elim
        (λ (ne : x ≡ y → ⊥). (k, node_else t x y new ne ∙ e, refl, earlier_itself k.log))
        (λ (w : x ≡ y).
        let same : n ≡ k = some_same n k (sym sx ∙ ap t w ∙ e) in
        (new, subst (λ (i : LifeId). with_node t x new i ≡ Some new) w (node_here t x new), ap (λ (i : Node). i.card) same, subst (λ (i : Node). Earlier i.log log) same (inr (earlier_itself n.log))))
        (decide_life x y)

    least : Least (with_node t x new)
    least y k e h i =
        ⊎_elim
        (λ (w : (x ≡ y) × (new ≡ k)).
        subst (λ (a : Node). Earlier h a.log → position a.card h ≡ best a.card h) w.1
        (λ d. ⊎_elim (λ (f : h ≡ log). ap (position n.card) f ∙ mv.least ∙ ap (best n.card) (sym f)) (λ (f : Earlier h n.log). old.0 x n sx h f) d) i)
        (λ (w : (x ≡ y → ⊥) × (t y ≡ Some k)). old.0 y k w.1 h i)
        (node_cases t x y new k e)

    count_new : Counted (with_node t x new) (position n.card log)
    count_new =
        ⊎_elim
        (λ (f : position n.card log ≡ position n.card n.log).
        subst (Counted (with_node t x new)) (sym f) (counted_grows t (with_node t x new) (position n.card n.log) grows (old.1 x n sx n.log (earlier_itself n.log))))
        (λ (f : Others t x (position n.card log)). record {
          lives = x ∷ f.lives;
          apart = (f.absent, f.apart);
          count = f.count;
          had = λ a d.
              ⊎_elim
              (λ (k : a ≡ x). subst (Had (with_node t x new) (position n.card log).root (position n.card log).level) (sym k)
              (record { node = new; joined = node_here t x new; moment = log; earlier = earlier_itself log; root = refl; level = omega arith }))
              (λ (k : In a f.lives). had_grows t (with_node t x new) (position n.card log).root (position n.card log).level a grows (f.had a k))
              d;
        })
        mv.shared

    count : Count (with_node t x new)
    count y k e h i =
        ⊎_elim
        (λ (w : (x ≡ y) × (new ≡ k)).
        subst (λ (a : Node). Earlier h a.log → Counted (with_node t x new) (position a.card h)) w.1
        (λ d. ⊎_elim (λ (f : h ≡ log). subst (λ (g : Log). Counted (with_node t x new) (position n.card g)) (sym f) count_new)
        (λ (f : Earlier h n.log). counted_grows t (with_node t x new) (position n.card h) grows (old.1 x n sx h f)) d) i)
        (λ (w : (x ≡ y → ⊥) × (t y ≡ Some k)). counted_grows t (with_node t x new) (position k.card h) grows (old.1 y k w.1 h i))
        (node_cases t x y new k e)

pub improving : (lives : List LifeId) (s : Slice) → length lives ≤ 126 → Run lives nobody s → Improving s
improving lives _ few none = ((λ x n e. absurd (none_some e)), (λ x n e. absurd (none_some e)))
improving lives _ few (joins t x c run free known ok) = kept_join lives t x c (improving lives t few run) free ok
improving lives _ few (accepts t x z p q n m b run sx sz lx lz next) =
    let old = improving lives t few run in
    kept_accept t x n (record { port = p; body = b }) old sx (moved lives t x z p q n m b few run sx sz lx lz next old.0 old.1)

-- what follows for one life
improves : (s : Slice) (x : LifeId) (n : Node) (h g : Log) → Least s → s x ≡ Some n → Earlier h g → Earlier g n.log → IsAtMost (position n.card g) (position n.card h)
improves s x n h g least sx a b =
    subst (λ (p : Place). IsAtMost p (position n.card h)) (sym (least x n sx g b))
    (subst (IsAtMost (best n.card g)) (sym (least x n sx h (earlier_trans h g n.log a b))) (best_less n.card h g a))

-- along a list whose positions only get less, equal positions are of one version
once_along : (c : CardOf) (l : Log) → ((h k : Log) → Earlier h k → Earlier k l → IsAtMost (position c k) (position c h)) → (h : Log) → Earlier h l → position c h ≡ position c l → version c h ≡ version c l
once_along c [] imp h e p = ap (version c) e
once_along c (x ∷ l) imp h (inl e) p = ap (version c) e
once_along c (x ∷ l) imp h (inr e) p =
    let up : IsAtMost (position c (x ∷ l)) (position c l) = imp l (x ∷ l) (inr (earlier_itself l)) (inl refl) in
    let down : IsAtMost (position c l) (position c h) = imp h l e (inr (earlier_itself l)) in
    let is : position c l ≡ position c (x ∷ l) = antisym (position c l) (position c (x ∷ l)) (subst (IsAtMost (position c l)) p down) up in
    let old = once_along c l (λ i k a b. imp i k a (inr b)) h e (p ∙ sym is) in
    ⊎_elim
    (λ w. old ∙ sym w.1)
    (λ w. absurd (true≢false (sym w.0 ∙ ap not_same is ∙ not_moved)))
    (version_cases c x l)
  where
    not_same : Place → Bool
    not_same q = not (is_same (position c (x ∷ l)) q)

    not_moved : not_same (position c (x ∷ l)) ≡ false
    not_moved = ap not (is_same-itself (position c (x ∷ l)))

once_either : (s : Slice) (x : LifeId) (n : Node) (h g : Log) → Least s → s x ≡ Some n → Earlier h g → Earlier g n.log → position n.card h ≡ position n.card g → version n.card h ≡ version n.card g
once_either s x n h g least sx a b e = once_along n.card g (λ i k u v. improves s x n i k least sx u (earlier_trans k g n.log v b)) h a e

best_offered : (c : CardOf) (l : Log) (p : ℕ) (e : EndId) (b : PosOf) → link_at p c.links ≡ Some e → last_pos (on_port p l) ≡ Some b → IsAtMost (best c l) (behind (record { port = p; peer = e }) b)
best_offered c [] p e b at last = absurd (none_some last)
best_offered c (x ∷ l) p e b at last = by_port (x.port == p) refl last (λ older. best_offered c l p e b at older)
  where
    k0 : PeerAt
    k0 = record { port = p; peer = e }

    by_body : (y : Body) (f : Option EndId) (n : ℕ) → f ≡ Some e → n ≡ p → last_pos (y ∷ on_port p l) ≡ Some b → (last_pos (on_port p l) ≡ Some b → IsAtMost (best c l) (behind k0 b)) → IsAtMost (best_with y f n (best c l)) (behind k0 b)
    by_body (Pos d) f n at_f is_n lp old =
        let is : d ≡ b = some_same d b lp in
        subst (λ (v : Option EndId × ℕ). IsAtMost (best_with (Pos d) v.0 v.1 (best c l)) (behind k0 b)) (λ i. (sym at_f i, sym is_n i))
        (subst (λ (v : PosOf). IsAtMost (lesser (behind k0 d) (best c l)) (behind k0 v)) is (lesser_first (behind k0 d) (best c l)))
    by_body (Answer d) f n at_f is_n lp old = old lp
    by_body (Stable es) f n at_f is_n lp old = old lp
    by_body (Topo t) f n at_f is_n lp old = old lp

    by_port : (g : Bool) → (x.port == p) ≡ g → last_pos (cond g (x.body ∷ on_port p l) (on_port p l)) ≡ Some b → (last_pos (on_port p l) ≡ Some b → IsAtMost (best c l) (behind k0 b)) → IsAtMost (best c (x ∷ l)) (behind k0 b)
    by_port true g lp old = by_body x.body (link_at x.port c.links) x.port (ap (λ (i : ℕ). link_at i c.links) (eqb-true x.port p g) ∙ at) (eqb-true x.port p g) lp old
    by_port false g lp old = at_most_trans (best c (x ∷ l)) (best c l) (behind k0 b) (best_less c l (x ∷ l) (inr (earlier_itself l))) (old lp)

apart_pairs : (xs : List LifeId) → AreApart xs → AllPairs (λ a b. a ≢ b) xs
apart_pairs [] apart = λ i j d below within. absurd (omega arith)
apart_pairs (x ∷ xs) apart =
    AllPairs-cons (λ a b. a ≢ b) x xs (λ k d low. λ e. apart.0 (subst (λ (i : LifeId). In i xs) (sym e) (in_from (get_or xs k d) xs (Contains-get_or xs k d low)))) (apart_pairs xs apart.1)

pub only_improves : (lives : List LifeId) (s : Slice) → length lives ≤ 126 → Run lives nobody s → OnlyImproves s
only_improves lives s few run = record {
  improving = λ x n h g sx a b. improves s x n h g inv.0 sx a b;
  uncut = λ x n h p z q told sx a at last.
      subst (λ (d : Place). IsAtMost d (behind_link told z p)) (sym (inv.0 x n sx h a)) (best_offered n.card h p (record { life = z; port = q }) told at last);
  later = λ x n h g sx a b v.
      ⊎_elim (λ (e : Earlier h g). improves s x n h g inv.0 sx e b)
      (λ (e : Earlier g h).
      let low = version_grows n.card g h e in
      same_at_most (position n.card g) (position n.card h) (one_position n.card n.log g h b a (omega (arith, low, v))))
      (earlier_total h g n.log a b);
  once = λ x n h g sx a b e.
      ⊎_elim (λ (u : Earlier h g). once_either s x n h g inv.0 sx u b e) (λ (u : Earlier g h). sym (once_either s x n g h inv.0 sx u a (sym e))) (earlier_total h g n.log a b);
  shared = λ x n h sx a. let w = inv.1 x n sx h a in record { lives = w.lives; apart = apart_pairs w.lives w.apart; count = w.count; had = λ y i. w.had y (in_from y w.lives i) };
}
  where
    inv : Improving s
    inv = improving lives s few run
