-- The last moment of a root at a life, and who left it first.
use Rattle.std.proofs.Common.{◌≡◌, ℕ, zero, suc, ◌≤◌, ◌<◌, true, sym, ap, ◌∙◌, subst, ⊎_elim, arith}
use Rattle.std.proofs.lemmas.Bool.{cases_lt}
use Rattle.an_base.specs.Values.{LifeId, Place}
use Rattle.an_base.specs.Order.{life_cmp, IsBelow}
use Rattle.an_base.specs.TotalOrders.{life_total}
use Rattle.epoch_core.specs.Laws.{IsAtMost}
use Rattle.epoch_game.proofs.Nodes.{decide_life}
use Rattle.epoch_game.proofs.Orders.{LifeAtMost, le_or_lt, le_lt_trans, antisym, root_at_most, level_at_most}
use Rattle.epoch_game.proofs.EpochLaws.{EpochLaws}
use Rattle.epoch_game.proofs.HandshakeLemmas.{life_antisym, agreement, Lasting, IsLast, settled_claim}

pub last_version : (w : EpochLaws) (r x : LifeId) (g : ℕ) → IsLast w r x g → (k : ℕ) → k ≤ w.len x → (w.place x k).root ≡ r → w.version x k ≤ w.version x g
last_version w r x g last k hk e = w.version_grows x k g (last.most k hk e) last.within

none_after : (k n : ℕ) → (n < k → ⊥) → k ≤ n
none_after k n no_more = ⊎_elim (λ (lt : n < k). absurd (no_more lt)) (λ (le : k ≤ n). le) (cases_lt n k)

only_this : (k n : ℕ) → n < k → (suc n < k → ⊥) → k ≡ suc n
only_this k n low no_more = let le = none_after k (suc n) no_more in omega (arith, low, le)

-- the last moment with a root, where there is one
find_from : (w : EpochLaws) (r x : LifeId) (i n : ℕ) → n ≤ w.len x → i ≤ n → (w.place x i).root ≡ r
    → ((k : ℕ) → n < k → k ≤ w.len x → (w.place x k).root ≡ r → ⊥) → (g : ℕ) × (IsLast w r x g) × (i ≤ g)
find_from w r x i zero hn hi e none =
    (zero, record { within = hn; root = subst (λ m. (w.place x m).root ≡ r) (omega (arith, hi)) e; most = λ k hk ek. none_after k zero (λ lt. none k lt hk ek) }, hi)
find_from w r x i (suc n) hn hi e none =
    ⊎_elim
    (λ (differs : (w.place x (suc n)).root ≡ r → ⊥).
    ⊎_elim
    (λ (lt : i < suc n). find_from w r x i n (omega (arith, hn)) (omega (arith, lt)) e
    (λ k lo hk ek. none k (⊎_elim (λ (lt2 : suc n < k). lt2) (λ (le : k ≤ suc n). absurd (differs (subst (λ m. (w.place x m).root ≡ r) (omega (arith, lo, le)) ek))) (cases_lt (suc n) k)) hk ek))
    (λ (le : suc n ≤ i). absurd (differs (subst (λ m. (w.place x m).root ≡ r) (omega (arith, le, hi)) e)))
    (cases_lt i (suc n)))
    (λ (same : (w.place x (suc n)).root ≡ r).
    (suc n, record { within = hn; root = same; most = λ k hk ek. none_after k (suc n) (λ lt. none k lt hk ek) }, hi))
    (decide_life (w.place x (suc n)).root r)

pub find_last : (w : EpochLaws) (r x : LifeId) (i : ℕ) → i ≤ w.len x → (w.place x i).root ≡ r → (g : ℕ) × (IsLast w r x g) × (i ≤ g)
find_last w r x i hi e = find_from w r x i (w.len x) (omega arith) hi e (λ k lo hk ek. omega (arith, lo, hk))

-- the life from which the last version of y with root r came: its own last version with it was at a lower level, and if that was stable then so was that of y
pub record Upward (w : EpochLaws) (r y : LifeId) (j : ℕ) : Type 0 where
  pub upper : LifeId
  pub moment : ℕ
  pub port : ℕ
  pub far : ℕ
  pub link : w.Link upper port y far
  pub last : IsLast w r upper moment
  pub level : (w.place upper moment).level < (w.place y j).level
  pub stable : w.stable upper moment ≡ true → w.stable y j ≡ true

pub upward : (w : EpochLaws) (r y : LifeId) (j : ℕ) → Lasting w → (y ≡ r → ⊥) → IsLast w r y j → Upward w r y j
upward w r y j lasting ne last =
    let par = w.parent y j last.within (λ e. ne (sym e ∙ last.root)) in
    let q = par.0 in
    let x = par.1 in
    let p = par.2 in
    let l = par.3 in
    let lx = w.turn y q x p l in
    let o = w.parent_gives y q x p j l last.within par.4 in
    let f = w.version_had x (w.seen y q j) o.0 (w.seen_most y q x p j l last.within) in
    let cf : w.place y j ≡ w.gives x (w.version x f.0) q = o.1 ∙ ap (λ n. w.gives x n q) (sym f.2) in
    let rf : (w.place x f.0).root ≡ r = sym (w.gives_root x f.0 q f.1) ∙ ap (λ (a : Place). a.root) (sym cf) ∙ last.root in
    let lf : (w.place y j).level ≡ suc (w.place x f.0).level = ap (λ (a : Place). a.level) cf ∙ w.gives_level x f.0 q f.1 in
    let g = find_last w r x f.0 f.1 rf in
    let lg = g.1 in
    let low : (w.place x g.0).level ≤ (w.place x f.0).level = level_at_most (w.place x g.0) (w.place x f.0) (w.improving x f.0 g.0 g.2 lg.within) (lg.root ∙ sym rf) in
    record {
      upper = x;
      moment = g.0;
      port = p;
      far = q;
      link = lx;
      last = lg;
      level = omega (arith, low, lf);
      stable = λ s.
          let st = settled_claim w x p y q g.0 j r lx lg.within s lg.root (last_version w r x g.0 lg) last par.4 in
          let kj : st.moment ≤ j = last.most st.moment st.within (ap (λ (a : Place). a.root) (same_place st.moment st.within st.version) ∙ last.root) in
          lasting y st.moment j kj last.within st.version st.stable;
    }
  where
    same_place : (k : ℕ) → k ≤ w.len y → w.version y k ≡ w.version y j → w.place y k ≡ w.place y j
    same_place k hk e =
        let a : IsAtMost (w.place y j) (w.place y k) = w.version_later y k j hk last.within (omega (arith, e)) in
        let b : IsAtMost (w.place y k) (w.place y j) = w.version_later y j k last.within hk (omega (arith, e)) in
        antisym (w.place y k) (w.place y j) b a

pub all_stable : (w : EpochLaws) (r : LifeId) (g0 : ℕ) → Lasting w → IsLast w r r g0 → w.stable r g0 ≡ true → (n : ℕ) (y : LifeId) (j : ℕ) → (w.place y j).level < n → IsLast w r y j → w.stable y j ≡ true
all_stable w r g0 lasting last0 s0 zero y j h last = absurd (omega (arith, h))
all_stable w r g0 lasting last0 s0 (suc n) y j h last =
    ⊎_elim
    (λ (ne : y ≡ r → ⊥).
    let u = upward w r y j lasting ne last in
    let low = u.level in
    u.stable (all_stable w r g0 lasting last0 s0 n u.upper u.moment (omega (arith, low, h)) u.last))
    (λ (e : y ≡ r).
    let last' : IsLast w r r j = subst (λ m. IsLast w r m j) e last in
    let up = last0.most j last'.within last'.root in
    let down = last'.most g0 last0.within last0.root in
    let same : g0 ≡ j = omega (arith, up, down) in
    subst (λ m. w.stable m j ≡ true) (sym e) (subst (λ m. w.stable r m ≡ true) same s0))
    (decide_life y r)

-- y had root r last at moment j, and has a lesser root now
pub record IsLeaver (w : EpochLaws) (r y : LifeId) (j : ℕ) : Type 0 where
  pub last : IsLast w r y j
  pub left : IsBelow (w.place y (w.len y)).root r

-- who brings a lesser root to a life that was stable had left before
pub neighbour_left : (w : EpochLaws) (x : LifeId) (p : ℕ) (z : LifeId) (q j : ℕ) (r : LifeId) → w.Link x p z q → w.stable x (w.len x) ≡ true → (w.place x (w.len x)).root ≡ r
    → j ≤ w.len z → IsBelow (w.place z j).root r → (g : ℕ) × IsLeaver w r z g
neighbour_left w x p z q j r l s hr hj less =
    let ag = agreement w x p z q (w.len x) l (omega arith) s in
    let g = find_last w r z ag.moment ag.within (ag.root ∙ hr) in
    let down : LifeAtMost (w.place z (w.len z)).root (w.place z j).root = root_at_most (w.place z (w.len z)) (w.place z j) (w.improving z j (w.len z) hj (omega arith)) in
    (g.0, record { last = g.1; left = le_lt_trans life_cmp life_total (w.place z (w.len z)).root (w.place z j).root r down less })

-- if some life left root r, then some leaver was not stable when it had r last
pub record Witness (w : EpochLaws) (r : LifeId) : Type 0 where
  pub life : LifeId
  pub moment : ℕ
  pub leaver : IsLeaver w r life moment
  pub unstable : w.stable life moment ≡ true → ⊥

abbrev pub NeverStable : EpochLaws → LifeId → Type 0
NeverStable w r = (y : LifeId) (j : ℕ) → IsLeaver w r y j → Witness w r

pub nobody_leaves : (w : EpochLaws) (r : LifeId) (g0 : ℕ) → Lasting w → NeverStable w r → IsLast w r r g0 → w.stable r g0 ≡ true
    → (y : LifeId) (i : ℕ) → i ≤ w.len y → (w.place y i).root ≡ r → (IsLast w r y (w.len y)) × (w.stable y (w.len y) ≡ true)
nobody_leaves w r g0 lasting never last0 s0 y i hi e =
    let full : w.len y ≤ w.len y = omega arith in
    let down : LifeAtMost (w.place y (w.len y)).root r = subst (LifeAtMost (w.place y (w.len y)).root) e (root_at_most (w.place y (w.len y)) (w.place y i) (w.improving y i (w.len y) hi full)) in
    let g = find_last w r y i hi e in
    ⊎_elim
    (λ (ge : LifeAtMost r (w.place y (w.len y)).root).
    let last : IsLast w r y (w.len y) = record { within = full; root = life_antisym (w.place y (w.len y)).root r down ge; most = λ k hk ek. hk } in
    (last, all_stable w r g0 lasting last0 s0 (suc (w.place y (w.len y)).level) y (w.len y) (omega arith) last))
    (λ (lt : IsBelow (w.place y (w.len y)).root r).
    let b = never y g.0 (record { last = g.1; left = lt }) in
    absurd (b.unstable (all_stable w r g0 lasting last0 s0 (suc (w.place b.life b.moment).level) b.life b.moment (omega arith) b.leaver.last)))
    (le_or_lt life_cmp life_total r (w.place y (w.len y)).root)
