use Rattle.std.proofs.Common.{◌≡◌, ℕ, zero, suc, ◌≤◌, ◌<◌, true, refl, sym, ap, ◌∙◌, subst, ⊎_elim, arith}
use Rattle.an_base.specs.Values.{LifeId, Place}
use Rattle.epoch_game.proofs.Nodes.{decide_life}
use Rattle.epoch_game.proofs.Orders.{LifeAtMost, root_at_most}
use Rattle.epoch_game.proofs.EpochLaws.{EpochLaws}
use Rattle.epoch_game.proofs.HandshakeLemmas.{life_antisym, agreement, Lasting, IsLast, settled_claim}
use Rattle.epoch_game.proofs.LeaverLemmas.{NeverStable, nobody_leaves}

-- links lead from r to y
pub data Reach (w : EpochLaws) (r : LifeId) : LifeId → Type 1 where
  start : Reach w r r
  next : (x : LifeId) (p : ℕ) (z : LifeId) (q : ℕ) → Reach w r x → w.Link x p z q → Reach w r z

-- r was stable as its own root, and what follows for all
pub record Detected (w : EpochLaws) (r : LifeId) : Type 1 where
  pub moment : ℕ
  pub never : NeverStable w r
  pub last : IsLast w r r moment
  pub stable : w.stable r moment ≡ true
  pub lasting : Lasting w

pub record IsMember (w : EpochLaws) (r y : LifeId) : Type 1 where
  pub last : IsLast w r y (w.len y)
  pub stable : w.stable y (w.len y) ≡ true

pub member_from : (w : EpochLaws) (r : LifeId) → Detected w r → (y : LifeId) (i : ℕ) → i ≤ w.len y → (w.place y i).root ≡ r → IsMember w r y
member_from w r d y i hi e = let m = nobody_leaves w r d.moment d.lasting d.never d.last d.stable y i hi e in record { last = m.0; stable = m.1 }

pub members : (w : EpochLaws) (r y : LifeId) → Detected w r → Reach w r y → IsMember w r y
members w r _ d start = member_from w r d r d.moment d.last.within d.last.root
members w r _ d (next x p z q h l) =
    let m = members w r x d h in
    let ag = agreement w x p z q (w.len x) l (omega arith) m.stable in
    member_from w r d z ag.moment ag.within (ag.root ∙ m.last.root)

-- between members each has the other's present position
pub offers_present : (w : EpochLaws) (x : LifeId) (p : ℕ) (z : LifeId) (q : ℕ) → w.Link x p z q → w.stable z (w.len z) ≡ true → w.seen x p (w.len x) ≡ w.version z (w.len z)
offers_present w x p z q l s =
    let lz = w.turn x p z q l in
    let full_z : w.len z ≤ w.len z = omega arith in
    let full_x : w.len x ≤ w.len x = omega arith in
    let a = w.answered z q x p (w.len z) lz full_z (subst (λ n. 1 ≤ n) (sym (w.stable_answers z q x p (w.len z) lz full_z s)) (w.version_least z (w.len z))) in
    let e : w.seen x p a.0 ≡ w.version z (w.len z) = a.2 ∙ w.stable_answers z q x p (w.len z) lz full_z s in
    let up : w.seen x p a.0 ≤ w.seen x p (w.len x) = w.seen_grows x p a.0 (w.len x) a.1 full_x in
    let down : w.seen x p (w.len x) ≤ w.version z (w.len z) = w.seen_most x p z q (w.len x) l full_x in
    omega (arith, e, up, down)

-- who ever had the root is a member
pub had_root : (w : EpochLaws) (r : LifeId) (n : ℕ) (y : LifeId) (i : ℕ) → (w.place y i).level < n → i ≤ w.len y → (w.place y i).root ≡ r → Reach w r y
had_root w r zero y i h hi e = absurd (omega (arith, h))
had_root w r (suc n) y i h hi e =
    ⊎_elim
    (λ (ne : y ≡ r → ⊥).
    let par = w.parent y i hi (λ k. ne (sym k ∙ e)) in
    let o = w.parent_gives y par.0 par.1 par.2 i par.3 hi par.4 in
    let f = w.version_had par.1 (w.seen y par.0 i) o.0 (w.seen_most y par.0 par.1 par.2 i par.3 hi) in
    let cf : w.place y i ≡ w.gives par.1 (w.version par.1 f.0) par.0 = o.1 ∙ ap (λ n. w.gives par.1 n par.0) (sym f.2) in
    let rf : (w.place par.1 f.0).root ≡ r = sym (w.gives_root par.1 f.0 par.0 f.1) ∙ ap (λ (a : Place). a.root) (sym cf) ∙ e in
    let lf : (w.place y i).level ≡ suc (w.place par.1 f.0).level = ap (λ (a : Place). a.level) cf ∙ w.gives_level par.1 f.0 par.0 f.1 in
    next par.1 par.2 y par.0 (had_root w r n par.1 f.0 (omega (arith, lf, h)) f.1 rf) (w.turn y par.0 par.1 par.2 par.3))
    (λ (k : y ≡ r). subst (Reach w r) (sym k) start)
    (decide_life y r)

-- present positions lead from y to z
pub data Under (w : EpochLaws) : LifeId → LifeId → Type 1 where
  here : (z : LifeId) → Under w z z
  via : (z u y : LifeId) (p q : ℕ) → w.Link u p z q → (w.place u (w.len u)).port ≡ p → Under w u y → Under w z y

pub under_append : (w : EpochLaws) (a b c : LifeId) → Under w a b → Under w b c → Under w a c
under_append w _ _ c (here z) h = h
under_append w _ _ c (via z u y p q l e k) h = via z u c p q l e (under_append w u y c k h)

same_roots : (a b c d : LifeId) → a ≡ b → LifeAtMost d b → LifeAtMost a c → c ≡ d → a ≡ d
same_roots a b c d e low high f = life_antisym a d (subst (LifeAtMost a) f high) (subst (LifeAtMost d) (sym e) low)

pub below : (w : EpochLaws) (z y : LifeId) (i : ℕ) → i ≤ w.len z → w.stable z i ≡ true → w.version z i ≡ w.version z (w.len z) → Under w z y → w.Holds z i y
below w _ _ i hi s v (here z) = w.holds_own z i hi s v
below w _ _ i hi s v (via z u y p q l e k) =
    let lz = w.turn u p z q l in
    let full : w.len u ≤ w.len u = omega arith in
    let full_z : w.len z ≤ w.len z = omega arith in
    let ag = agreement w z q u p i lz hi s in
    let o = w.parent_gives u p z q (w.len u) l full e in
    let f = w.version_had z (w.seen u p (w.len u)) o.0 (w.seen_most u p z q (w.len u) l full) in
    let rf : (w.place u (w.len u)).root ≡ (w.place z f.0).root = ap (λ (a : Place). a.root) (o.1 ∙ ap (λ n. w.gives z n p) (sym f.2)) ∙ w.gives_root z f.0 p f.1 in
    let low : LifeAtMost (w.place z i).root (w.place z f.0).root =
    root_at_most (w.place z i) (w.place z f.0) (w.version_later z f.0 i f.1 hi (subst (λ n. w.version z f.0 ≤ n) (sym v) (w.version_grows z f.0 (w.len z) f.1 full_z))) in
    let high : LifeAtMost (w.place u (w.len u)).root (w.place u ag.moment).root = root_at_most (w.place u (w.len u)) (w.place u ag.moment) (w.improving u ag.moment (w.len u) ag.within full) in
    let same : (w.place u (w.len u)).root ≡ (w.place z i).root = same_roots (w.place u (w.len u)).root (w.place z f.0).root (w.place u ag.moment).root (w.place z i).root rf low high ag.root in
    let top : (g : ℕ) → g ≤ w.len z → (w.place z g).root ≡ (w.place z i).root → w.version z g ≤ w.version z i =
    λ g hg eg. subst (λ n. w.version z g ≤ n) (sym v) (w.version_grows z g (w.len z) hg full_z) in
    let st = settled_claim w z q u p i (w.len u) (w.place z i).root lz hi s refl top (record { within = full; root = same; most = λ m hm em. hm }) e in
    st.holds y (below w u y st.moment st.within st.stable st.version k)

-- all members lie below the root
pub members_below : (w : EpochLaws) (r : LifeId) (n : ℕ) (y : LifeId) → Detected w r → (w.place y (w.len y)).level < n → Reach w r y → Under w r y
members_below w r zero y d h m = absurd (omega (arith, h))
members_below w r (suc n) y d h m =
    ⊎_elim
    (λ (ne : y ≡ r → ⊥).
    let full : w.len y ≤ w.len y = omega arith in
    let my = members w r y d m in
    let par = w.parent y (w.len y) full (λ k. ne (sym k ∙ my.last.root)) in
    let reach : Reach w r par.1 = next y par.0 par.1 par.2 m par.3 in
    let mz = members w r par.1 d reach in
    let o = w.parent_gives y par.0 par.1 par.2 (w.len y) par.3 full par.4 in
    let is : w.place y (w.len y) ≡ w.gives par.1 (w.version par.1 (w.len par.1)) par.0 = o.1 ∙ ap (λ n. w.gives par.1 n par.0) (offers_present w y par.0 par.1 par.2 par.3 mz.stable) in
    let lf : (w.place y (w.len y)).level ≡ suc (w.place par.1 (w.len par.1)).level = ap (λ (a : Place). a.level) is ∙ w.gives_level par.1 (w.len par.1) par.0 (omega arith) in
    under_append w r par.1 y (members_below w r n par.1 d (omega (arith, lf, h)) reach) (via par.1 y y par.0 par.2 par.3 par.4 (here y)))
    (λ (k : y ≡ r). subst (Under w r) (sym k) (here r))
    (decide_life y r)

-- the root's report holds the present entry of each member
pub report_holds : (w : EpochLaws) (r : LifeId) (i : ℕ) (y : LifeId) → Detected w r → i ≤ w.len r → w.stable r i ≡ true → w.version r i ≡ w.version r (w.len r) → Reach w r y → w.Holds r i y
report_holds w r i y d hi s v m = below w r y i hi s v (members_below w r (suc (w.place y (w.len y)).level) y d (omega arith) m)
