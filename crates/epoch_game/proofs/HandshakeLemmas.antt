-- What a life knows of a neighbour that has answered its version.
use Rattle.std.proofs.Common.{◌≡◌, ℕ, suc, ◌≤◌, ◌<◌, true, sym, ap, ◌∙◌, subst, ⊎_elim, arith}
use Rattle.std.proofs.lemmas.Bool.{cases_lt}
use Rattle.an_base.specs.Values.{LifeId, Place}
use Rattle.an_base.specs.Order.{life_cmp}
use Rattle.an_base.specs.TotalOrders.{life_total}
use Rattle.an_base.proofs.OrderLaws.{life_apart}
use Rattle.epoch_core.specs.Laws.{IsAtMost}
use Rattle.epoch_core.proofs.LessLemmas.{at_most_trans}
use Rattle.epoch_game.proofs.Orders.{LifeAtMost, le_trans, le_antisym, antisym, root_at_most}
use Rattle.epoch_game.proofs.EpochLaws.{EpochLaws}

pub life_trans : (a b c : LifeId) → LifeAtMost a b → LifeAtMost b c → LifeAtMost a c
life_trans = le_trans life_cmp life_total

pub life_antisym : (a b : LifeId) → LifeAtMost a b → LifeAtMost b a → a ≡ b
life_antisym = le_antisym life_cmp life_total life_apart

-- when x was at moment i, z had answered the version of x: it had the same root then, and in each version up to the one that x had heard of
pub record Agrees (w : EpochLaws) (x : LifeId) (p : ℕ) (z : LifeId) (q i : ℕ) : Type 0 where
  pub moment : ℕ
  pub within : moment ≤ w.len z
  pub seen : w.seen z q moment ≡ w.version x i
  pub version : w.version z moment ≤ w.seen x p i
  pub root : (w.place z moment).root ≡ (w.place x i).root
  pub heard : (k : ℕ) → k ≤ w.len z → w.version z k ≡ w.seen x p i → (w.place z k).root ≡ (w.place x i).root

-- roots squeezed
squeeze : (a b c : LifeId) → LifeAtMost a b → LifeAtMost c a → LifeAtMost b c → (a ≡ c) × (b ≡ c)
squeeze a b c e f g =
    let first = life_antisym a c (life_trans a b c e g) f in
    let second = life_antisym b c g (life_trans c a b f e) in
    (first, second)

-- what a peer had when it answered
below_answer : (w : EpochLaws) (x : LifeId) (p : ℕ) (z : LifeId) (q i j : ℕ) → w.Link x p z q → j ≤ w.len z → w.seen z q j ≡ w.version x i → IsAtMost (w.place z j) (w.gives x (w.version x i) q)
below_answer w x p z q i j l hj e =
    subst (λ n. IsAtMost (w.place z j) (w.gives x n q)) e (w.uncut z q x p j (w.turn x p z q l) hj (subst (λ n. 1 ≤ n) (sym e) (w.version_least x i)))

above_offer : (w : EpochLaws) (x : LifeId) (p : ℕ) (z : LifeId) (q i k : ℕ) → w.Link x p z q → i ≤ w.len x → k ≤ w.len z → w.version z k ≡ w.seen x p i → LifeAtMost (w.place x i).root (w.place z k).root
above_offer w x p z q i k l hi hk e =
    subst (λ n. LifeAtMost (w.place x i).root n) (w.gives_root z k p hk)
    (root_at_most (w.place x i) (w.gives z (w.version z k) p) (subst (λ n. IsAtMost (w.place x i) (w.gives z n p)) (sym e) (w.uncut x p z q i l hi (subst (λ n. 1 ≤ n) e (w.version_least z k)))))

pub agreement : (w : EpochLaws) (x : LifeId) (p : ℕ) (z : LifeId) (q i : ℕ) → w.Link x p z q → i ≤ w.len x → w.stable x i ≡ true → Agrees w x p z q i
agreement w x p z q i l hi s =
    let a = w.answered x p z q i l hi (subst (λ n. 1 ≤ n) (sym (w.stable_answers x p z q i l hi s)) (w.version_least x i)) in
    let j = a.0 in
    let hj = a.1 in
    let e : w.seen z q j ≡ w.version x i = a.2 ∙ w.stable_answers x p z q i l hi s in
    let low : LifeAtMost (w.place z j).root (w.place x i).root = subst (λ n. LifeAtMost (w.place z j).root n) (w.gives_root x i q hi) (root_at_most (w.place z j) (w.gives x (w.version x i) q) (below_answer w x p z q i j l hj e)) in
    let first = w.version_least z j in
    let top = w.version_had z (w.seen x p i) (omega (arith, first, a.3)) (w.seen_most x p z q i l hi) in
    let each : (k : ℕ) → k ≤ w.len z → w.version z k ≡ w.seen x p i → ((w.place z k).root ≡ (w.place x i).root) × ((w.place z j).root ≡ (w.place x i).root) =
    λ k hk ek.
    let down : LifeAtMost (w.place z k).root (w.place z j).root = root_at_most (w.place z k) (w.place z j) (w.version_later z j k hj hk (subst (λ n. w.version z j ≤ n) (sym ek) a.3)) in
    squeeze (w.place z k).root (w.place z j).root (w.place x i).root down (above_offer w x p z q i k l hi hk ek) low in
    record { moment = j; within = hj; seen = e; version = a.3; root = (each top.0 top.1 top.2).1; heard = λ k hk ek. (each k hk ek).0 }

-- once the present version is answered, the link is not taken as the one to the parent any more
pub no_new_claim : (w : EpochLaws) (x : LifeId) (p : ℕ) (z : LifeId) (q j1 j : ℕ) → w.Link x p z q → j1 ≤ w.len z → j ≤ w.len z → w.seen z q j1 ≡ w.version x (w.len x) → w.version z j1 ≤ w.version z j → (w.place z j).port ≡ q → w.place z j ≡ w.place z j1
no_new_claim w x p z q j1 j l h1 hj e v hp =
    let down : IsAtMost (w.place z j) (w.place z j1) = w.version_later z j1 j h1 hj v in
    ⊎_elim
    (λ (lt : j < j1).
    let up : IsAtMost (w.place z j1) (w.place z j) = w.improving z j j1 (omega (arith, lt)) h1 in
    antisym (w.place z j) (w.place z j1) down up)
    (λ (le : j1 ≤ j).
    let more : w.version x (w.len x) ≤ w.seen z q j = subst (λ n. n ≤ w.seen z q j) e (w.seen_grows z q j1 j le hj) in
    let most = w.seen_most z q x p j (w.turn x p z q l) hj in
    let same : w.seen z q j ≡ w.version x (w.len x) = omega (arith, more, most) in
    let o = w.parent_gives z q x p j (w.turn x p z q l) hj hp in
    let is : w.place z j ≡ w.gives x (w.version x (w.len x)) q = o.1 ∙ ap (λ n. w.gives x n q) same in
    let up : IsAtMost (w.place z j1) (w.place z j) = subst (IsAtMost (w.place z j1)) (sym is) (below_answer w x p z q (w.len x) j1 l h1 e) in
    antisym (w.place z j) (w.place z j1) down up)
    (cases_lt j j1)

-- what was stable stays so while the version stays
abbrev pub Lasting : EpochLaws → Type 0
Lasting w = (x : LifeId) (i j : ℕ) → i ≤ j → j ≤ w.len x → w.version x i ≡ w.version x j → w.stable x i ≡ true → w.stable x j ≡ true

-- g is the last moment at which x had root r
pub record IsLast (w : EpochLaws) (r x : LifeId) (g : ℕ) : Type 0 where
  pub within : g ≤ w.len x
  pub root : (w.place x g).root ≡ r
  pub most : (k : ℕ) → k ≤ w.len x → (w.place x k).root ≡ r → k ≤ g

-- the position of z at moment j is what x gives it, x holds it for a child, and has the report that z made in that version
pub record Settled (w : EpochLaws) (x : LifeId) (p : ℕ) (z : LifeId) (q i j : ℕ) : Type 0 where
  pub gives : w.place z j ≡ w.gives x (w.version x i) q
  pub claims : w.claims x p i ≡ true
  pub moment : ℕ
  pub within : moment ≤ w.len z
  pub version : w.version z moment ≡ w.version z j
  pub stable : w.stable z moment ≡ true
  pub holds : (y : LifeId) → w.Holds z moment y → w.Holds x i y

pub settled_claim : (w : EpochLaws) (x : LifeId) (p : ℕ) (z : LifeId) (q i j : ℕ) (r : LifeId) → w.Link x p z q → i ≤ w.len x → w.stable x i ≡ true → (w.place x i).root ≡ r
    → ((g : ℕ) → g ≤ w.len x → (w.place x g).root ≡ r → w.version x g ≤ w.version x i)
    → IsLast w r z j → (w.place z j).port ≡ q → Settled w x p z q i j
settled_claim w x p z q i j r l hi s hr top last hp =
    let hj = last.within in
    let ag = agreement w x p z q i l hi s in
    let j1 = ag.moment in
    let j1j : j1 ≤ j = last.most j1 ag.within (ag.root ∙ hr) in
    let o = w.parent_gives z q x p j (w.turn x p z q l) hj hp in
    let g = w.version_had x (w.seen z q j) o.0 (w.seen_most z q x p j (w.turn x p z q l) hj) in
    let rg : (w.place x g.0).root ≡ r = sym (w.gives_root x g.0 q g.1) ∙ ap (λ n. (w.gives x n q).root) g.2 ∙ ap (λ (a : Place). a.root) (sym o.1) ∙ last.root in
    let most : w.seen z q j ≤ w.version x i = subst (λ n. n ≤ w.version x i) g.2 (top g.0 g.1 rg) in
    let least : w.version x i ≤ w.seen z q j = subst (λ n. n ≤ w.seen z q j) ag.seen (w.seen_grows z q j1 j j1j hj) in
    let same : w.seen z q j ≡ w.version x i = omega (arith, most, least) in
    let is : w.place z j ≡ w.gives x (w.version x i) q = o.1 ∙ ap (λ n. w.gives x n q) same in
    let low : IsAtMost (w.place z j1) (w.place z j) = subst (IsAtMost (w.place z j1)) (sym is) (below_answer w x p z q i j1 l ag.within ag.seen) in
    let first = w.version_least z j1 in
    let upto = ag.version in
    let one : 1 ≤ w.seen x p i = omega (arith, first, upto) in
    let n = w.version_had z (w.seen x p i) one (w.seen_most x p z q i l hi) in
    let nj : n.0 ≤ j = last.most n.0 n.1 (ag.heard n.0 n.1 n.2 ∙ hr) in
    let b : IsAtMost (w.place z j) (w.place z n.0) = w.improving z n.0 j nj hj in
    let c : IsAtMost (w.place z n.0) (w.place z j1) = w.version_later z j1 n.0 ag.within n.1 (subst (λ m. w.version z j1 ≤ m) (sym n.2) ag.version) in
    let eq : w.place z n.0 ≡ w.place z j = antisym (w.place z n.0) (w.place z j) (at_most_trans (w.place z n.0) (w.place z j1) (w.place z j) c low) b in
    let cl = w.claims_if x p z q i n.0 l hi n.1 n.2 (ap (λ (a : Place). a.port) eq ∙ hp) in
    let rep = w.stable_report x p z q i l hi s cl in
    record { gives = is; claims = cl; moment = rep.0; within = rep.1; version = rep.2 ∙ sym n.2 ∙ w.version_once z n.0 j n.1 hj eq; stable = rep.3; holds = rep.4 }

-- a new claim cannot come while a version that was stable stays
pub lasting_step : (w : EpochLaws) (x : LifeId) (p : ℕ) (z : LifeId) (q i : ℕ) → w.Link x p z q → i ≤ w.len x → w.stable x i ≡ true → w.version x i ≡ w.version x (w.len x)
    → w.seen x p (w.len x) ≡ suc (w.seen x p i) → w.claims x p (w.len x) ≡ true → ⊥
lasting_step w x p z q i l hi s v more c =
    let full : w.len x ≤ w.len x = omega arith in
    let a = w.answered x p z q i l hi (subst (λ n. 1 ≤ n) (sym (w.stable_answers x p z q i l hi s)) (w.version_least x i)) in
    let e : w.seen z q a.0 ≡ w.version x (w.len x) = a.2 ∙ w.stable_answers x p z q i l hi s ∙ v in
    let j = w.version_had z (w.seen x p (w.len x)) (omega (arith, more)) (w.seen_most x p z q (w.len x) l full) in
    let hp = w.claims_only_if x p z q (w.len x) j.0 l full j.1 j.2 c in
    let same = no_new_claim w x p z q a.0 j.0 l a.1 j.1 e (omega (arith, j.2, more, a.3)) hp in
    let ver : w.version z j.0 ≡ w.version z a.0 = w.version_once z j.0 a.0 j.1 a.1 same in
    omega (arith, ver, j.2, more, a.3)
