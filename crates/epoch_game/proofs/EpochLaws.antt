use Rattle.std.proofs.Common.{◌≡◌, ℕ, suc, ◌≤◌, Bool, true}
use Rattle.an_base.specs.Values.{LifeId, Place}
use Rattle.epoch_core.specs.Laws.{IsAtMost}

-- What the argument from answers to 'nobody leaves' needs of one state of an epoch. The moments of a life x are the numbers up to len x.
pub record EpochLaws : Type 1 where
  -- port p of x and port q of z name each other
  pub Link : LifeId → ℕ → LifeId → ℕ → Type 0
  pub len : LifeId → ℕ
  -- position, version and whether stable at a moment; how many positions and answers had come on a port, and whether it claimed
  pub place : LifeId → ℕ → Place
  pub version : LifeId → ℕ → ℕ
  pub stable : LifeId → ℕ → Bool
  pub seen : LifeId → ℕ → ℕ → ℕ
  pub answers : LifeId → ℕ → ℕ → ℕ
  pub claims : LifeId → ℕ → ℕ → Bool
  -- what version n of z gives to x at its port p
  pub gives : LifeId → ℕ → ℕ → Place
  pub turn : (x : LifeId) (p : ℕ) (z : LifeId) (q : ℕ) → Link x p z q → Link z q x p
  pub improving : (x : LifeId) (i j : ℕ) → i ≤ j → j ≤ len x → IsAtMost (place x j) (place x i)
  pub version_least : (x : LifeId) (i : ℕ) → 1 ≤ version x i
  pub version_grows : (x : LifeId) (i j : ℕ) → i ≤ j → j ≤ len x → version x i ≤ version x j
  pub version_later : (x : LifeId) (i j : ℕ) → i ≤ len x → j ≤ len x → version x i ≤ version x j → IsAtMost (place x j) (place x i)
  pub version_once : (x : LifeId) (i j : ℕ) → i ≤ len x → j ≤ len x → place x i ≡ place x j → version x i ≡ version x j
  pub version_had : (x : LifeId) (n : ℕ) → 1 ≤ n → n ≤ version x (len x) → (i : ℕ) × (i ≤ len x) × (version x i ≡ n)
  pub seen_grows : (x : LifeId) (p i j : ℕ) → i ≤ j → j ≤ len x → seen x p i ≤ seen x p j
  pub seen_most : (x : LifeId) (p : ℕ) (z : LifeId) (q i : ℕ) → Link x p z q → i ≤ len x → seen x p i ≤ version z (len z)
  pub uncut : (x : LifeId) (p : ℕ) (z : LifeId) (q i : ℕ) → Link x p z q → i ≤ len x → 1 ≤ seen x p i → IsAtMost (place x i) (gives z (seen x p i) p)
  pub parent_gives : (x : LifeId) (p : ℕ) (z : LifeId) (q i : ℕ) → Link x p z q → i ≤ len x → (place x i).port ≡ p → (1 ≤ seen x p i) × (place x i ≡ gives z (seen x p i) p)
  pub gives_root : (z : LifeId) (j p : ℕ) → j ≤ len z → (gives z (version z j) p).root ≡ (place z j).root
  pub gives_level : (z : LifeId) (j p : ℕ) → j ≤ len z → (gives z (version z j) p).level ≡ suc (place z j).level
  pub parent : (x : LifeId) (i : ℕ) → i ≤ len x → ((place x i).root ≡ x → ⊥) → (p : ℕ) × (z : LifeId) × (q : ℕ) × (Link x p z q) × ((place x i).port ≡ p)
  pub claims_if : (x : LifeId) (p : ℕ) (z : LifeId) (q i j : ℕ) → Link x p z q → i ≤ len x → j ≤ len z → version z j ≡ seen x p i → (place z j).port ≡ q → claims x p i ≡ true
  pub claims_only_if : (x : LifeId) (p : ℕ) (z : LifeId) (q i j : ℕ) → Link x p z q → i ≤ len x → j ≤ len z → version z j ≡ seen x p i → claims x p i ≡ true → (place z j).port ≡ q
  pub answered : (x : LifeId) (p : ℕ) (z : LifeId) (q i : ℕ) → Link x p z q → i ≤ len x → 1 ≤ answers x p i → (j : ℕ) × (j ≤ len z) × (seen z q j ≡ answers x p i) × (version z j ≤ seen x p i)
  pub stable_answers : (x : LifeId) (p : ℕ) (z : LifeId) (q i : ℕ) → Link x p z q → i ≤ len x → stable x i ≡ true → answers x p i ≡ version x i
  -- the report of x at moment i has the entry of y with its present position
  pub Holds : LifeId → ℕ → LifeId → Type 0
  pub holds_own : (x : LifeId) (i : ℕ) → i ≤ len x → stable x i ≡ true → version x i ≡ version x (len x) → Holds x i x
  pub stable_report : (x : LifeId) (p : ℕ) (z : LifeId) (q i : ℕ) → Link x p z q → i ≤ len x → stable x i ≡ true → claims x p i ≡ true
      → (j : ℕ) × (j ≤ len z) × (version z j ≡ seen x p i) × (stable z j ≡ true) × ((y : LifeId) → Holds z j y → Holds x i y)
