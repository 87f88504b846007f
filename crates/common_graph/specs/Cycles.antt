-- Walks along steps between nodes of some type, cycles and the least cycle, and ranks.
use Rattle.std.specs.declared.cmp.Ordering.{Ordering}
use Rattle.std.specs.Ordering.{is_le}
use Rattle.std.specs.Cmp.Lexicographic.{slice_cmp}
use Rattle.std.specs.Prelude.{◌≡◌, ◌<◌, ◌≤◌, ◌⊎◌, ◌+◌, ℕ, zero, suc, List, [], ◌∷◌, length, Option, Some}
use Rattle.std.specs.Prelude.{None, IsTrue}

-- a walk of n steps from `start` to `end`
abbrev pub Walk : {Node : Type 0} → (Node → Node → Type 0) → ℕ → Node → Node → Type 0
Walk Step zero start end = start ≡ end
Walk {Node} Step (suc steps) start end = (next : Node) × Step start next × Walk Step steps next end

-- a path from `start` through the nodes of a list, in order, to `end`
abbrev pub Path : {Node : Type 0} → (Node → Node → Type 0) → Node → List Node → Node → Type 0
Path Step start [] end = Step start end
Path Step start (next ∷ rest) end = Step start next × Path Step next rest end

-- a cycle: a path from `start` through the nodes of `rest` back to `start`
abbrev pub IsCycle : {Node : Type 0} → (Node → Node → Type 0) → Node → List Node → Type 0
IsCycle Step start rest = Path Step start rest start

abbrev pub HasNoCycle : {Node : Type 0} → (Node → Node → Type 0) → Type 0
HasNoCycle {Node} Step = (start : Node) (rest : List Node) → IsCycle Step start rest → ⊥

-- `start` and `rest` are a shortest cycle from `start`, and of the shortest the least as a list
pub record IsLeastFrom {Node : Type 0} (compare : Node → Node → Ordering) (Step : Node → Node → Type 0)
    (start : Node) (rest : List Node)
    : Type 0 where
  pub closed : IsCycle Step start rest
  pub shortest : (other : List Node) → IsCycle Step start other → length rest ≤ length other
  pub least :
      (other : List Node) → IsCycle Step start other → length other ≡ length rest
      → IsTrue (is_le (slice_cmp compare rest other))

-- `start` and `rest` are the least cycle from `start`, and `start` is the least node on any cycle
pub record IsLeastAt {Node : Type 0} (compare : Node → Node → Ordering) (Step : Node → Node → Type 0)
    (start : Node) (rest : List Node)
    : Type 0 where
  pub from : IsLeastFrom compare Step start rest
  pub first :
      (other : Node) (others : List Node) → IsCycle Step other others → IsTrue (is_le (compare start other))

abbrev pub IsLeastCycle :
    {Node : Type 0} → (Node → Node → Ordering) → (Node → Node → Type 0) → List Node → Type 0
IsLeastCycle compare Step [] = ⊥
IsLeastCycle compare Step (start ∷ rest) = IsLeastAt compare Step start rest

-- `own` is the rank of `node`: above the ranks that `node` leads to, and 0 or one more than one of these
pub record IsRank {Node : Type 0} (Step : Node → Node → Type 0) (rank : Node → Option ℕ) (node : Node) (own : ℕ)
    : Type 0 where
  pub above : (after : Node) → Step node after → (lower : ℕ) × (rank after ≡ Some lower) × (lower < own)
  pub next :
      (own ≡ 0)
      ⊎ ((after : Node) × (lower : ℕ) × Step node after × (rank after ≡ Some lower) × (own ≡ lower + 1))

-- every node has its rank, and nothing else has one
pub record AreRanks {Node : Type 0} (Is : Node → Type 0) (Step : Node → Node → Type 0) (rank : Node → Option ℕ)
    : Type 0 where
  pub nodes : (node : Node) → Is node → (own : ℕ) × (rank node ≡ Some own) × IsRank Step rank node own
  pub others : (node : Node) → (Is node → ⊥) → rank node ≡ None
