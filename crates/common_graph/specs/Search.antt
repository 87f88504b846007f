-- Tables with a number for each node. Only private functions cite this.
use Rattle.std.specs.Ordering.{nat_cmp}
use Rattle.std.specs.Prelude.{◌≡◌, ◌<◌, ◌≤◌, ◌⊎◌, ◌+◌, ℕ, suc, List, [], ◌∷◌, length, Some, slice_get}
use Rattle.common_graph.specs.Graph.{GraphOf, LeadsTo, IsNode, AreWithin, value_at}
use Rattle.common_graph.specs.Cycles.{Walk, IsCycle, IsLeastFrom, IsRank}

-- `own` is the rank of `node` as far as the nodes below `end` show
pub record IsHeight (graph : GraphOf) (ranks : List ℕ) (node end own : ℕ) : Type 0 where
  pub above : (after : ℕ) → after < end → LeadsTo graph node after
      → (lower : ℕ) × (slice_get ranks after ≡ Some lower) × (lower < own)
  pub next :
      (own ≡ 0)
      ⊎ ((after : ℕ) × (lower : ℕ) × LeadsTo graph node after × (slice_get ranks after ≡ Some lower)
      × (own ≡ lower + 1))

-- `ranks` has the rank of `node`
abbrev pub IsRanked : GraphOf → List ℕ → ℕ → Type 0
IsRanked graph ranks node =
    (own : ℕ) × (slice_get ranks node ≡ Some own) × IsRank (LeadsTo graph) (slice_get ranks) node own

-- the step from `node` to `next` lowers the value by more than `fall`
pub record FallsTo (graph : GraphOf) (table : List ℕ) (fall node next : ℕ) : Type 0 where
  pub step : LeadsTo graph node next
  pub falls : value_at table next + fall < value_at table node
  pub fits : value_at table next + fall < 4294967296

-- no step from `node` lowers the value by more than `fall`
abbrev pub HoldsFrom : GraphOf → List ℕ → ℕ → ℕ → Type 0
HoldsFrom graph table fall node =
    (next : ℕ) → LeadsTo graph node next → value_at table node ≤ value_at table next + fall

-- no step lowers the value by more than `fall`
abbrev pub Holds : GraphOf → List ℕ → ℕ → Type 0
Holds graph table fall = (node : ℕ) → HoldsFrom graph table fall node

-- `node` leads to a node with the same value
abbrev pub HasPeer : GraphOf → List ℕ → ℕ → Type 0
HasPeer graph table node = (next : ℕ) × LeadsTo graph node next × (value_at table next ≡ value_at table node)

-- `next` is the lowest node that `node` leads to and whose value is from `least` to `most`
pub record IsFirstWithin (graph : GraphOf) (table : List ℕ) (node least most next : ℕ) : Type 0 where
  pub step : LeadsTo graph node next
  pub above : least ≤ value_at table next
  pub low : value_at table next ≤ most
  pub first :
      (other : ℕ) → LeadsTo graph node other → least ≤ value_at table other → value_at table other ≤ most
      → next ≤ other

-- `node` leads to no node whose value is from `least` to `most`
abbrev pub HasNoneWithin : GraphOf → List ℕ → ℕ → ℕ → ℕ → Type 0
HasNoneWithin graph table node least most =
    (other : ℕ) → LeadsTo graph node other → least ≤ value_at table other → value_at table other ≤ most → ⊥

-- `node` leads to no node below `end` whose value is from `least` to `most`
abbrev pub HasNoneSoFar : GraphOf → List ℕ → ℕ → ℕ → ℕ → ℕ → Type 0
HasNoneSoFar graph table node least most end =
    (other : ℕ) → other < end → LeadsTo graph node other → least ≤ value_at table other
    → value_at table other ≤ most → ⊥

-- `next` is the lowest node that `node` leads to and whose value is at most `most`
abbrev pub IsNextBelow : GraphOf → List ℕ → ℕ → ℕ → ℕ → Type 0
IsNextBelow graph table node most next = IsFirstWithin graph table node 0 most next

-- every node below `end` that `node` leads to has a value of at least `value`
abbrev pub IsLowest : GraphOf → List ℕ → ℕ → ℕ → ℕ → Type 0
IsLowest graph table node end value =
    (next : ℕ) → next < end → LeadsTo graph node next → value ≤ value_at table next

-- from `start` through a list to `end`: each next node is the lowest of at most a value, which begins at `value` and
-- falls by one each time, to `end_value`
abbrev pub Descends : GraphOf → List ℕ → ℕ → ℕ → List ℕ → ℕ → ℕ → Type 0
Descends graph table start value [] end end_value = (start ≡ end) × (value ≡ end_value)
Descends graph table start value (next ∷ rest) end end_value =
    (lower : ℕ) × (value ≡ suc lower) × IsNextBelow graph table start value next
    × Descends graph table next lower rest end end_value

-- `node` leads to a node whose value is at most `most`
abbrev pub HasBelow : GraphOf → List ℕ → ℕ → ℕ → Type 0
HasBelow graph table node most = (next : ℕ) × LeadsTo graph node next × (value_at table next ≤ most)

-- `levels` for `goal`: a level below the highest number is that of `goal`, or above the level of some next node
pub record AreExact (graph : GraphOf) (levels : List ℕ) (goal : ℕ) : Type 0 where
  pub count : length levels ≡ length graph.bases
  pub few : length graph.bases < 2147483648
  pub within : AreWithin graph
  pub reached :
      (node : ℕ) → IsNode graph node → value_at levels node < 4294967295
      → (node ≡ goal) ⊎ ((next : ℕ) × LeadsTo graph node next × (value_at levels next < value_at levels node))

-- the list begins with `start` and is the least of the shortest cycles from it
abbrev pub IsLeastCycleFrom : GraphOf → ℕ → List ℕ → Type 0
IsLeastCycleFrom graph start [] = ⊥
IsLeastCycleFrom graph start (first ∷ rest) = (first ≡ start) × IsLeastFrom nat_cmp (LeadsTo graph) start rest

abbrev pub HasNoCycleFrom : GraphOf → ℕ → Type 0
HasNoCycleFrom graph start = (rest : List ℕ) → IsCycle (LeadsTo graph) start rest → ⊥

-- the step to `next` is the first from `node` along which `ranks` do not fall
pub record IsRiseFrom (graph : GraphOf) (ranks : List ℕ) (node next : ℕ) : Type 0 where
  pub step : LeadsTo graph node next
  pub rises : value_at ranks node ≤ value_at ranks next
  pub lower : (other : ℕ) → other < next → LeadsTo graph node other → value_at ranks other < value_at ranks node

-- `ranks` that are being raised: each is the length of a walk, and 0 or at most one more than that of some next node
pub record AreRising (graph : GraphOf) (ranks : List ℕ) : Type 0 where
  pub count : length ranks ≡ length graph.bases
  pub few : length graph.bases < 2147483648
  pub within : AreWithin graph
  pub walks :
      (node : ℕ) → IsNode graph node → (end : ℕ) × Walk (LeadsTo graph) (value_at ranks node) node end
  pub tight :
      (node : ℕ) → IsNode graph node
      → (value_at ranks node ≡ 0)
      ⊎ ((next : ℕ) × LeadsTo graph node next × (value_at ranks node ≤ value_at ranks next + 1))
