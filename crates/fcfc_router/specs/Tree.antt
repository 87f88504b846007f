-- Lists of sets of ports, and the unions above them.
use Rattle.std.specs.Prelude.{◌≡◌, ◌≢◌, ◌⊎◌, ◌+◌, ◌-◌, ◌*◌, ◌<◌, ◌≤◌, ◌++◌, ◌^◌, ℕ, List, All, bit_and, drop}
use Rattle.std.specs.Prelude.{length, replicate, slice_index}
use Rattle.std.specs.Int.{IsPowerOfTwo}
use Rattle.std.specs.Int.RustNames.{bit_or}

-- none of `sets` has one of `ports`
abbrev pub HasNone : ℕ → List ℕ → Type 0
HasNone ports sets = All (λ set. bit_and set ports ≡ 0) sets

-- the set at index `place` is the first with one of `ports`
pub record IsFirst (ports : ℕ) (sets : List ℕ) (place : ℕ) : Type 0 where
  pub within : place < length sets
  pub has : bit_and (slice_index sets place) ports ≢ 0
  pub before : (other : ℕ) → other < place → bit_and (slice_index sets other) ports ≡ 0

-- `node` has the union of the two nodes below it
abbrev pub IsUnion : List ℕ → ℕ → Type 0
IsUnion unions node =
    slice_index unions node ≡ bit_or (slice_index unions (2 * node)) (slice_index unions (2 * node + 1))

-- `half` is the first of the two nodes below `node` if that has one of `ports`, otherwise the second
abbrev pub IsHalf : List ℕ → ℕ → ℕ → ℕ → Type 0
IsHalf unions ports node half =
    ((half ≡ 2 * node) × (bit_and (slice_index unions (2 * node)) ports ≢ 0))
    ⊎ ((half ≡ 2 * node + 1) × (bit_and (slice_index unions (2 * node)) ports ≡ 0))

-- `node` is `levels` levels above `below`; at 0 levels they are the same
pub record IsAbove (levels node below : ℕ) : Type 0 where
  pub first : node * 2 ^ levels ≤ below
  pub last : below < (node + 1) * 2 ^ levels

-- every node above the sets has the union of the two nodes below it
pub record IsTree (places : ℕ) (unions : List ℕ) : Type 0 where
  pub count : length unions ≡ 2 * places
  pub each : (node : ℕ) → 1 ≤ node → node < places → IsUnion unions node

-- every node above the sets, except for `end`, has the union of the two nodes below it
pub record IsTreeBut (places : ℕ) (unions : List ℕ) (end : ℕ) : Type 0 where
  pub count : length unions ≡ 2 * places
  pub each : (node : ℕ) → 1 ≤ node → node < places → node ≢ end → IsUnion unions node

-- all sets: those after the kept ones are empty
abbrev pub all_sets : ℕ → ℕ → List ℕ → List ℕ
all_sets kept places unions = drop kept unions ++ replicate (places - kept) 0

-- `kept` of the sets are kept, and there is space for all `places`
pub record IsGrown (kept places capacity : ℕ) (unions : List ℕ) : Type 0 where
  pub tree : IsTree kept unions
  pub power : IsPowerOfTwo kept
  pub all : IsPowerOfTwo places
  pub below : kept ≤ places
  pub most : places ≤ 2 ^ 15
  pub room : 2 * places ≤ capacity
