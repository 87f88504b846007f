-- Rows of routing tables.
use Rattle.std.specs.Prelude.{◌≡◌, ◌≢◌, ◌==◌, ◌↔◌, ℕ, ◌<◌, ◌≤◌, List, filter, All, AllPairs}
use Rattle.std.specs.Int.{bit_at}
use Rattle.std.specs.List.{range_with_len}
use Rattle.an_base.specs.declared.limits.TheConstants.{LAST_PORT}

-- every number of the list is an external port
abbrev pub ArePorts : List ℕ → Type 0
ArePorts = All (λ port. (1 ≤ port) × (port ≤ LAST_PORT))

-- the exits are in strictly ascending order
abbrev pub ExitsRise : List ℕ → Type 0
ExitsRise = AllPairs (λ before after. before < after)

-- the ports of `set` in ascending order: it has port p, 1 to 12, if and only if its bit p is 1
unfoldable pub ports_of : ℕ → List ℕ
ports_of set = filter (λ port. bit_at set port == 1) (range_with_len 1 12)

-- `set` has no bits other than those of external ports
abbrev pub HasPortsAlone : ℕ → Type 0
HasPortsAlone set = (port : ℕ) → bit_at set port ≡ 1 → (1 ≤ port) × (port ≤ LAST_PORT)

-- the set `new` is `set` without `port`
abbrev pub IsWithout : ℕ → ℕ → ℕ → Type 0
IsWithout set port new = (other : ℕ) → ((bit_at new other ≡ 1) ↔ ((bit_at set other ≡ 1) × (other ≢ port)))

-- a row of a routing table: the exits, at the switch `at`, for packets that arrive at the port `entry` and go to `to`
pub record RowOf : Type 0 where
  pub at : ℕ
  pub entry : ℕ
  pub to : ℕ
  pub exits : List ℕ
