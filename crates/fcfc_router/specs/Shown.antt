-- How contracts see the slots of a router.
use Rattle.std.specs.Prelude.{◌≡◌, ◌==◌, ◌<◌, ◌≤◌, ℕ, Bool, List, not, filter, length, map, slice_index}
use Rattle.std.specs.Prelude.{slice_index_or}
use Rattle.std.specs.Int.{bit_at}
use Rattle.std.specs.List.{range_with_len}
use Rattle.fcfc_router.specs.declared.router.Slot.{Slot}
use Rattle.fcfc_router.specs.Router.{RequestOf}

-- a router: its maximum number of requests, and the waiting requests, oldest first
pub record RouterOf : Type 0 where
  pub most : ℕ
  pub waiting : List RequestOf

-- the ports of `set` in ascending order
abbrev pub ports_of : ℕ → List ℕ
ports_of set = filter (λ port. bit_at set port == 1) (range_with_len 0 16)

-- the request in `slot`
abbrev pub request_of : Slot → RequestOf
request_of slot = record { packet = slot.packet; ports = ports_of slot.ports }

-- whether a request is in `slot`
abbrev pub is_taken : Slot → Bool
is_taken slot = not (slot.ports == 0)

-- the requests in slots that are taken
abbrev pub shown : List Slot → List RequestOf
shown slots = map request_of (filter is_taken slots)

-- the set of ports in the slot at index `place`, empty after the last slot
abbrev pub set_at : List Slot → ℕ → ℕ
set_at slots place = (slice_index_or slots place (record { packet = 0; ports = 0 })).ports

-- `tree` has the sets of `slots`
abbrev pub HasSets : List Slot → List ℕ → Type 0
HasSets slots tree = (place : ℕ) → place < length tree → slice_index tree place ≡ set_at slots place

-- `tree` has the sets of `slots`, and there is space for `most` requests
pub record IsIndex (most capacity : ℕ) (slots : List Slot) (tree : List ℕ) : Type 0 where
  pub room : most ≤ length tree
  pub used : length slots ≤ length tree
  pub kept : length tree ≤ capacity
  pub sets : HasSets slots tree
