-- Queues of slips that share their slots, used only by functions inside this crate.
use Rattle.std.specs.Prelude.{◌≡◌, ℕ, ◌-◌, ◌<◌, ◌≤◌, List, [], length, map, slice_index_or, slice_set}
use Rattle.std.specs.Prelude.{Option, Some, None}
use Rattle.std.specs.List.{range_with_len}
use Rattle.frame_region.specs.declared.region.TheConstants.{MOST_BLOCKS}
use Rattle.frame_region.specs.Blocks.{block}
use Rattle.wire_set.specs.declared.queue.Queue.{Queue}

-- queues of slips, by number, and the number of slots for them
pub record QueuesOf : Type 0 where
  pub queues : List (List ℕ)
  pub places : ℕ

-- the slips of a queue
abbrev pub queue_at : QueuesOf → ℕ → List ℕ
queue_at slips queue = slice_index_or slips.queues queue []

-- the slip at index `place` of a queue
abbrev pub slot : QueuesOf → ℕ → ℕ → ℕ
slot slips queue place = slice_index_or (queue_at slips queue) place 0

-- no slip occurs twice in the queues
abbrev pub IsApart : QueuesOf → Type 0
IsApart slips =
    (queue other place other_place : ℕ) → place < length (queue_at slips queue)
    → other_place < length (queue_at slips other)
    → slot slips queue place ≡ slot slips other other_place → (queue ≡ other) × (place ≡ other_place)

-- `slip` is in no queue
abbrev pub IsNew : ℕ → QueuesOf → Type 0
IsNew slip slips =
    (queue place : ℕ) → place < length (queue_at slips queue) → slot slips queue place ≡ slip → ⊥

-- the queues with `queue` replaced by another list
abbrev pub with_queue : ℕ → List ℕ → QueuesOf → QueuesOf
with_queue queue others slips = record slips { queues = slice_set slips.queues queue others }

-- an empty queue
abbrev pub empty : Queue
empty = record { first = 0; last = 0; count = 0 }

-- the slips of a queue; each names the next
abbrev pub walk : List ℕ → Queue → List ℕ
walk next queue = map (λ place. block next queue.first place) (range_with_len 0 queue.count)

-- the queue at index `number`
abbrev pub queue_of : List Queue → ℕ → Queue
queue_of queues number = slice_index_or queues number empty

-- the slip at index `place` of the queue at index `number`
abbrev pub item : List ℕ → List Queue → ℕ → ℕ → ℕ
item next queues number place = block next (queue_of queues number).first place

-- the queues that the slots give
abbrev pub shown : List ℕ → List Queue → ℕ → QueuesOf
shown next queues places = record { queues = map (walk next) queues; places = places }

-- the used slots are sound: each slip of a queue is in the slot of its number, and no slot is in two queues
pub record IsLinked (slips : List (Option ℕ)) (next : List ℕ) (queues : List Queue) (places : ℕ) : Type 0 where
  pub size : length slips ≡ length next
  pub reached : length next ≤ places
  pub most : places ≤ MOST_BLOCKS
  pub few : (number : ℕ) → (queue_of queues number).count ≤ places
  pub within :
      (number place : ℕ) → place < (queue_of queues number).count
      → item next queues number place < length next
  pub apart :
      (number other place other_place : ℕ) → place < (queue_of queues number).count
      → other_place < (queue_of queues other).count
      → item next queues number place ≡ item next queues other other_place
      → (number ≡ other) × (place ≡ other_place)
  pub there :
      (number place : ℕ) → place < (queue_of queues number).count
      → slice_index_or slips (item next queues number place) None ≡ Some (item next queues number place)
  pub last :
      (number : ℕ) → 1 ≤ (queue_of queues number).count
      → (queue_of queues number).last ≡ item next queues number ((queue_of queues number).count - 1)
