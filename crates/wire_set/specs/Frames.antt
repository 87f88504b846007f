-- Queues of frames in the blocks of one region: the view that contracts have of them, and the effect of each call.
use Rattle.std.specs.Prelude.{◌≡◌, ℕ, ◌+◌, ◌-◌, ◌<◌, ◌≤◌, List, [], ◌∷◌, ◌++◌, length, map, take, drop}
use Rattle.std.specs.Prelude.{slice_index_or, slice_set, IsSome}
use Rattle.std.specs.List.{sum_by}
use Rattle.frame_region.specs.Regions.{RegionOf, held_at, bytes_at}
use Rattle.frame_region.specs.Sizes.{blocks_of}
use Rattle.wire_set.specs.Queues.{QueuesOf, queue_at, slot}

-- queues of frames, each a byte string; the number of free blocks, and the number of all blocks
pub record FramesOf : Type 0 where
  pub queues : List (List (List ℕ))
  pub free : ℕ
  pub limit : ℕ

-- the frames of a queue
abbrev pub frames_at : FramesOf → ℕ → List (List ℕ)
frames_at frames queue = slice_index_or frames.queues queue []

-- the frame at index `place` of a queue
abbrev pub frame : FramesOf → ℕ → ℕ → List ℕ
frame frames queue place = slice_index_or (frames_at frames queue) place []

-- the number of blocks that the frames occupy
abbrev pub blocks_in : List (List ℕ) → ℕ
blocks_in frames = sum_by blocks_of frames

-- the number of blocks that the frames of all queues occupy
abbrev pub occupied : FramesOf → ℕ
occupied frames = sum_by blocks_in frames.queues

-- the free and the occupied blocks add up to all blocks
abbrev pub BlocksAddUp : FramesOf → Type 0
BlocksAddUp frames = frames.free + occupied frames ≡ frames.limit

-- the frames with those of `queue` replaced
abbrev pub with_frames : ℕ → List (List ℕ) → FramesOf → FramesOf
with_frames queue others frames = record frames { queues = slice_set frames.queues queue others }

-- the frames with one more at the end of `queue`
abbrev pub append_to : ℕ → List ℕ → FramesOf → FramesOf
append_to queue bytes frames = with_frames queue (frames_at frames queue ++ bytes ∷ []) frames

-- the frames with one more at the end of `queue`, which occupies its blocks
abbrev pub put_frame : ℕ → List ℕ → FramesOf → FramesOf
put_frame queue bytes frames = record (append_to queue bytes frames) { free = frames.free - blocks_of bytes }

-- the frames without the first one of `queue`
abbrev pub drop_first : ℕ → FramesOf → FramesOf
drop_first queue frames =
    record (with_frames queue (drop 1 (frames_at frames queue)) frames) {
      free = frames.free + blocks_of (frame frames queue 0);
    }

-- the frames without those of `queue`
abbrev pub clear : ℕ → FramesOf → FramesOf
clear queue frames =
    record (with_frames queue [] frames) { free = frames.free + blocks_in (frames_at frames queue) }

-- the frames with the first one of queue `from` moved to the end of queue `to`
abbrev pub move_first : ℕ → ℕ → FramesOf → FramesOf
move_first from to frames =
    append_to to (frame frames from 0) (with_frames from (drop 1 (frames_at frames from)) frames)

-- the frames with the second one of queue `from` moved to the end of queue `to`
abbrev pub move_second : ℕ → ℕ → FramesOf → FramesOf
move_second from to frames =
    append_to to (frame frames from 1)
    (with_frames from (take 1 (frames_at frames from) ++ drop 2 (frames_at frames from)) frames)

-- the frames that the region has under the slips of the queues
abbrev pub stored : RegionOf → QueuesOf → FramesOf
stored region slips =
    record { queues = map (map (bytes_at region)) slips.queues; free = region.free; limit = slips.places }

-- the region has the bytes of each slip in a queue, and the free blocks are those that no frame in a queue occupies
pub record IsStored (region : RegionOf) (slips : QueuesOf) : Type 0 where
  pub size : length region.held ≡ slips.places
  pub held :
      (queue place : ℕ) → place < length (queue_at slips queue)
      → IsSome (held_at region (slot slips queue place))
  pub some :
      (queue place : ℕ) → place < length (queue_at slips queue)
      → 1 ≤ length (bytes_at region (slot slips queue place))
  pub total : region.free + occupied (stored region slips) ≡ slips.places
