-- The view that contracts have of a region, and how its blocks give it.
use Rattle.std.specs.Prelude.{◌≡◌, ℕ, zero, suc, ◌+◌, ◌-◌, ◌*◌, ◌<◌, ◌≤◌, List, [], length, map, take, drop}
use Rattle.std.specs.Prelude.{slice_index_or, slice_set, Option, Some, None, unwrap_or}
use Rattle.std.specs.List.{range_with_len, sum_by}
use Rattle.frame_region.specs.declared.buffer.TheConstants.{MOST_FRAME}
use Rattle.frame_region.specs.declared.region.TheConstants.{MOST_BLOCKS}
use Rattle.frame_region.specs.Blocks.{block, chain_bytes}
use Rattle.frame_region.specs.Sizes.{blocks_of, needed}

-- a region: the bytes of each slip, if there are any, and the number of free blocks; slips are numbers below the
-- number of blocks
pub record RegionOf : Type 0 where
  pub held : List (Option (List ℕ))
  pub free : ℕ

-- the bytes of `slip`, if the region has it
abbrev pub held_at : RegionOf → ℕ → Option (List ℕ)
held_at region slip = slice_index_or region.held slip None

-- the bytes of `slip`, none if the region does not have it
abbrev pub bytes_at : RegionOf → ℕ → List ℕ
bytes_at region slip = unwrap_or (held_at region slip) []

-- the region with `bytes` put under `slip`
abbrev pub with_put : ℕ → List ℕ → RegionOf → RegionOf
with_put slip bytes region =
    record { held = slice_set region.held slip (Some bytes); free = region.free - blocks_of bytes }

-- the region with the bytes of `slip` removed
abbrev pub without : ℕ → RegionOf → RegionOf
without slip region =
    record { held = slice_set region.held slip None; free = region.free + blocks_of (bytes_at region slip) }

-- piece `number`, from 0, of the bytes: 64 bytes, or fewer for the last piece
abbrev pub piece_of : ℕ → List ℕ → List ℕ
piece_of number bytes = take 64 (drop (64 * number) bytes)

-- the bytes of the chain that starts with a block; none start there if their length is 0
abbrev pub content : List ℕ → List ℕ → ℕ → ℕ → Option (List ℕ)
content bytes next first zero = None
content bytes next first (suc len) = Some (chain_bytes bytes next first (suc len))

-- the length of the byte string that starts with block `first`; 0 if none does, or none has yet
abbrev pub len_at : List ℕ → ℕ → ℕ
len_at lens first = slice_index_or lens first 0

-- the number of blocks of the byte string that starts with block `first`
abbrev pub count_at : List ℕ → ℕ → ℕ
count_at lens first = needed (len_at lens first)

-- the region that the blocks give
abbrev pub shown : List ℕ → List ℕ → List ℕ → ℕ → ℕ → RegionOf
shown bytes next lens blocks free = record {
  held = map (λ first. content bytes next first (len_at lens first)) (range_with_len 0 blocks);
  free = free;
}

-- the blocks are sound: no block is twice in a chain or in two chains, including that of the free blocks
pub record IsKept (bytes next lens : List ℕ) (blocks first_free free : ℕ) : Type 0 where
  pub count : length lens ≤ blocks
  pub most : blocks ≤ MOST_BLOCKS
  pub total : sum_by needed lens + free ≡ blocks
  pub short : (first : ℕ) → len_at lens first ≤ MOST_FRAME
  pub within : (first place : ℕ) → place < count_at lens first → block next first place < blocks
  pub written :
      (first place : ℕ) → place < count_at lens first → 64 * block next first place + 64 ≤ length bytes
  pub apart :
      (first other place other_place : ℕ) → place < count_at lens first → other_place < count_at lens other
      → block next first place ≡ block next other other_place → (first ≡ other) × (place ≡ other_place)
  pub taken :
      (first place other_place : ℕ) → place < count_at lens first → other_place < free
      → block next first place ≡ block next first_free other_place → ⊥
  pub free_apart :
      (place other_place : ℕ) → place < free → other_place < free
      → block next first_free place ≡ block next first_free other_place → place ≡ other_place
  pub free_within : (place : ℕ) → place < free → block next first_free place < blocks
