-- Definitions used only by functions inside this crate.
use Rattle.std.specs.Prelude.{◌≡◌, ℕ, ◌+◌, ◌*◌, ◌<◌, ◌≤◌, List, length, slice_index_or}
use Rattle.frame_region.specs.Blocks.{block, place}
use Rattle.frame_region.specs.Sizes.{needed}

-- the bytes of a frame were written into the blocks of a chain, and no other block changed; a byte beyond the end of
-- the memory counts as 0
pub record IsWritten (next : List ℕ) (first : ℕ) (frame old new : List ℕ) : Type 0 where
  pub more : length old ≤ length new
  pub there : (at : ℕ) → at < needed (length frame) → 64 * block next first at + 64 ≤ length new
  pub bytes :
      (byte : ℕ) → byte < length frame
      → slice_index_or new (place next first byte) 0 ≡ slice_index_or frame byte 0
  pub others :
      (other byte : ℕ) → byte < 64
      → ((at : ℕ) → at < needed (length frame) → block next first at ≡ other → ⊥)
      → slice_index_or new (64 * other + byte) 0 ≡ slice_index_or old (64 * other + byte) 0
