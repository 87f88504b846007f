use Rattle.std.proofs.Common.{◌≡◌, ◌<◌, ◌≤◌, ◌*◌, ◌+◌, ℕ, length, slice_index_or}
use Rattle.frame_region.specs.Blocks.{block, place}
use Rattle.frame_region.proofs.region.fill.Given as goal

-- the first blocks are written, and no others
abbrev pub invariant-blocks-2 : goal.invariant-blocks-2
invariant-blocks-2 l = record {
  here : l.block ≡ block l.next l.first l.k;
  room : l.fn.bytes.cap ≤ l.bytes.cap;
  more : length l.fn.bytes.items ≤ length l.bytes.items;
  there : (j : ℕ) → j < l.k → 64 * block l.next l.first j + 64 ≤ length l.bytes.items;
  bytes : (i : ℕ) → i < length l.frame → i < 64 * l.k → slice_index_or l.bytes.items (place l.next l.first i) 0 ≡ slice_index_or l.frame i 0;
  others : (b m : ℕ) → m < 64 → ((j : ℕ) → j < l.k → block l.next l.first j ≡ b → ⊥) → slice_index_or l.bytes.items (64 * b + m) 0 ≡ slice_index_or l.fn.bytes.items (64 * b + m) 0;
}
