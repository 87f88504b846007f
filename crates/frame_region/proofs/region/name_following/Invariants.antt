use Rattle.std.proofs.Common.{◌≡◌, ℕ, length}
use Rattle.frame_region.specs.Blocks.{after}
use Rattle.frame_region.proofs.region.name_following.Given as goal

-- the blocks so far are there, or all that were
abbrev pub invariant-blocks-2 : goal.invariant-blocks-2
invariant-blocks-2 l = record {
  there : l.block ≡ length l.next.items;
  room : l.next.cap ≡ l.fn.next.cap;
  same : (b : ℕ) → after l.next.items b ≡ after l.fn.next.items b;
}
