use Rattle.std.proofs.Common.{◌≡◌, ◌*◌, min}
use Rattle.frame_region.specs.Blocks.{block, chain_bytes}
use Rattle.frame_region.proofs.region.gather.Given as goal

-- the blocks so far are read
abbrev pub invariant-blocks-2 : goal.invariant-blocks-2
invariant-blocks-2 l = record {
  here : l.block ≡ block l.next l.first l.k;
  read : l.out ≡ chain_bytes l.bytes l.next l.first (min (64 * l.k) l.len);
}
