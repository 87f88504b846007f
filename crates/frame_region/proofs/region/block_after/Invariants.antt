use Rattle.std.proofs.Common.{◌≡◌}
use Rattle.frame_region.specs.Blocks.{block}
use Rattle.frame_region.proofs.region.block_after.Given as goal

abbrev pub invariant-blocks-2 : goal.invariant-blocks-2
invariant-blocks-2 l = l.block ≡ block l.next l.first l.counter
