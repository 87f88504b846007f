use Rattle.std.proofs.Common.{◌∙◌, ap}
use Rattle.frame_region.specs.Blocks.{after}
use Rattle.frame_region.proofs.ChainLemmas.{block_next}
use Rattle.frame_region.proofs.region.block_after.Goals as goal

pub blocks-2-preserved : goal.blocks-2-preserved
blocks-2-preserved c = c.after-block.ensures ∙ ap (after c.args.next.now) c.blocks-2.invariant ∙ block_next c.args.next.now c.args.first c.blocks-2.counter
