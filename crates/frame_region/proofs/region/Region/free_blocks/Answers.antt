use Rattle.frame_region.proofs.StartLemmas.{free_most}
use Rattle.frame_region.proofs.region.Region.free_blocks.Goals as goal

pub returns-clause-most : goal.returns-clause-most
returns-clause-most c = free_most _ _ _ _ _ _ _ c.self.invariant.0 c.self.view_is
