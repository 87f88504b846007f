use Rattle.std.proofs.Common.{arith}
use Rattle.frame_region.proofs.StartLemmas.{start_by}
use Rattle.frame_region.proofs.region.Region.new.Goals as goal

pub invariant_of-result : goal.invariant_of-result
invariant_of-result c = (
  (start_by _ _ _ c.args.blocks c.requires c.in_ok-with_capacity.ensures.items c.in_ok-with_capacity-2.ensures.items c.in_ok-with_capacity-3.ensures.items).0,
  omega (arith, c.in_ok-with_capacity.ensures.exact),
  omega (arith, c.in_ok-with_capacity-2.ensures.exact),
  omega (arith, c.in_ok-with_capacity-3.ensures.exact),
)

pub returns : goal.returns
returns c = (start_by _ _ _ c.args.blocks c.requires c.in_ok-with_capacity.ensures.items c.in_ok-with_capacity-2.ensures.items c.in_ok-with_capacity-3.ensures.items).1
