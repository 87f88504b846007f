use Rattle.std.proofs.Common.{refl, arith}
use Rattle.frame_region.proofs.PutLemmas.{put_kept_by, put_shown_by, put_new}
use Rattle.frame_region.proofs.region.Region.put.Goals as goal

pub reach-requires : goal.reach-requires
reach-requires c = omega (arith, c.self.invariant.0.free_within 0 (omega (arith, c.needed-need.ensures, c.requires.least)), c.self.invariant.3)

pub invariant_of-self : goal.invariant_of-self
invariant_of-self c = (
  put_kept_by _ _ _ _ _ _ _ _ _ _ _ _ _ _ c.self.invariant.0 c.deref.ensures.value refl refl c.reach.ensures.items
      c.fill-self-inside.ensures.written c.needed-need.ensures c.fill-self-inside.ensures.end c.requires.least c.requires.most (omega arith),
  omega (arith, c.self.invariant.1, c.fill-self-inside.ensures.room),
  c.self.invariant.2,
  omega (arith, c.self.invariant.3, c.reach.ensures.room),
)

pub returns-clause-put : goal.returns-clause-put
returns-clause-put c =
    put_shown_by _ _ _ _ _ _ _ _ _ _ _ _ _ _ c.self.invariant.0 c.self.view_is c.deref.ensures.value refl refl c.reach.ensures.items
    c.fill-self-inside.ensures.written c.needed-need.ensures c.requires.least (omega arith)

pub returns-clause-new : goal.returns-clause-new
returns-clause-new c = put_new _ _ _ _ _ _ _ c.self.invariant.0 c.self.view_is (omega (arith, c.needed-need.ensures, c.requires.least))
