use Rattle.std.proofs.Common.{sym, subst, refl, Option}
use Rattle.fabric_lane_counts.specs.Steps.{IsLesser}
use Rattle.fabric_lane_counts.specs.declared.counts.LostLaneRoute.{LostLaneRoute}
use Rattle.fabric_lane_counts.proofs.more.is_less.Goals as goal

pub returns-in-None : goal.returns-in-None
returns-in-None c = (λ _. subst (λ (o : Option LostLaneRoute). IsLesser c.args.fabric.now o c.args.lid c.args.source) (sym c.in-None.is) tt, λ _. refl)
