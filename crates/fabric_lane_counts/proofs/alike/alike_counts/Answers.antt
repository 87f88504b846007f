use Rattle.std.proofs.Common.{◌≡◌, ◌≤◌, ◌+◌, ℕ, ap, arith, refl, subst, sym}
use Rattle.fabric_lane_counts.specs.Alike.{IsBelow, alike}
use Rattle.fabric_lane_counts.specs.declared.counts.LaneCounts.{LaneCounts}
use Rattle.fabric_lane_counts.specs.LaneCounts.{AreCountsOf, IsLaneRouteOf, lane_sum_of}
use Rattle.fabric_lane_counts.proofs.AlikeLemmas.{alike_silent, counts_of_all, none_below}
use Rattle.fabric_lane_counts.proofs.MoreLemmas.{no_counts}
use Rattle.fabric_lane_counts.proofs.StepLemmas.{counts_beside}
use Rattle.fabric_lane_counts.proofs.alike.alike_counts.Goals as goal

pub levels-init : goal.levels-init
levels-init c = record {
  all = subst (λ (n : LaneCounts). n.routes ≡ n.arrived + lane_sum_of n.lost) (sym c.none-all.ensures) refl;
  unowned = subst (λ (n : LaneCounts). n.unowned ≤ n.arrived) (sym c.none-all.ensures) (omega arith);
  few = (let e = ap (λ (n : LaneCounts). n.routes) c.none-all.ensures in omega arith);
  counts = λ fabric tables lanes traffic fits kept new.
      subst (AreCountsOf fabric tables lanes (IsBelow fabric tables traffic c.args.told 0)) (sym c.none-all.ensures) (no_counts fabric tables lanes (IsBelow fabric tables traffic c.args.told 0) (none_below fabric tables traffic c.args.told));
}

pub levels-preserved : goal.levels-preserved
levels-preserved c = record {
  all = c.with_told-all.ensures.all;
  unowned = c.with_told-all.ensures.unowned;
  few = (let more = c.with_told-all.ensures.routes in let few = c.levels.invariant.few in let most = c.requires.few in omega arith);
  counts = λ fabric tables lanes traffic fits kept new. c.with_told-all.ensures.counts fabric tables lanes traffic fits kept new (c.levels.invariant.counts fabric tables lanes traffic fits kept new);
}

pub returns-clause-counts : goal.returns-clause-counts
returns-clause-counts c = λ fabric tables lanes traffic fits kept new.
    let so_far = subst (λ (n : ℕ). AreCountsOf fabric tables lanes (IsBelow fabric tables traffic c.args.told n) c.levels.all) (omega arith) (c.levels.invariant.counts fabric tables lanes traffic fits kept new) in
    record {
      of = counts_beside fabric tables lanes traffic (alike c.args.told) (IsLaneRouteOf fabric tables traffic (alike c.args.told)) c.levels.all c.silent_of.result (counts_of_all fabric fits tables lanes traffic c.args.told kept c.levels.all so_far);
      silent = alike_silent fabric tables traffic c.args.told c.args.counts.now.routes c.silent_of.result (omega arith) c.silent_of.ensures.all c.silent_of.ensures.none new.routes;
    }
