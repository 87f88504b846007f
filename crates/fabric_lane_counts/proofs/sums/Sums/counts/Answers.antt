use Rattle.std.proofs.Common.{ℕ, inl, inr, sym, subst}
use Rattle.fabric_lane_counts.specs.LaneCounts.{AreLaneCounts, IsSilent}
use Rattle.fabric_routes.specs.Counting.{IsCountOf}
use Rattle.fabric_lane_counts.proofs.ToldLemmas.{counts_told}
use Rattle.fabric_lane_counts.proofs.sums.Sums.counts.Goals as goal

pub returns-clause-counts : goal.returns-clause-counts
returns-clause-counts c = λ fabric tables lanes traffic levels fits kept are routes unowned silent.
    subst (AreLaneCounts fabric tables lanes traffic levels) (sym (rw c.none-counts.ensures at c.add_arrived.ensures))
    (counts_told fabric fits tables lanes traffic levels kept c.args.one.now are c.if-one.false (subst (λ (n : ℕ). IsCountOf (IsSilent fabric tables traffic levels) n) c.if-self-ne0.false silent) c.args.self.routes c.args.self.unowned routes unowned)

pub returns-then-one-clause-none : goal.returns-then-one-clause-none
returns-then-one-clause-none c = inl c.if-one.true

pub returns-then-self-ne0-clause-none : goal.returns-then-self-ne0-clause-none
returns-then-self-ne0-clause-none c = inr c.if-self-ne0.true
