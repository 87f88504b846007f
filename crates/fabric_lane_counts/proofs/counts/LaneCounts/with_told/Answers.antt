use Rattle.std.proofs.Common.{◌≡◌, ◌∙◌, ◌+◌, ℕ, ap, max, refl, subst, sym}
use Rattle.std.specs.Int.{bit_at}
use Rattle.fabric_lane_counts.specs.Alike.{IsBelow}
use Rattle.fabric_lane_counts.specs.LaneCounts.{AreCountsOf}
use Rattle.fabric_lane_counts.proofs.AlikeLemmas.{counts_at, counts_without}
use Rattle.fabric_lane_counts.proofs.counts.LaneCounts.with_told.Goals as goal

pub returns-then-not-has_bit-clause-counts : goal.returns-then-not-has_bit-clause-counts
returns-then-not-has_bit-clause-counts c = λ fabric tables lanes traffic fits kept new are.
    counts_without fabric fits tables lanes traffic c.args.told kept c.args.level c.args.self
    (λ bit. absurd (
    let here : bit_at c.from.result c.from-2.result ≡ 1 = ap (λ (n : ℕ). bit_at n c.from-2.result) c.from.ensures ∙ ap (bit_at c.args.told) c.from-2.ensures ∙ bit in
    let t = c.has_bit.ensures.1 here in
    let f = c.if-not-has_bit.true in
    cc)) are

pub returns-clause-counts : goal.returns-clause-counts
returns-clause-counts c = λ fabric tables lanes traffic fits kept new are.
    let here = c.has_bit.ensures.0 c.if-not-has_bit.false in
    let bit : bit_at c.args.told c.args.level ≡ 1 = ap (bit_at c.args.told) (sym c.from-2.ensures) ∙ ap (λ (n : ℕ). bit_at n c.from-2.result) (sym c.from.ensures) ∙ here in
    subst (AreCountsOf fabric tables lanes (IsBelow fabric tables traffic c.args.told (c.args.level + 1))) (sym c.with.ensures)
    (counts_at fabric fits tables lanes traffic c.args.told kept c.args.level c.requires.level bit c.args.self c.args.counts.now (max c.args.self.hops c.args.counts.now.hops) refl are new)
