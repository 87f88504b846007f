use Rattle.std.proofs.Common.{◌≡◌, ◌∙◌, ℕ, ap, sym}
use Rattle.std.specs.Int.{bit_at}
use Rattle.fabric_tables.specs.Cells.{tables_of}
use Rattle.fabric_counts.proofs.PlaceLemmas.{end_port}
use Rattle.fabric_lane_counts.proofs.StepLemmas.{without_counts}
use Rattle.fabric_routes.proofs.StartLemmas.{sender_is}
use Rattle.fabric_lane_tables.specs.Lanes.{lanes_of}
use Rattle.fabric_lane_tables.specs.Levels.{levels_of}
use Rattle.fabric_lane_counts.proofs.counts.LaneCounts.add_told.Goals as goal

pub returns-then-not-has_bit-clause-counts : goal.returns-then-not-has_bit-clause-counts
returns-then-not-has_bit-clause-counts c = λ same sends are.
    without_counts c.args.routing.now.fabric.now (tables_of c.args.routing.now.cells.now) (lanes_of c.args.routing.now.lanes.now) c.args.routing.now.traffic (levels_of c.args.routing.now.levels.now) c.args.route.lid c.args.self.now c.args.route.source c.args.route.level (end_port c.args.routing.now.fabric.now c.args.routing.now.traffic c.args.route.source (sender_is c.args.routing.now.fabric.now (tables_of c.args.routing.now.cells.now) c.args.routing.now.traffic c.args.route.lid c.args.route.source sends))
    (λ has. absurd (
    let bit : bit_at c.from.result c.from-2.result ≡ 1 = ap (λ (n : ℕ). bit_at n c.from-2.result) (c.from.ensures ∙ sym same) ∙ ap (bit_at (levels_of c.args.routing.now.levels.now c.args.route.source c.args.route.lid)) c.from-2.ensures ∙ has.1 in
    let t = c.has_bit.ensures.1 bit in
    let f = c.if-not-has_bit.true in
    cc)) are

pub returns-clause-counts : goal.returns-clause-counts
returns-clause-counts c = λ same sends are.
    let bit = c.has_bit.ensures.0 c.if-not-has_bit.false in
    let has : bit_at (levels_of c.args.routing.now.levels.now c.args.route.source c.args.route.lid) c.args.route.level ≡ 1 = ap (λ (n : ℕ). bit_at n c.args.route.level) (same ∙ sym c.from.ensures) ∙ ap (bit_at c.from.result) (sym c.from-2.ensures) ∙ bit in
    c.add.ensures.counts (record { sends = sends; has = (c.requires.level, has) })
    (c.with_level.ensures c.args.routing.now.fabric.now (tables_of c.args.routing.now.cells.now) (lanes_of c.args.routing.now.lanes.now) c.args.route.lid c.args.route.start c.requires.ends) are
