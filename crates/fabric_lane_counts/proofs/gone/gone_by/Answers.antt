use Rattle.std.proofs.Common.{◌∙◌, ℕ, Option, ap, subst}
use Rattle.fabric_lane_counts.specs.Gone.{AreOnFifteen}
use Rattle.fabric_lane_counts.proofs.GoneLemmas.{no_row, one_row}
use Rattle.fabric_lane_tables.specs.Lanes.{lane_by, told_row}
use Rattle.fabric_lane_counts.proofs.gone.gone_by.Goals as goal

pub returns-in-None : goal.returns-in-None
returns-in-None c =
    let is = c.in-None.ensures ∙ ap (λ (p : ℕ). told_row c.args.lanes.now c.args.at.switch p c.from-2.result) c.from.ensures ∙ ap (λ (p : ℕ). told_row c.args.lanes.now c.args.at.switch c.args.at.port p) c.from-2.ensures in
    subst (λ (o : Option ℕ). AreOnFifteen (λ level. lane_by level o) 65535) is no_row

pub returns-in-Some : goal.returns-in-Some
returns-in-Some c =
    let is = c.in-Some.ensures ∙ ap (λ (p : ℕ). told_row c.args.lanes.now c.args.at.switch p c.from-2.result) c.from.ensures ∙ ap (λ (p : ℕ). told_row c.args.lanes.now c.args.at.switch c.args.at.port p) c.from-2.ensures in
    subst (λ (o : Option ℕ). AreOnFifteen (λ level. lane_by level o) c.on_fifteen.result) is (one_row c.in-Some.row c.on_fifteen.result c.on_fifteen.ensures)
