use Rattle.std.proofs.Common.{◌≡◌, ◌∙◌, ◌*◌, sym, subst, arith, length, ℕ}
use Rattle.fabric_model.specs.declared.node.EndPort.TheVariants.{Host, Switch}
use Rattle.fabric_model.specs.Fabric.{switch_count}
use Rattle.fabric_lane_tables.specs.InUse.{AddsLevels, IsUsedBelow}
use Rattle.fabric_lane_tables.specs.Levels.{levels_of}
use Rattle.fabric_lane_tables.specs.PathLevels.{told_levels}
use Rattle.fabric_lane_tables.proofs.InUseLemmas.{all_used}
use Rattle.fabric_lane_tables.proofs.in_use.rows_of.Goals as goal

pub returns-clause-rows : goal.returns-clause-rows
returns-clause-rows c =
    let fabric = c.args.fabric.now in
    let given = levels_of c.args.given.now in
    let rows = c.add_switches.new.rows in
    let some = c.add_ends.new.rows in
    let one = c.in_ok-add_ends.ensures.room in
    let other = c.in_ok-add_switches.ensures.room in
    let blocks = other.blocks ∙ one.blocks in
    let ends : rows.ends ≡ length fabric.cables = omega (arith, other.ends, one.ends, c.in_ok-rows.ensures.ends, c.ends.ensures) in
    let switches : rows.switches ≡ switch_count fabric = omega (arith, other.switches, one.switches, c.in_ok-rows.ensures.switches, c.switches.ensures.count) in
    all_used fabric given rows ends switches (told_levels c.in_ok-rows.rows) (told_levels some) c.in_ok-rows.ensures.none
    (subst (λ (n : ℕ). AddsLevels (told_levels c.in_ok-rows.rows) (told_levels some) (IsUsedBelow fabric given Host (length fabric.cables) (64 * n))) (sym blocks) c.in_ok-add_ends.ensures.added)
    (subst (λ (n : ℕ). AddsLevels (told_levels some) (told_levels rows) (IsUsedBelow fabric given Switch (switch_count fabric) (64 * n))) (sym other.blocks) c.in_ok-add_switches.ensures.added)
