use Rattle.std.proofs.Common.{◌∙◌, ◌*◌, subst, ℕ}
use Rattle.fabric_model.specs.declared.node.EndPort.TheVariants.{Switch}
use Rattle.fabric_lane_tables.specs.InUse.{AddsLevels, IsUsedTo}
use Rattle.fabric_lane_tables.specs.Levels.{levels_of}
use Rattle.fabric_lane_tables.specs.PathLevels.{told_levels}
use Rattle.fabric_lane_tables.proofs.InUseLemmas.{kind_more}
use Rattle.fabric_lane_tables.proofs.in_use.add_switches.Goals as goal

pub switches-preserved : goal.switches-preserved
switches-preserved c =
    let room = c.switches.invariant.room in
    let one = c.in_ok-add_source.ensures.room in
    let added = subst (λ (n : ℕ). AddsLevels (told_levels c.switches.rows) (told_levels c.add_source.new.rows) (IsUsedTo c.args.fabric.now (levels_of c.args.given.now) (Switch c.switches.switch) (64 * n))) room.blocks c.in_ok-add_source.ensures.added in
    record {
      room = record { ends = one.ends ∙ room.ends; switches = one.switches ∙ room.switches; blocks = one.blocks ∙ room.blocks };
      added = kind_more c.args.fabric.now (levels_of c.args.given.now) (told_levels c.args.rows.now) (told_levels c.switches.rows) (told_levels c.add_source.new.rows) Switch c.switches.switch (64 * c.args.rows.now.blocks) c.switches.invariant.added added;
    }
