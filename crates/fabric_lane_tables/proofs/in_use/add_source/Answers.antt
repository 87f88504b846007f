use Rattle.std.proofs.Common.{◌≡◌, ◌*◌, ◌∙◌, arith, subst, ℕ}
use Rattle.fabric_lane_tables.specs.InUse.{AddsLevels, IsUsedTo}
use Rattle.fabric_lane_tables.specs.Levels.{levels_of}
use Rattle.fabric_lane_tables.specs.PathLevels.{told_levels}
use Rattle.fabric_lane_tables.proofs.InUseLemmas.{used_more}
use Rattle.fabric_lane_tables.proofs.in_use.add_source.Goals as goal

pub lids-preserved : goal.lids-preserved
lids-preserved c =
    let room = c.lids.invariant.room in
    let one = c.in_ok-add_levels.ensures.room in
    record {
      room = record { ends = one.ends ∙ room.ends; switches = one.switches ∙ room.switches; blocks = one.blocks ∙ room.blocks };
      added = used_more c.args.fabric.now (levels_of c.args.given.now) (told_levels c.args.rows.now) (told_levels c.lids.rows) (told_levels c.add_levels.new.rows) c.args.source c.lids.lid c.used_at-levels.result c.used_at-levels.ensures c.lids.invariant.added c.in_ok-add_levels.ensures.added;
    }

pub returns-clause-added : goal.returns-clause-added
returns-clause-added c =
    let all : c.lids.lid ≡ 64 * c.args.rows.now.blocks = omega (arith, c.lids-lid-end.ensures.lids) in
    subst (λ (n : ℕ). AddsLevels (told_levels c.args.rows.now) (told_levels c.lids.rows) (IsUsedTo c.args.fabric.now (levels_of c.args.given.now) c.args.source n)) all c.lids.invariant.added
