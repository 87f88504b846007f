use Rattle.std.proofs.Common.{◌∙◌, ◌≤◌, sym, arith, ◌<◌}
use Rattle.std.proofs.lemmas.Nat.Bits.{shr_and_one}
use Rattle.fabric_lane_tables.specs.PathLevels.{told_levels}
use Rattle.fabric_lane_tables.proofs.InUseLemmas.{low_all, low_kept, low_more}
use Rattle.fabric_lane_tables.proofs.in_use.add_levels.Goals as goal
use Rattle.fabric_lane_tables.proofs.in_use.add_levels.Goals.{then-levels-level-eq1+in_ok-add, else-levels-level-eq1}

pub returns-then-levels-level-eq0-clause-added : goal.returns-then-levels-level-eq0-clause-added
returns-then-levels-level-eq0-clause-added c =
    let fits : c.levels.level ≤ 16 = omega arith in
    low_all (told_levels c.args.rows.now) (told_levels c.levels.rows) c.args.source c.args.lid c.args.levels c.levels.level fits c.if-levels-level-eq0.true c.levels.invariant.added

pub levels-preserved : goal.levels-preserved
levels-preserved c = elim c.if-levels-level-eq1.branch [
  | then-levels-level-eq1+in_ok-add w ↦ (
      let fits : c.levels.level < 16 = omega arith in
      let room = c.levels.invariant.room in
      rw w.rows-is (record {
        room = record { ends = w.in_ok-add.ensures.ends ∙ room.ends; switches = w.in_ok-add.ensures.switches ∙ room.switches; blocks = w.in_ok-add.ensures.blocks ∙ room.blocks };
        added = low_more (told_levels c.args.rows.now) (told_levels c.levels.rows) (told_levels w.add.new.self) c.args.source c.args.lid c.args.levels c.levels.level fits (sym (shr_and_one c.args.levels c.levels.level) ∙ w.if-levels-level-eq1.true) c.levels.invariant.added w.in_ok-add.ensures.added;
      }))
  | else-levels-level-eq1 w ↦
      rw w.rows-is (record {
        room = c.levels.invariant.room;
        added = low_kept (told_levels c.args.rows.now) (told_levels c.levels.rows) c.args.source c.args.lid c.args.levels c.levels.level (λ bit. w.if-levels-level-eq1.false (shr_and_one c.args.levels c.levels.level ∙ bit)) c.levels.invariant.added;
      })
]
