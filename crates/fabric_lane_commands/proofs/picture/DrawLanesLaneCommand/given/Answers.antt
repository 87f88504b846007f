use Rattle.std.proofs.Common.{subst, sym, ℕ}
use Rattle.fabric_tables.specs.Cells.{tables_of}
use Rattle.fabric_lane_tables.specs.Lanes.{lanes_of}
use Rattle.fabric_lane_tables.specs.InUse.{levels_in_use}
use Rattle.fabric_lane_tables.specs.Levels.{levels_of}
use Rattle.fabric_lane_commands.specs.LaneJudged.{IsLaneEndOf}
use Rattle.fabric_lane_commands.proofs.picture.DrawLanesLaneCommand.given.Goals as goal

pub returns : goal.returns
returns c =
    let input = c.args.input.now in
    let fabric = input.topology.fabric in
    let tables = tables_of input.tables.cells in
    let lanes = lanes_of input.lanes in
    let levels = levels_in_use input.levels in
    let given = levels_of input.levels.given in
    let traffic = c.args.self.now.traffic in
    record {
      loop = c.cycle_of.result.now;
      is_loop = c.cycle_of.ensures fabric tables lanes traffic levels input.lanes.count c.in_ok-judged.ensures;
      picture = c.in_ok-picture.picture;
      shows = c.in_ok-picture.ensures.picture;
      ends = subst (λ (n : ℕ). IsLaneEndOf fabric tables lanes traffic levels given n c.status_of.result) (sym c.in_ok-picture.ensures.lanes) (c.status_of.ensures fabric tables lanes traffic levels given input.lanes.count c.in_ok-judged.ensures c.mute_in-mute.ensures);
      says = c.in_ok-print_picture.ensures;
    }
