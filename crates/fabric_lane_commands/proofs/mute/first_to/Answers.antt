use Rattle.std.proofs.Common.{◌+◌, length}
use Rattle.fabric_model.specs.declared.node.EndPort.TheVariants.{Host, Switch}
use Rattle.fabric_lane_tables.specs.Levels.{levels_of}
use Rattle.fabric_lane_commands.proofs.SilenceLemmas.{host_below, least_more, switch_below}
use Rattle.fabric_lane_commands.proofs.mute.first_to.Goals as goal

pub ends-preserved : goal.ends-preserved
ends-preserved c =
    let fabric = c.args.fabric.now in
    let levels = levels_of c.args.levels.now in
    least_more fabric levels c.args.audience c.args.lid c.ends.end 0 (c.ends.end + 1) 0 c.ends.first (Host c.ends.end) c.lesser-first.result c.ends.invariant c.lesser-first.ensures (host_below fabric levels c.args.audience c.args.lid c.ends.end 0)

pub switches-preserved : goal.switches-preserved
switches-preserved c =
    let fabric = c.args.fabric.now in
    let levels = levels_of c.args.levels.now in
    let ends = length fabric.cables in
    least_more fabric levels c.args.audience c.args.lid ends c.switches.switch ends (c.switches.switch + 1) c.switches.first (Switch c.switches.switch) c.lesser-first-in-switches.result c.switches.invariant c.lesser-first-in-switches.ensures (switch_below fabric levels c.args.audience c.args.lid ends c.switches.switch)
