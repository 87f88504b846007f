use Rattle.std.proofs.lemmas.Bool.{OnTrue_at}
use Rattle.fabric_lane_counts.proofs.KeepLemmas.{switch_more}
use Rattle.fabric_lane_tables.specs.Lanes.{lanes_of}
use Rattle.fabric_lane_counts.proofs.keep.are_switches_kept.Goals as goal

pub switches-preserved : goal.switches-preserved
switches-preserved c = switch_more c.args.fabric.now (lanes_of c.args.lanes.now) c.args.used c.switches.switch c.switches.invariant (OnTrue_at c.if-not-is_kept_at.false c.is_kept_at.ensures)
