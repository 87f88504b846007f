use Rattle.std.proofs.Common.{arith, subst}
use Rattle.std.proofs.lemmas.Bool.{OnTrue_at}
use Rattle.fabric_lane_counts.specs.Keep.{IsCableKept}
use Rattle.fabric_lane_counts.proofs.KeepLemmas.{cable_more, cables_all}
use Rattle.fabric_lane_tables.specs.Lanes.{lanes_of}
use Rattle.fabric_lane_counts.proofs.keep.are_cables_kept.Goals as goal

pub ends-preserved : goal.ends-preserved
ends-preserved c = cable_more c.args.fabric.now (lanes_of c.args.lanes.now) c.args.used c.ends.end c.ends.invariant
    (subst (IsCableKept c.args.fabric.now (lanes_of c.args.lanes.now) c.args.used) c.cable_of.ensures.cable (OnTrue_at c.if-not-is_cable_kept.false c.is_cable_kept.ensures))

pub returns : goal.returns
returns c = cables_all c.args.fabric.now (lanes_of c.args.lanes.now) c.args.used c.ends.end (omega arith) c.ends.invariant
