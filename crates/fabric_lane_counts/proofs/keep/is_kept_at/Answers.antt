use Rattle.std.proofs.Common.{arith}
use Rattle.std.proofs.lemmas.Bool.{OnTrue_at}
use Rattle.fabric_lane_counts.proofs.KeepLemmas.{kept_all, kept_more}
use Rattle.fabric_lane_tables.specs.Lanes.{lanes_of}
use Rattle.fabric_lane_counts.proofs.keep.is_kept_at.Goals as goal

pub ports-preserved : goal.ports-preserved
ports-preserved c = kept_more c.args.fabric.now (lanes_of c.args.lanes.now) c.args.used c.args.at c.ports.port c.ports.invariant (OnTrue_at c.if-not-is_kept_by.false c.is_kept_by.ensures)

pub returns : goal.returns
returns c = kept_all c.args.fabric.now (lanes_of c.args.lanes.now) c.args.used c.args.at c.ports.port (omega arith) c.ports.invariant
