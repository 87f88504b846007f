use Rattle.std.proofs.Common.{◌∙◌, sym, length, refl, arith}
use Rattle.std.proofs.lemmas.Bool.{false≢true, iff_false}
use Rattle.fabric_tables.specs.Cells.{tables_of}
use Rattle.fabric_lane_tables.specs.Lanes.{lanes_of}
use Rattle.fabric_lane_routes.specs.LaneRoutes.{lane_hop}
use Rattle.fabric_lane_witness.specs.Witness.{lane_channel_of}
use Rattle.fabric_lane_witness.proofs.TakeLemmas.{same_next}
use Rattle.fabric_lane_witness.proofs.WalkLemmas.{again, begun, ended, fewer_new, found, further, leaves, leaves_not}
use Rattle.fabric_lane_witness.proofs.walk.goes_by.Goals as goal

pub hops-init : goal.hops-init
hops-init c = record {
  low = c.requires.start;
  followed = begun (lane_hop c.args.routing.now.fabric.now (tables_of c.args.routing.now.cells.now) (lanes_of c.args.routing.now.lanes.now) c.args.level c.args.lid) (lane_channel_of c.args.channel) c.args.start (length c.args.marks.now) c.clear.new.marks c.clear.ensures;
}

pub hops-preserved : goal.hops-preserved
hops-preserved c = record {
  low = c.in-On.ensures.link.within;
  followed = further (lane_hop c.args.routing.now.fabric.now (tables_of c.args.routing.now.cells.now) (lanes_of c.args.routing.now.lanes.now) c.args.level c.args.lid) (lane_channel_of c.args.channel) c.args.start c.hops.at c.hops.marks c.hops.invariant.followed c.in-On.port c.in-On.lane c.in-On.next (sym c.in-On.ensures.hop) (leaves_not (lane_hop c.args.routing.now.fabric.now (tables_of c.args.routing.now.cells.now) (lanes_of c.args.routing.now.lanes.now) c.args.level c.args.lid) (lane_channel_of c.args.channel) c.hops.at c.in-On.next c.in-On.port c.in-On.lane (sym c.in-On.ensures.hop) (iff_false c.leaves_by.ensures c.if-leaves_by.false));
}

pub hops-smaller : goal.hops-smaller
hops-smaller c = fewer_new c.hops.marks c.hops.at.switch (omega arith) c.if-marks-at.false

pub returns-in_default : goal.returns-in_default
returns-in_default c = (
  λ e. absurd (false≢true e),
  λ by. absurd (ended (lane_hop c.args.routing.now.fabric.now (tables_of c.args.routing.now.cells.now) (lanes_of c.args.routing.now.lanes.now) c.args.level c.args.lid) (lane_channel_of c.args.channel) c.args.start c.hops.at c.hops.marks c.hops.invariant.followed (λ port lane next on. c.in_default.not-On port lane next (c.lane_hop_at.ensures.hop ∙ on)) by),
)

pub returns-then-leaves_by : goal.returns-then-leaves_by
returns-then-leaves_by c = (
  λ e. found (lane_hop c.args.routing.now.fabric.now (tables_of c.args.routing.now.cells.now) (lanes_of c.args.routing.now.lanes.now) c.args.level c.args.lid) (lane_channel_of c.args.channel) c.args.start c.hops.at c.hops.marks c.hops.invariant.followed (leaves (lane_hop c.args.routing.now.fabric.now (tables_of c.args.routing.now.cells.now) (lanes_of c.args.routing.now.lanes.now) c.args.level c.args.lid) (lane_channel_of c.args.channel) c.hops.at c.in-On.next c.in-On.port c.in-On.lane (sym c.in-On.ensures.hop) (c.leaves_by.ensures.0 c.if-leaves_by.true)),
  λ by. refl,
)

pub returns-then-marks-at : goal.returns-then-marks-at
returns-then-marks-at c = (
  λ e. absurd (false≢true e),
  λ by. absurd (again (lane_hop c.args.routing.now.fabric.now (tables_of c.args.routing.now.cells.now) (lanes_of c.args.routing.now.lanes.now) c.args.level c.args.lid) (lane_channel_of c.args.channel) c.args.start c.hops.at c.hops.marks c.hops.invariant.followed c.in-On.port c.in-On.lane c.in-On.next (sym c.in-On.ensures.hop) (leaves_not (lane_hop c.args.routing.now.fabric.now (tables_of c.args.routing.now.cells.now) (lanes_of c.args.routing.now.lanes.now) c.args.level c.args.lid) (lane_channel_of c.args.channel) c.hops.at c.in-On.next c.in-On.port c.in-On.lane (sym c.in-On.ensures.hop) (iff_false c.leaves_by.ensures c.if-leaves_by.false)) (same_next c.args.routing.now.fabric.now (tables_of c.args.routing.now.cells.now) (lanes_of c.args.routing.now.lanes.now) c.args.lid c.args.level) c.if-marks-at.true by),
)
