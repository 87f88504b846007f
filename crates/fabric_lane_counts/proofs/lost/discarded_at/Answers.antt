use Rattle.std.proofs.Common.{◌∙◌, ap, sym, subst, ℕ, arith}
use Rattle.fabric_tables.specs.Cells.{tables_of}
use Rattle.fabric_lane_counts.proofs.LostLemmas.{after_all, goes_no_further, not_elsewhere, walk_more}
use Rattle.fabric_lane_routes.specs.LaneRoutes.{LaneWalksBy, lane_hop}
use Rattle.fabric_lane_routes.specs.Routing.{hop_by}
use Rattle.fabric_lane_tables.specs.Lanes.{lanes_of}
use Rattle.fabric_lane_counts.proofs.lost.discarded_at.Goals as goal

pub hops-preserved : goal.hops-preserved
hops-preserved c = record {
  low = c.in-On.ensures.link.within;
  comes = walk_more c.args.routing.now.fabric.now (tables_of c.args.routing.now.cells.now) (lanes_of c.args.routing.now.lanes.now) c.args.route.level c.args.route.lid c.args.route.start c.hops._hops c.hops.at c.in-On.next c.in-On.field-0 c.in-On.field-1 c.hops.invariant.comes (ap (λ (n : ℕ). lane_hop c.args.routing.now.fabric.now (tables_of c.args.routing.now.cells.now) (lanes_of c.args.routing.now.lanes.now) n c.args.route.lid c.hops.at) (sym c.from.ensures) ∙ sym c.lane_hop_at.ensures.hop ∙ c.in-On.is);
}

pub returns-in-Arrive : goal.returns-in-Arrive
returns-in-Arrive c = λ gone.
    let is = sym c.lane_hop_at.ensures.hop ∙ c.in-Arrive.is in
    absurd (not_elsewhere c.args.routing.now.fabric.now (tables_of c.args.routing.now.cells.now) (lanes_of c.args.routing.now.lanes.now) c.args.route.level c.args.route.lid c.args.route.start c.hops._hops c.hops.at c.hops.invariant.comes (λ port lane next on. absurd (cc)) (λ discard. absurd (cc)) gone)

pub returns-in-Stop : goal.returns-in-Stop
returns-in-Stop c = λ gone.
    let is = sym c.lane_hop_at.ensures.hop ∙ c.in-Stop.is in
    absurd (not_elsewhere c.args.routing.now.fabric.now (tables_of c.args.routing.now.cells.now) (lanes_of c.args.routing.now.lanes.now) c.args.route.level c.args.route.lid c.args.route.start c.hops._hops c.hops.at c.hops.invariant.comes (λ port lane next on. absurd (cc)) (λ discard. absurd (cc)) gone)

pub returns-in-Discard : goal.returns-in-Discard
returns-in-Discard c = λ gone. goes_no_further c.args.routing.now.fabric.now (tables_of c.args.routing.now.cells.now) (lanes_of c.args.routing.now.lanes.now) c.args.route.level c.args.route.lid c.args.route.start c.hops._hops c.hops.at c.hops.invariant.comes (ap (λ (n : ℕ). lane_hop c.args.routing.now.fabric.now (tables_of c.args.routing.now.cells.now) (lanes_of c.args.routing.now.lanes.now) n c.args.route.lid c.hops.at) (sym c.from.ensures) ∙ sym c.lane_hop_at.ensures.hop ∙ c.in-Discard.is)

pub returns : goal.returns
returns c = λ gone. after_all c.args.routing.now.fabric.now (tables_of c.args.routing.now.cells.now) (lanes_of c.args.routing.now.lanes.now) c.args.route.level c.args.route.lid c.args.route.start c.switches-hops-end.ensures.fabric c.requires.start c.hops.at
    (subst (λ (n : ℕ). LaneWalksBy (hop_by c.args.routing.now c.args.route.level c.args.route.lid) n c.args.route.start c.hops.at) (omega arith) c.hops.invariant.comes) gone
