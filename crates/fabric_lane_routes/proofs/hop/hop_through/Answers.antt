use Rattle.std.proofs.Common.{◌≡◌, ◌∙◌, ◌≤◌, ap, subst, sym, ℕ}
use Rattle.fabric_model.specs.Fabric.{LeadsWithin, owner_of, switch_count}
use Rattle.fabric_lane_tables.specs.Lanes.{lanes_of}
use Rattle.fabric_lane_routes.specs.declared.hop.Exit.TheVariants.{Nowhere, Own, By}
use Rattle.fabric_lane_routes.specs.LaneExits.{ExitLeadsWithin, IsByLaneLink}
use Rattle.fabric_lane_routes.specs.LaneRoutes.{lane_end_if, lane_hop_over}
use Rattle.fabric_lane_routes.proofs.HopLemmas.{end_link, exit_side, hop_is, side_link}
use Rattle.fabric_lane_routes.proofs.hop.hop_through.Goals as goal

pub returns-in-Nowhere : goal.returns-in-Nowhere
returns-in-Nowhere c = record {
  hop = λ tables is. hop_is c.args.fabric.now (lanes_of c.args.lanes.now) c.args.level c.args.lid c.args.at tables Nowhere (sym c.in-Nowhere.is ∙ is);
  link = tt;
}

pub returns-in-Own : goal.returns-in-Own
returns-in-Own c =
    let end = c.end_of.ensures in
    record {
      hop = λ tables is. end ∙ ap lane_end_if c.ends_at_switch.ensures ∙ hop_is c.args.fabric.now (lanes_of c.args.lanes.now) c.args.level c.args.lid c.args.at tables Own (sym c.in-Own.is ∙ is);
      link = subst (IsByLaneLink c.args.fabric.now (lanes_of c.args.lanes.now) c.args.level c.args.at) (sym end) (end_link c.args.fabric.now (lanes_of c.args.lanes.now) c.args.level c.args.lid c.args.at c.ends_at_switch.result);
    }

pub returns-in-By : goal.returns-in-By
returns-in-By c =
    let lane : c.lane-lane.result ≡ lanes_of c.args.lanes.now c.args.at.switch c.args.at.port c.in-By.port c.args.level = cc in
    let low = subst (λ (n : ℕ). n ≤ 15) lane c.lane-lane.ensures.low in
    let through = c.hop_by_side.ensures ∙ ap (λ (n : ℕ). lane_hop_over (owner_of c.args.fabric.now c.args.lid) c.in-By.port n c.in-By.side) lane in
    let exit = c.requires.exit in
    let within : LeadsWithin (switch_count c.args.fabric.now) c.in-By.side = subst (ExitLeadsWithin (switch_count c.args.fabric.now)) c.in-By.is exit.1 in
    record {
      hop = λ tables is. through ∙ hop_is c.args.fabric.now (lanes_of c.args.lanes.now) c.args.level c.args.lid c.args.at tables (By c.in-By.port c.in-By.side) (sym c.in-By.is ∙ is);
      link = subst (IsByLaneLink c.args.fabric.now (lanes_of c.args.lanes.now) c.args.level c.args.at) (sym through)
          (side_link c.args.fabric.now (lanes_of c.args.lanes.now) c.args.level c.args.lid c.args.at c.in-By.port c.in-By.side
          (exit_side c.args.fabric.now c.args.at.switch exit.0.0 c.in-By.port c.in-By.side (sym exit.0.1 ∙ c.in-By.is)).2 within low);
    }
