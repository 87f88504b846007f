use Rattle.std.proofs.Common.{◌≡◌, ap, subst}
use Rattle.fabric_tables.specs.Cells.{tables_of}
use Rattle.fabric_lane_counts.specs.Gone.{HasLane}
use Rattle.fabric_lane_counts.proofs.GoneLemmas.{gone_none, gone_word}
use Rattle.fabric_lane_routes.specs.declared.hop.Exit.TheVariants.{Nowhere, Own, By}
use Rattle.fabric_model.specs.declared.node.Side.TheVariants.{Bare, To, End}
use Rattle.fabric_lane_tables.specs.Lanes.{lanes_of}
use Rattle.fabric_lane_counts.proofs.gone.gone_at.Goals as goal

pub returns-in-Nowhere : goal.returns-in-Nowhere
returns-in-Nowhere c = gone_none c.args.routing.now.fabric.now (tables_of c.args.routing.now.cells.now) (lanes_of c.args.routing.now.lanes.now) c.args.lid c.args.at Nowhere c.in-Nowhere.ensures.exit (λ port side e. absurd (cc))

pub returns-in-Own : goal.returns-in-Own
returns-in-Own c = gone_none c.args.routing.now.fabric.now (tables_of c.args.routing.now.cells.now) (lanes_of c.args.routing.now.lanes.now) c.args.lid c.args.at Own c.in-Own.ensures.exit (λ port side e. absurd (cc))

pub returns-in-Bare : goal.returns-in-Bare
returns-in-Bare c = gone_none c.args.routing.now.fabric.now (tables_of c.args.routing.now.cells.now) (lanes_of c.args.routing.now.lanes.now) c.args.lid c.args.at (By c.in-By.port c.in-By.side) c.in-By.ensures.exit
    (λ port side e has. (let bare = c.in-Bare.is in let s : side ≡ Bare = cc in subst HasLane s has))

pub returns-in-To : goal.returns-in-To
returns-in-To c = gone_word c.args.routing.now.fabric.now (tables_of c.args.routing.now.cells.now) (lanes_of c.args.routing.now.lanes.now) c.args.lid c.args.at (By c.in-By.port c.in-By.side) c.in-By.port (To c.in-To.field-0 c.in-To.field-1) c.gone_by.result c.in-By.ensures.exit (ap (By c.in-By.port) c.in-To.is) tt c.gone_by.ensures

pub returns-in-End : goal.returns-in-End
returns-in-End c = gone_word c.args.routing.now.fabric.now (tables_of c.args.routing.now.cells.now) (lanes_of c.args.routing.now.lanes.now) c.args.lid c.args.at (By c.in-By.port c.in-By.side) c.in-By.port (End c.in-End.field-0) c.gone_by-in-End.result c.in-By.ensures.exit (ap (By c.in-By.port) c.in-End.is) tt c.gone_by-in-End.ensures
