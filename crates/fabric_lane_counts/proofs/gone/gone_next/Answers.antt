use Rattle.std.proofs.Common.{◌∙◌, ap, sym}
use Rattle.fabric_tables.specs.Cells.{tables_of}
use Rattle.fabric_lane_counts.proofs.GoneLemmas.{next_word}
use Rattle.fabric_lane_routes.specs.declared.hop.Exit.TheVariants.{By}
use Rattle.fabric_lane_tables.specs.Lanes.{lanes_of}
use Rattle.fabric_lane_counts.proofs.gone.gone_next.Goals as goal

pub returns-in-To : goal.returns-in-To
returns-in-To c = next_word c.args.routing.now.fabric.now (tables_of c.args.routing.now.cells.now) (lanes_of c.args.routing.now.lanes.now) c.args.lid c.args.gone.now c.args.switch (record { switch = c.in-To.next; port = c.in-To.entry }) c.gone_at.result
    (c.in-By.field-0, sym c.in-By.ensures.exit ∙ ap (By c.in-By.field-0) c.in-To.is) c.gone_at.ensures
