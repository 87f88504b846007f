use Rattle.std.proofs.Common.{◌∙◌, ap, sym, subst}
use Rattle.std.specs.Int.{bit_at}
use Rattle.fabric_lane_counts.proofs.EndLemmas.{ends_if}
use Rattle.fabric_lane_routes.specs.LaneRoutes.{LaneEndsAs, lane_hop}
use Rattle.fabric_lane_counts.proofs.ends.Ends.with_level.Goals as goal

pub returns : goal.returns
returns c = λ fabric tables lanes lid start are.
    subst (LaneEndsAs (lane_hop fabric tables lanes c.args.level lid) start) (sym c.on_lanes.ensures)
    (ends_if fabric tables lanes c.args.level lid start c.has_bit.result c.args.self.outcome
    (λ is. ((are.gone c.args.level).0 (ap (bit_at c.args.self.gone) (sym c.from.ensures) ∙ c.has_bit.ensures.0 is)).1)
    (λ gone. c.has_bit.ensures.1 (ap (bit_at c.args.self.gone) c.from.ensures ∙ (are.gone c.args.level).1 (c.requires, gone)))
    are.outcome)
