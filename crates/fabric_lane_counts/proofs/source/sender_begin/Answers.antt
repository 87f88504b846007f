use Rattle.std.proofs.lemmas.Bool.{iff_false}
use Rattle.fabric_lane_counts.proofs.PlaceLemmas.{begins_of, heard_is}
use Rattle.fabric_model.specs.declared.traffic.Traffic.TheVariants.{All}
use Rattle.fabric_lane_counts.proofs.source.sender_begin.Goals as goal

pub returns-then-not-is_heard-clause-begin : goal.returns-then-not-is_heard-clause-begin
returns-then-not-is_heard-clause-begin c = λ heard. absurd (iff_false c.is_heard.ensures c.if-not-is_heard.true heard)

pub returns-clause-begin : goal.returns-clause-begin
returns-clause-begin c = begins_of c.args.fabric.now c.args.audience c.args.lid c.args.source c.begin_at.result (c.is_heard.ensures.0 c.if-not-is_heard.false) c.begin_at.ensures.begin

pub returns-clause-within : goal.returns-clause-within
returns-clause-within c =
    c.begin_at.ensures.within All (heard_is c.args.fabric.now c.args.audience c.args.source (c.is_heard.ensures.0 c.if-not-is_heard.false).is_from)
