use Rattle.std.proofs.lemmas.Bool.{iff_false}
use Rattle.fabric_model.specs.declared.traffic.Traffic.TheVariants.{All}
use Rattle.fabric_routes.proofs.AudienceLemmas.{heard_is, starts_of}
use Rattle.fabric_routes.proofs.audience.sender_start.Goals as goal

pub returns-then-not-is_heard-clause-start : goal.returns-then-not-is_heard-clause-start
returns-then-not-is_heard-clause-start c = λ heard. absurd (iff_false c.is_heard.ensures c.if-not-is_heard.true heard)

pub returns-clause-start : goal.returns-clause-start
returns-clause-start c = starts_of c.args.fabric.now c.args.audience c.args.lid c.args.source c.begins_at.result (c.is_heard.ensures.0 c.if-not-is_heard.false) c.begins_at.ensures.start

pub returns-clause-within : goal.returns-clause-within
returns-clause-within c = c.begins_at.ensures.within All (heard_is c.args.fabric.now c.args.audience c.args.source (c.is_heard.ensures.0 c.if-not-is_heard.false).is_from)
