use Rattle.std.proofs.Common.{◌<◌, subst, ℕ}
use Rattle.fabric_lane_waves.proofs.gate.gate_of.Goals as goal

pub gate_for-requires-clause-switch : goal.gate_for-requires-clause-switch
gate_for-requires-clause-switch c = subst (λ (n : ℕ). c.in-Some.spot.switch < n) c.args.routing.now.rows (c.in-Some.ensures.within c.args.routing.now.traffic (c.is_source.ensures.0 c.if-not-is_source.false))
