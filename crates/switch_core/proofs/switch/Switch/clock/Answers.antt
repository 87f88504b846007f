use Rattle.std.proofs.Common.{sym, arith, subst, ℕ, ◌+◌}
use Rattle.switch_core.specs.Stands.{HasState}
use Rattle.switch_core.proofs.SoundLemmas.{most_counted}
use Rattle.switch_core.proofs.StateLemmas.{clock_more, clock_spent}
use Rattle.switch_core.proofs.switch.Switch.clock.Goals as goal

pub invariant_of-self : goal.invariant_of-self
invariant_of-self c = (c.self.invariant.0, c.self.invariant.1, omega (arith, c.self.invariant.2), clock_spent c.self.inside.works c.self.inside.carried c.args.now c.args.samples.now c.self.inside.control c.clock.new.self c.out.inside.frames c.clock.new.out c.in-Ok-true.field-0 c.self.invariant.3 c.in-Ok-true.ensures.clocks)

pub invariant_of-self-in-Ok-false : goal.invariant_of-self-in-Ok-false
invariant_of-self-in-Ok-false c =
    let v = c.self.inside in
    let most = most_counted v.control.epoch c.clock.new.self.epoch v.carried 0 in
    (c.self.invariant.0, c.self.invariant.1, omega (arith, c.self.invariant.2, most, c.counted-self-inside.ensures), subst (λ (n : ℕ). HasState (v.works + 1) n c.clock.new.self) (sym c.counted-self-inside.ensures) (clock_more v.works v.carried c.args.now c.args.samples.now v.control c.clock.new.self c.out.inside.frames c.clock.new.out c.in-Ok-false.field-0 c.self.invariant.3 c.in-Ok-false.ensures.clocks))
