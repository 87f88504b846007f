use Rattle.std.proofs.Common.{◌∙◌, sym, refl}
use Rattle.an_base.proofs.PortSetLemmas.{no_bit}
use Rattle.dep_check.proofs.StepLemmas.{channel_bit, no_channel}
use Rattle.dep_check.proofs.steps.Steps.channel_exits.Goals as goal

pub returns-in-Some-clause-steps : goal.returns-in-Some-clause-steps
returns-in-Some-clause-steps c = let s = c.args.self.now in channel_bit s.wires.items s.exits.items c.args.channel c.in-Some.far c.exits_at.result (sym c.far.ensures.far ∙ c.in-Some.is) (rw c.deref.ensures.value at c.exits_at.ensures.exits)

pub returns-in-None-clause-ports : goal.returns-in-None-clause-ports
returns-in-None-clause-ports c = λ p is. absurd (no_bit 0 p refl is)

pub returns-in-None-clause-steps : goal.returns-in-None-clause-steps
returns-in-None-clause-steps c = λ e b d. let s = c.args.self.now in absurd (no_channel s.wires.items s.exits.items c.args.channel (sym c.far.ensures.far ∙ c.in-None.is) e b d)
