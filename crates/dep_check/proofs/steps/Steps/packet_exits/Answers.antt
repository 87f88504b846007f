use Rattle.std.proofs.Common.{◌∙◌, refl}
use Rattle.an_base.proofs.PortSetLemmas.{no_bit}
use Rattle.dep_check.proofs.PortLemmas.{bit_of}
use Rattle.dep_check.proofs.StepLemmas.{packet_bit}
use Rattle.dep_check.proofs.steps.Steps.packet_exits.Goals as goal

pub returns-then-spot-to-clause-ports : goal.returns-then-spot-to-clause-ports
returns-then-spot-to-clause-ports c = λ p is. absurd (no_bit 0 p refl is)

pub returns-then-spot-to-clause-steps : goal.returns-then-spot-to-clause-steps
returns-then-spot-to-clause-steps c = λ e b goes. absurd (goes.before c.if-spot-to.true)

pub returns-clause-steps : goal.returns-clause-steps
returns-clause-steps c = let s = c.args.self.now in packet_bit s.wires.items s.exits.items c.args.to c.args.spot c.exits_at.result (rw c.deref.ensures.value at c.exits_at.ensures.exits)

pub returns-then-spot-to-clause-all : goal.returns-then-spot-to-clause-all
returns-then-spot-to-clause-all c = λ e before low has. absurd (before c.if-spot-to.true)

pub returns-clause-all : goal.returns-clause-all
returns-clause-all c = λ e before low has. bit_of c.exits_at.result e ((rw c.deref.ensures.value at c.exits_at.ensures.exits) e low ∙ has)
