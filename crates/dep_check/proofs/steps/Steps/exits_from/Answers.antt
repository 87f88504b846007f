use Rattle.std.proofs.Common.{◌∙◌, Option, ℕ, subst, sym}
use Rattle.std.proofs.lemmas.Option.{same_Some}
use Rattle.dep_check.specs.Search.{IsStepOf}
use Rattle.dep_check.proofs.steps.Steps.exits_from.Goals as goal

pub returns-in-None-clause-steps : goal.returns-in-None-clause-steps
returns-in-None-clause-steps c = λ e b step. let s = c.args.self.now in c.channel_exits.ensures.steps e b (subst (λ (t : Option ℕ). IsStepOf s.wires.items s.exits.items t c.args.spot e b) c.in-None.is step)

pub returns-in-Some-clause-steps : goal.returns-in-Some-clause-steps
returns-in-Some-clause-steps c = λ e b step. let s = c.args.self.now in c.packet_exits.ensures.steps e b (subst (λ (t : Option ℕ). IsStepOf s.wires.items s.exits.items t c.args.spot e b) c.in-Some.is step)

pub returns-in-None-clause-all : goal.returns-in-None-clause-all
returns-in-None-clause-all c = λ to e is before low has. absurd (let none = c.in-None.is in cc)

pub returns-in-Some-clause-all : goal.returns-in-Some-clause-all
returns-in-Some-clause-all c = λ to e is before low has. c.packet_exits.ensures.all e (λ same. before (same ∙ sym (same_Some to c.in-Some.to (sym is ∙ c.in-Some.is)))) low has
