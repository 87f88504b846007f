use Rattle.std.proofs.Common.{◌≡◌, sym, Some, None, Option, ℕ, subst}
use Rattle.dep_check.specs.Search.{IsStepOf}
use Rattle.dep_check.proofs.StepLemmas.{if_spot}
use Rattle.dep_check.proofs.LevelLemmas.{step_spot_of}
use Rattle.dep_check.proofs.steps.Steps.next.Goals as goal

pub returns-in-None-clause-spot : goal.returns-in-None-clause-spot
returns-in-None-clause-spot c = let s = c.args.self.now in if_spot c.next_channel.result (λ b e. step_spot_of s.wires.items s.exits.items None c.args.spot c.args.exit b s.links.within ((c.next_channel.ensures b).0 e))

pub returns-in-Some-clause-step : goal.returns-in-Some-clause-step
returns-in-Some-clause-step c = λ b. let s = c.args.self.now in subst (λ (t : Option ℕ). (c.next_entry.result ≡ Some b → IsStepOf s.wires.items s.exits.items t c.args.spot c.args.exit b) × (IsStepOf s.wires.items s.exits.items t c.args.spot c.args.exit b → c.next_entry.result ≡ Some b)) (sym c.in-Some.is) (c.next_entry.ensures b)

pub returns-in-Some-clause-spot : goal.returns-in-Some-clause-spot
returns-in-Some-clause-spot c = let s = c.args.self.now in if_spot c.next_entry.result (λ b e. step_spot_of s.wires.items s.exits.items (Some c.in-Some.to) c.args.spot c.args.exit b s.links.within ((c.next_entry.ensures b).0 e))
