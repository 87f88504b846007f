use Rattle.std.proofs.Common.{◌∙◌, sym}
use Rattle.dep_check.proofs.IllegalLemmas.{up_some, up_none}
use Rattle.dep_check.proofs.illegal.leads_up_at.Goals as goal

pub returns-in-Some : goal.returns-in-Some
returns-in-Some c = up_some c.args.graph.now c.args.numbers.now c.args.spot c.in-Some.place c.leads_up.result (sym c.place_in.ensures.place ∙ c.in-Some.is) c.leads_up.ensures

pub returns-in-None : goal.returns-in-None
returns-in-None c = (λ t. absurd (cc), λ up. absurd (up_none c.args.graph.now c.args.numbers.now c.args.spot (sym c.place_in.ensures.place ∙ c.in-None.is) up))
