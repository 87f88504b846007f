use Rattle.std.proofs.Common.{◌∙◌, sym, ap, refl}
use Rattle.std.proofs.lemmas.Bool.{false≢true}
use Rattle.fabric_model.specs.Fabric.{switch_at}
use Rattle.fabric_routes.proofs.StartLemmas.{starts_nowhere}
use Rattle.fabric_routes.proofs.start.is_cabled.Goals as goal

pub returns-in-Some : goal.returns-in-Some
returns-in-Some c = (λ _. (c.in-Some.field-0.switch, ap switch_at (sym c.cable_of.ensures.cable ∙ c.in-Some.is)), λ _. refl)

pub returns-in-None : goal.returns-in-None
returns-in-None c = (
  λ e. absurd (false≢true e),
  λ (switch, at). absurd (starts_nowhere _ switch (ap switch_at (sym c.cable_of.ensures.cable ∙ c.in-None.is)) at),
)
