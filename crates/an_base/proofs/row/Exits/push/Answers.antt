use Rattle.std.proofs.Common.{◌∙◌, ◌<◌, ℕ, List, [], ◌∷◌, ◌++◌, ap, subst, sym}
use Rattle.std.specs.Prelude.{All}
use Rattle.an_base.proofs.PortSetLemmas.{added_alone, added_last}
use Rattle.an_base.proofs.row.Exits.push.Goals as goal

pub invariant_of-self : goal.invariant_of-self
invariant_of-self c = added_alone c.self.inside.set c.args.port c.self.invariant c.requires.least c.requires.most

pub returns : goal.returns
returns c =
    let port = c.args.port in
    added_last c.self.inside.set port c.requires.least c.requires.most (subst (λ (ports : List ℕ). All (λ p. p < port) ports) (sym c.self.view_is) c.requires.rising)
    ∙ ap (λ (ports : List ℕ). ports ++ port ∷ []) c.self.view_is
