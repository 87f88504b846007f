use Rattle.std.proofs.Common.{◌∙◌, sym}
use Rattle.fabric_model.proofs.NewLemmas.{none_alone, none_at}
use Rattle.fabric_model.proofs.fabric.no_owners.Goals as goal

pub returns-clause-count : goal.returns-clause-count
returns-clause-count c = sym c.in_ok-owners.owners.ok.0 ∙ c.in_ok-owners.ensures.len

pub returns-clause-none : goal.returns-clause-none
returns-clause-none c = none_at (49152) c.in_ok-owners.owners.items (c.in_ok-owners.ensures.items_if_clones_equal (none_alone _ (λ x like. absurd like)))
