use Rattle.std.proofs.Common.{◌∙◌, sym}
use Rattle.fabric_model.proofs.NewLemmas.{none_alone, none_at}
use Rattle.fabric_model.proofs.fabric.no_cables.Goals as goal

pub returns-clause-count : goal.returns-clause-count
returns-clause-count c = sym c.in_ok-cables.cables.ok.0 ∙ c.in_ok-cables.ensures.len

pub returns-clause-none : goal.returns-clause-none
returns-clause-none c = none_at (c.args.count) c.in_ok-cables.cables.items (c.in_ok-cables.ensures.items_if_clones_equal (none_alone _ (λ x like. absurd like)))
