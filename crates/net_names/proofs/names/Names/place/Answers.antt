use Rattle.std.proofs.Common.{◌∙◌}
use Rattle.net_names.proofs.NameLemmas.{place-map}
use Rattle.net_names.proofs.names.Names.place.Goals as goal

pub returns-clause-place : goal.returns-clause-place
returns-clause-place c = rw (← c.self.view_is) (c.get_index_of.ensures.index ∙ place-map (λ t. t.items) c.self.inside.texts.keys c.args.name.now)
