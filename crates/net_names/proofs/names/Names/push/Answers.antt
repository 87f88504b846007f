use Rattle.net_names.proofs.NameLemmas.{names_push}
use Rattle.net_names.proofs.names.Names.push.Goals as goal

pub returns-clause-ok : goal.returns-clause-ok
returns-clause-ok c = rw (← c.self.view_is) (names_push (λ t. t.items) c.self.inside.texts.keys c.insert.new.self.keys c.into_vec.result c.args.name c.into_vec.ensures (rw (← c.self.view_is) at c.requires) c.in_ok-insert.ensures.keys)
