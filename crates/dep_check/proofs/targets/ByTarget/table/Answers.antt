use Rattle.std.proofs.Common.{◌≡◌, ◌∙◌, subst, ℕ, get_or}
use Rattle.dep_check.proofs.TargetLemmas.{table_read}
use Rattle.dep_check.proofs.targets.ByTarget.table.Goals as goal

pub returns : goal.returns
returns c = c.as_slice.ensures.value ∙ table_read c.args.self.now.tables.items c.args.number c.index.result.now c.requires (subst (λ (n : ℕ). c.index.result.now ≡ get_or c.args.self.now.tables.items n c.index.result.now) c.from.ensures c.index.ensures)
