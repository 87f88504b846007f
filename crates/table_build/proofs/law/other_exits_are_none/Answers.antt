use Rattle.std.proofs.Common.{◌∙◌, sym, subst, ℕ}
use Rattle.table_build.specs.Exits.{IsEntry}
use Rattle.table_build.proofs.TableLaws.{no_row}
use Rattle.table_build.proofs.law.other_exits_are_none.Goals as goal

pub returns-clause-entry : goal.returns-clause-entry
returns-clause-entry c = λ es numbers any x entry n t table none. no_row es numbers any x entry n t table (λ r row at to. none (subst (λ (e : ℕ). IsEntry es x e) at row.entry))

pub returns-clause-number : goal.returns-clause-number
returns-clause-number c = λ es numbers any x entry n t table none. no_row es numbers any x entry n t table (λ r row at to. none row.to row.to_low row.to_other (sym to ∙ row.number))
