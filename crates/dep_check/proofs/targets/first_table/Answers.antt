use Rattle.std.proofs.Common.{◌∙◌, sym, refl, Some}
use Rattle.dep_check.proofs.TargetLemmas.{first_none, first_some}
use Rattle.dep_check.proofs.targets.first_table.Goals as goal

pub returns-in-None : goal.returns-in-None
returns-in-None c = λ rows. first_none rows c.args.numbers.now c.args.number c.new.result.items c.place_in.ensures.numbers (sym c.place_in.ensures.place ∙ c.in-None.is) (rw c.new.ensures.items refl)

pub returns-in_ok-table-in-Some : goal.returns-in_ok-table-in-Some
returns-in_ok-table-in-Some c = λ rows. first_some rows c.args.numbers.now c.args.number c.in-Some._place c.in_ok-table-in-Some.table.items (sym c.place_in.ensures.place ∙ c.in-Some.is) (rw c.in_ok-table-in-Some.ensures.items (c.requires rows (Some c.args.number)))
