use Rattle.std.proofs.Common.{sym, eqb}
use Rattle.table_script.proofs.PartLemmas.{split_at, split_none}
use Rattle.table_script.proofs.table_form.first_part.Goals as goal

pub returns-in-Some-clause-parts : goal.returns-in-Some-clause-parts
returns-in-Some-clause-parts c = split_at (λ b. eqb b 47) c.args.text.now c.in-Some.end (sym c.in-Some.ensures)

pub returns-in-None-clause-parts : goal.returns-in-None-clause-parts
returns-in-None-clause-parts c = split_none (λ b. eqb b 47) c.args.text.now (sym c.in-None.ensures)
