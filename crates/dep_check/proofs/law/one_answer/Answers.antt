use Rattle.dep_check.proofs.OneAnswer.{one_ranks, not_refused, one_refusal}
use Rattle.dep_check.proofs.law.one_answer.Goals as goal

pub returns-clause-passed : goal.returns-clause-passed
returns-clause-passed c = λ es numbers rows ranks refusal passes is. not_refused es numbers rows ranks refusal passes is

pub returns-clause-refused : goal.returns-clause-refused
returns-clause-refused c = λ es numbers rows a b x y. one_refusal es numbers rows a b x y

pub returns-clause-ranked : goal.returns-clause-ranked
returns-clause-ranked c = λ es numbers rows ranks others d a b. one_ranks es numbers rows ranks others d a b
