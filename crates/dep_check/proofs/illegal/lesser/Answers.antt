use Rattle.dep_check.proofs.IllegalLemmas.{least_same, least_kept, least_first, least_less}
use Rattle.dep_check.proofs.illegal.lesser.Goals as goal

pub returns-in_default : goal.returns-in_default
returns-in_default c = λ es numbers rows k so_far first. least_same es numbers rows k c.args.best so_far (rw c.in_default.is at first)

pub returns-in_default-best : goal.returns-in_default-best
returns-in_default-best c = λ es numbers rows k so_far first. least_first es numbers rows k c.in-Some.next (rw c.in_default-best.is at so_far) (rw c.in-Some.is at first)

pub returns-then-is_up_to : goal.returns-then-is_up_to
returns-then-is_up_to c = λ es numbers rows k so_far first. least_kept es numbers rows k c.in-Some-best.found c.in-Some.next (c.is_up_to.ensures.0 c.if-is_up_to.true) (rw c.in-Some-best.is at so_far) (rw c.in-Some.is at first)

pub returns-else-is_up_to : goal.returns-else-is_up_to
returns-else-is_up_to c = λ es numbers rows k so_far first. least_less es numbers rows k c.in-Some-best.found c.in-Some.next (λ le. absurd (let t = c.is_up_to.ensures.1 le in let f = c.if-is_up_to.false in cc)) (rw c.in-Some-best.is at so_far) (rw c.in-Some.is at first)
