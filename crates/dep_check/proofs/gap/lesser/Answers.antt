use Rattle.dep_check.proofs.GapLemmas.{pair_same, pair_kept, pair_first, pair_less}
use Rattle.dep_check.proofs.gap.lesser.Goals as goal

pub returns-in_default : goal.returns-in_default
returns-in_default c = λ far numbers rows so_far first. pair_same far numbers rows c.args.to c.args.best so_far (rw c.in_default.is at first)

pub returns-in-Some-best : goal.returns-in-Some-best
returns-in-Some-best c = λ far numbers rows so_far first. pair_kept far numbers rows c.args.to c.in-Some-best.pair c.in-Some.from c.if-pair-from.true (rw c.in-Some-best.is at so_far) (rw c.in-Some.is at first)

pub returns-in_default-best : goal.returns-in_default-best
returns-in_default-best c = λ far numbers rows so_far first. pair_less far numbers rows c.args.to c.in-Some-best.pair c.in-Some.from c.if-pair-from.false (rw c.in-Some-best.is at so_far) (rw c.in-Some.is at first)

pub returns-in_default-best-2 : goal.returns-in_default-best-2
returns-in_default-best-2 c = λ far numbers rows so_far first. pair_first far numbers rows c.args.to c.in-Some.from (rw c.in_default-best.is at so_far) (rw c.in-Some.is at first)
