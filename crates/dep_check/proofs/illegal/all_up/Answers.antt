use Rattle.std.proofs.Common.{◌≡◌, subst, ℕ, arith}
use Rattle.dep_check.specs.Worst.{AreUpBelow}
use Rattle.dep_check.proofs.IllegalLemmas.{up_more}
use Rattle.dep_check.proofs.illegal.all_up.Goals as goal

pub spots-preserved : goal.spots-preserved
spots-preserved c = rw c.in_ok-push.ensures.items (up_more c.args.graph.now c.args.numbers.now c.spots.place c.spots.up.items c.spot_at.result c.leads_up_at.result c.spots.invariant c.spot_at.ensures.spot c.spot_at.ensures.place c.leads_up_at.ensures)

pub returns : goal.returns
returns c = let all : c.spots.place ≡ 1651 = omega arith in subst (λ (n : ℕ). AreUpBelow c.args.graph.now c.args.numbers.now n c.spots.up.items) all c.spots.invariant
