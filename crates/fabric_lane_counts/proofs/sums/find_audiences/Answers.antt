use Rattle.std.proofs.Common.{◌*◌, ap, subst, ℕ, List, length, arith}
use Rattle.std.proofs.lemmas.List.{length-replicate}
use Rattle.fabric_lane_counts.specs.Sums.{AreAudiencesBelow}
use Rattle.fabric_lane_counts.proofs.SumLemmas.{audiences_more, audiences_none}
use Rattle.fabric_routes.specs.declared.audience.Audience.{Audience}
use Rattle.fabric_routes.specs.declared.audience.Audience.TheVariants.{Nobody}
use Rattle.fabric_lane_counts.proofs.sums.find_audiences.Goals as goal

pub lids-init : goal.lids-init
lids-init c = audiences_none c.args.routing.now c.in_ok-audiences.audiences.items
    (let same = ap (λ (xs : List Audience). length xs) (c.in_ok-audiences.ensures.items_if_clones_equal (λ y e. e)) in
    let size = length-replicate {A = Audience} (64 * c.blocks-lids.result) Nobody in
    let count = c.blocks-lids.ensures.count in
    omega arith)

pub lids-preserved : goal.lids-preserved
lids-preserved c = audiences_more c.args.routing.now c.lids.lid c.lids.audiences.items c.audience_of.result (omega arith) c.audience_of.ensures c.lids.invariant

pub returns : goal.returns
returns c = subst (λ (n : ℕ). AreAudiencesBelow c.args.routing.now n c.lids.audiences.items) (let count = c.blocks-lids.ensures.count in omega arith) c.lids.invariant
