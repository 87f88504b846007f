use Rattle.std.proofs.Common.{◌≡◌, ◌∙◌, ◌*◌, ℕ, ap, arith, subst, sym}
use Rattle.std.proofs.lemmas.Bool.{OnTrue_at}
use Rattle.fabric_lane_counts.specs.Keep.{IsSideKept}
use Rattle.fabric_lane_counts.proofs.KeepLemmas.{side_more, sides_all}
use Rattle.fabric_model.specs.Fabric.{switch_count}
use Rattle.fabric_lane_tables.specs.Lanes.{lanes_of}
use Rattle.fabric_lane_counts.proofs.keep.are_links_kept.Goals as goal

pub places-preserved : goal.places-preserved
places-preserved c = side_more c.args.fabric.now (lanes_of c.args.lanes.now) c.args.used c.places.place c.places.invariant
    (subst (IsSideKept c.args.fabric.now (lanes_of c.args.lanes.now) c.args.used) c.side_at.ensures.side (OnTrue_at c.if-not-is_side_kept.false c.is_side_kept.ensures))

pub returns-clause-kept : goal.returns-clause-kept
returns-clause-kept c = sides_all c.args.fabric.now (lanes_of c.args.lanes.now) c.args.used c.places.place
    (let all : switch_count c.args.fabric.now * c.args.fabric.now.most ≡ c.switches.result * c.most.result = ap (λ (n : ℕ). n * c.args.fabric.now.most) (sym c.switches.ensures.count) ∙ ap (λ (n : ℕ). c.switches.result * n) (sym c.most.ensures.most) in omega arith) c.places.invariant
