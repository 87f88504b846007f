use Rattle.std.proofs.Common.{◌≡◌, ◌∙◌, ◌*◌, ap, ℕ, arith, get_or, length-set}
use Rattle.fabric_model.specs.declared.node.Side.TheVariants.{Bare}
use Rattle.fabric_model.specs.Fabric.{switch_count}
use Rattle.fabric_routes.specs.Finding.{base_of}
use Rattle.fabric_routes.proofs.ChannelLemmas.{base_as}
use Rattle.fabric_routes.proofs.WordLemmas.{put_more}
use Rattle.fabric_routes.proofs.find.find_bases.Goals as goal

pub places-preserved : goal.places-preserved
places-preserved c =
    let i = c.places.invariant in
    let fabric = c.args.fabric.now in
    let counts = ap (λ (count : ℕ). count * c.most-most.result) c.switches.ensures.count in
    let most = ap (λ (most : ℕ). switch_count fabric * most) c.most-most.ensures.most in
    record {
      count = length-set c.places.bases.items c.places.place c.find_base.result ∙ i.count;
      bases = put_more (λ (place base : ℕ). base ≡ base_of fabric.most (get_or fabric.sides place Bare)) c.places.bases.items c.places.place c.find_base.result (let count = i.count in let less = c.places-test.true in omega arith)
          (base_as c.most-most.result fabric.most c.side_at.result (get_or fabric.sides c.places.place Bare) c.find_base.result c.most-most.ensures.most c.side_at.ensures.side c.find_base.ensures) i.bases;
    }
