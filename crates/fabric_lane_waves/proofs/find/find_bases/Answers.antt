use Rattle.std.proofs.Common.{◌≡◌, ◌∙◌, ◌*◌, ◌/◌, ◌<◌, ap, ℕ, arith, get_or, length, length-set}
use Rattle.fabric_model.specs.declared.node.Side.TheVariants.{Bare}
use Rattle.fabric_model.specs.Fabric.{switch_count}
use Rattle.fabric_routes.specs.Finding.{base_of}
use Rattle.fabric_routes.proofs.ChannelLemmas.{base_as}
use Rattle.fabric_routes.proofs.WordLemmas.{put_more}
use Rattle.fabric_lane_waves.proofs.find.find_bases.Goals as goal

pub channels-preserved : goal.channels-preserved
channels-preserved c =
    let i = c.channels.invariant in
    let row = ap (λ (most : ℕ). most * c.args.count) c.most.ensures.most in
    let all = ap (λ (switches : ℕ). switches * (c.most.result * c.args.count)) c.switches.ensures.count ∙ ap (λ (row : ℕ). switch_count c.args.fabric.now * row) row in
    let low : c.channels.channel < length c.channels.bases.items = (let size = i.size in let less = c.channels-test.true in omega (arith, all)) in
    record {
      size = length-set c.channels.bases.items c.channels.channel c.find_base.result ∙ i.size;
      each = put_more (λ (channel base : ℕ). base ≡ base_of (c.args.fabric.now.most * c.args.count) (get_or c.args.fabric.now.sides (channel / c.args.count) Bare)) c.channels.bases.items c.channels.channel c.find_base.result low
          (base_as (c.most.result * c.args.count) (c.args.fabric.now.most * c.args.count) c.side_at.result (get_or c.args.fabric.now.sides (c.channels.channel / c.args.count) Bare) c.find_base.result row c.side_at.ensures.side c.find_base.ensures) i.each;
    }
