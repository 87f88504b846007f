use Rattle.std.proofs.Common.{◌≡◌, ℕ, List, subst, arith, length}
use Rattle.fabric_routes.specs.Waves.{HasBit}
use Rattle.fabric_lane_waves.specs.LaneBlocks.{AreSetBy}
use Rattle.fabric_lane_waves.proofs.SentLemmas.{no_bits}
use Rattle.fabric_lane_waves.proofs.SetLemmas.{OwnsBelow, all_owned, owned_more, set_none}
use Rattle.fabric_lane_waves.proofs.start.put_owned.Goals as goal

pub bits-init : goal.bits-init
bits-init c = set_none (OwnsBelow c.args.fabric.now c.args.block 0) c.clear.new.words (λ place bit kind. absurd (let low = kind.0 in omega arith))

pub bits-preserved : goal.bits-preserved
bits-preserved c = owned_more c.args.fabric.now c.args.block c.bits.bit c.clear.new.words c.bits.owned c.add_owner.new.owned c.bits.invariant c.add_owner.ensures

pub returns : goal.returns
returns c =
    let end : c.bits.bit ≡ 64 = omega arith in
    all_owned c.args.fabric.now c.args.block c.clear.new.words c.bits.owned
    (λ place bit has. no_bits (length c.args.owned.now) place bit (subst (λ (words : List ℕ). HasBit words place bit) c.clear.ensures has))
    (subst (λ (n : ℕ). AreSetBy c.clear.new.words c.bits.owned (OwnsBelow c.args.fabric.now c.args.block n)) end c.bits.invariant)
