use Rattle.std.proofs.Common.{◌∙◌, ◌+◌, ◌*◌, sym, ap, ℕ, arith}
use Rattle.std.specs.Int.{bit_at}
use Rattle.fabric_lane_tables.specs.Levels.{levels_of}
use Rattle.fabric_lane_waves.proofs.LevelLemmas.{told_all, told_more, told_none}
use Rattle.fabric_lane_waves.proofs.start.add_told.Goals as goal

pub bits-init : goal.bits-init
bits-init c = record {
  set = told_none (levels_of c.args.levels.now) c.args.source c.args.block c.args.row c.args.word c.args.sent.now;
  had = λ bit has. has;
}

pub add_levels-requires : goal.add_levels-requires
add_levels-requires c = λ level low has.
    let room = c.requires.room (64 * c.args.block + c.lowest-bit.result) level (low, ap (λ (n : ℕ). bit_at n level) (sym c.levels-has.ensures) ∙ has) in
    let same = c.bits.auto.sent in
    omega arith

pub bits-preserved : goal.bits-preserved
bits-preserved c = record {
  set = told_more (levels_of c.args.levels.now) c.args.source c.args.block c.args.row c.args.word c.bits.left c.without-left.result c.lowest-bit.result c.levels-has.result c.with_bit.result c.args.sent.now c.bits.sent c.add_levels.new.sent c.levels-has.ensures (c.bits.invariant.had c.lowest-bit.result c.lowest-bit.ensures.has) c.without-left.ensures.bits c.with_bit.ensures c.bits.invariant.set c.add_levels.ensures;
  had = λ bit has. c.bits.invariant.had bit ((c.without-left.ensures.bits bit).0 has).0;
}

pub returns : goal.returns
returns c = told_all (levels_of c.args.levels.now) c.args.source c.args.block c.args.row c.args.word c.bits.left c.args.sent.now c.bits.sent (omega arith) c.bits.invariant.set
