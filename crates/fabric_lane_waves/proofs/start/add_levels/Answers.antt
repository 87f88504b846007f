use Rattle.std.proofs.Common.{◌∙◌, sym, ap, ℕ, arith}
use Rattle.std.specs.Int.{bit_at}
use Rattle.fabric_lane_waves.proofs.LevelLemmas.{bit_below, levels_all, levels_more, levels_none}
use Rattle.fabric_lane_waves.proofs.start.add_levels.Goals as goal

pub levels-init : goal.levels-init
levels-init c = record {
  set = levels_none c.args.row c.args.levels c.args.word c.from-left.result c.args.sent.now c.from-left.ensures;
  had = λ level has. (let is = ap (λ (n : ℕ). bit_at n level) (sym c.from-left.ensures) ∙ has in (bit_below c.args.levels 16 level c.ranges.levels.fits is, is));
}

pub levels-preserved : goal.levels-preserved
levels-preserved c =
    let one = c.levels.invariant.had c.lowest-level.result c.lowest-level.ensures.has in
    record {
      set = levels_more c.args.row c.args.levels c.args.word c.levels.left c.without-left.result c.lowest-level.result c.args.sent.now c.levels.sent one.0 one.1 c.without-left.ensures.bits (let room = c.requires c.lowest-level.result one.0 one.1 in let same = c.levels.auto.sent in omega arith) c.levels.invariant.set;
      had = λ level has. c.levels.invariant.had level ((c.without-left.ensures.bits level).0 has).0;
    }

pub returns : goal.returns
returns c = levels_all c.args.row c.args.levels c.args.word c.levels.left c.args.sent.now c.levels.sent (omega arith) c.levels.invariant.set
