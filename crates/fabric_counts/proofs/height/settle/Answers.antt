use Rattle.std.proofs.Common.{◌-◌, arith}
use Rattle.fabric_counts.proofs.HeightLemmas.{settle_first, settle_last, settle_more}
use Rattle.fabric_counts.proofs.height.settle.Goals as goal

pub path-init : goal.path-init
path-init c = record {
  low = omega arith;
  sum = omega arith;
  settling = λ hop_at switches start is heights. (heights, settle_first hop_at c.args.path.now c.args.way);
}

pub path-preserved : goal.path-preserved
path-preserved c = record {
  low = (let low = c.path.invariant.low in omega arith);
  sum = (let sum = c.path.invariant.sum in omega arith);
  settling = λ hop_at switches start is heights. settle_more hop_at switches start c.args.path.now c.args.way is c.path.heights c.path.left (c.path.left - 1) c.path.height (omega arith) c.path.invariant.low (let size = c.path.auto.heights in let low = c.path.invariant.low in let within = c.requires.low (c.path.left - 1) (omega arith) in omega arith) (c.path.invariant.settling hop_at switches start is heights);
}

pub returns : goal.returns
returns c = λ hop_at switches start is heights.
    let all = c.path.invariant.settling hop_at switches start is heights in
    (all.0, settle_last hop_at switches start c.args.path.now c.args.way is c.path.left c.path.height (omega arith) all.1)
