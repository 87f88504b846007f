use Rattle.std.proofs.Common.{◌≡◌, ◌<◌, length, length-set, arith}
use Rattle.std.specs.Int.{bit_at}
use Rattle.fabric_routes.specs.Waves.{HasBit}
use Rattle.fabric_routes.proofs.WordLemmas.{bit_low, done_more, gap_less}
use Rattle.fabric_lane_waves.specs.LaneSteps.{StepsOf, StopsOf}
use Rattle.fabric_lane_waves.proofs.SpreadLemmas.{taken_as}
use Rattle.fabric_lane_waves.proofs.wave.turn.Goals as goal

pub returns : goal.returns
returns c =
    let done = c.args.done.now in
    let at = c.args.place in
    let word = c.joined.result in
    let low : c.args.place < length c.args.done.now = omega arith in
    record {
      taken = taken_as (StepsOf c.args.routes.now) (StopsOf c.args.routes.now) (λ switch other. (switch ≡ c.args.place) × (bit_at c.fresh_of-fresh.result other ≡ 1)) (λ switch bit. (switch ≡ c.args.place) × HasBit c.args.seen.now c.args.place bit × (HasBit c.args.done.now c.args.place bit → ⊥))
          (record { seen = c.args.seen.now; graph = c.args.graph.now; stopped = c.args.stopped }) (record { seen = c.visit.new.seen; graph = c.visit.new.graph; stopped = c.visit.result })
          (λ s o r. (r.0, (c.fresh_of-fresh.ensures o).1 (r.1, r.2)))
          (λ s o p. let both = (c.fresh_of-fresh.ensures o).0 p.1 in (p.0, both.0, both.1))
          c.visit.ensures;
      done = done_more c.args.seen.now done at c.fresh_of-fresh.result word low c.fresh_of-fresh.ensures c.joined.ensures.bits;
      fits = λ bit has. bit_low c.args.seen.now c.args.place bit (omega (arith, c.type_inv.seen c.args.place)) has;
      count = length-set done at word;
      less = gap_less done at word low c.joined.ensures.more (omega arith);
    }
