use Rattle.std.proofs.Common.{◌≡◌, ◌<◌, refl, length, length-set, get_or, arith}
use Rattle.std.specs.Int.{bit_at}
use Rattle.fabric_tables.specs.Cells.{tables_of}
use Rattle.fabric_routes.specs.Waves.{HasBit}
use Rattle.fabric_routes.proofs.TakenLemmas.{taken_as}
use Rattle.fabric_routes.proofs.WordLemmas.{bit_low, done_more, gap_less, none_fresh}
use Rattle.fabric_routes.proofs.wave.turn.Goals as goal

pub returns : goal.returns
returns c =
    let done = c.args.done.now in
    let at = c.args.at in
    let word = c.joined.result in
    let low : c.args.at < length c.args.done.now = omega arith in
    record {
      taken = taken_as c.args.fabric.now (tables_of c.args.cells.now) c.args.block (λ switch other. (switch ≡ c.args.at) × (bit_at c.fresh_of-fresh.result other ≡ 1)) (λ switch bit. (switch ≡ c.args.at) × HasBit c.args.seen.now c.args.at bit × (HasBit c.args.done.now c.args.at bit → ⊥))
          (record { seen = c.args.seen.now; graph = c.args.graph.now; stopped = c.args.stopped }) (record { seen = c.visit.new.seen; graph = c.visit.new.graph; stopped = c.visit.result })
          (λ s o r. (r.0, (c.fresh_of-fresh.ensures o).1 (r.1, r.2)))
          (λ s o p. let both = (c.fresh_of-fresh.ensures o).0 p.1 in (p.0, both.0, both.1))
          c.visit.ensures;
      done = done_more c.args.seen.now done at c.fresh_of-fresh.result word low c.fresh_of-fresh.ensures c.joined.ensures.bits;
      fits = λ bit has. bit_low c.args.seen.now c.args.at bit (omega (arith, c.type_inv.seen c.args.at)) has;
      count = length-set done at word;
      less = gap_less done at word low c.joined.ensures.more (omega arith);
    }

pub returns-then-fresh-eq0 : goal.returns-then-fresh-eq0
returns-then-fresh-eq0 c = record {
  same = refl;
  same_done = refl;
  none = none_fresh (get_or c.args.seen.now c.args.at 0) (get_or c.args.done.now c.args.at 0) c.fresh_of-fresh.result c.if-fresh-eq0.true c.fresh_of-fresh.ensures;
}

pub joined-requires-clause-apart : goal.joined-requires-clause-apart
joined-requires-clause-apart c = λ bit has gone. ((c.fresh_of-fresh.ensures bit).0 has).1 gone
