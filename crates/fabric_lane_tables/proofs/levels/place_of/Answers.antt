use Rattle.std.proofs.Common.{sym, arith}
use Rattle.std.specs.Prelude.{nat_eq}
use Rattle.std.specs.Cmp.Lexicographic.{pointwise}
use Rattle.std.specs.List.{list_any}
use Rattle.fabric_lane_tables.proofs.BlockLemmas.{block_found, block_stored, blocks_kept}
use Rattle.fabric_lane_tables.proofs.levels.place_of.Goals as goal

pub returns-in-Some-clause-there : goal.returns-in-Some-clause-there
returns-in-Some-clause-there c = block_found c.args.rows.now.keys c.args.levels c.in-Some.place (sym c.in-Some.ensures.index)

pub returns-clause-there : goal.returns-clause-there
returns-clause-there c =
    let at = c.in_ok-place.ensures.stored in
    block_stored c.insert_full.new.self.keys c.args.levels at.0 c.in_ok-place.place at.1 at.2

pub returns-clause-kept : goal.returns-clause-kept
returns-clause-kept c = blocks_kept c.args.rows.now.keys c.insert_full.new.self.keys c.args.levels (list_any (pointwise nat_eq c.args.levels) c.args.rows.now.keys) c.in_ok-place.ensures.keys (omega (arith, c.if-len.false, c.len.ensures.len))
