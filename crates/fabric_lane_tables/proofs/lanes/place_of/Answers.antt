use Rattle.std.proofs.Common.{sym, arith}
use Rattle.std.specs.Prelude.{nat_eq}
use Rattle.std.specs.List.{list_any}
use Rattle.fabric_lane_tables.proofs.RowLemmas.{found_at, rows_kept}
use Rattle.fabric_lane_tables.proofs.lanes.place_of.Goals as goal

pub returns-in-Some-clause-there : goal.returns-in-Some-clause-there
returns-in-Some-clause-there c = found_at c.args.rows.now.keys c.args.row c.in-Some.place (sym c.in-Some.ensures.index)

pub returns-clause-kept : goal.returns-clause-kept
returns-clause-kept c = rows_kept c.args.rows.now.keys c.insert_full.new.self.keys c.args.row (list_any (nat_eq c.args.row) c.args.rows.now.keys) c.in_ok-place.ensures.keys (omega (arith, c.if-len-ge-MOST_ROWS.false, c.len.ensures.len))
