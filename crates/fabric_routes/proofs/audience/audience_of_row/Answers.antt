use Rattle.std.proofs.Common.{◌≡◌, ◌+◌, ◌*◌, ◌/◌, ◌%◌, ℕ, subst, arith}
use Rattle.std.proofs.lemmas.Bool.{iff_false}
use Rattle.fabric_tables.specs.Cells.{HasRow, tables_of}
use Rattle.fabric_routes.proofs.AudienceLemmas.{no_audience, row_audience}
use Rattle.fabric_routes.proofs.audience.audience_of_row.Goals as goal

pub returns-in-Hosts : goal.returns-in-Hosts
returns-in-Hosts c = λ fabric unowned. no_audience fabric (tables_of c.args.cells.now) c.args.traffic c.args.lid unowned (λ by_rows _. let other = c.in-Hosts.is in cc)

pub returns-in-Lids : goal.returns-in-Lids
returns-in-Lids c = λ fabric unowned. no_audience fabric (tables_of c.args.cells.now) c.args.traffic c.args.lid unowned (λ by_rows _. let other = c.in-Lids.is in cc)

pub returns-in-Managed : goal.returns-in-Managed
returns-in-Managed c = λ fabric unowned. no_audience fabric (tables_of c.args.cells.now) c.args.traffic c.args.lid unowned (λ by_rows _. let other = c.in-Managed.is in cc)

pub returns-in-All : goal.returns-in-All
returns-in-All c = λ fabric unowned. no_audience fabric (tables_of c.args.cells.now) c.args.traffic c.args.lid unowned (λ by_rows _. let other = c.in-All.is in cc)

pub returns-then-has_row : goal.returns-then-has_row
returns-then-has_row c = λ fabric unowned.
    let same : 64 * (c.args.lid / 64) + c.args.lid % 64 ≡ c.args.lid = omega arith in
    row_audience fabric (tables_of c.args.cells.now) c.args.traffic c.args.lid c.in-Rows.is unowned (subst (λ (d : ℕ). HasRow (tables_of c.args.cells.now) d) same (c.has_row.ensures.0 c.if-has_row.true))

pub returns-else-has_row : goal.returns-else-has_row
returns-else-has_row c = λ fabric unowned.
    let same : c.args.lid ≡ 64 * (c.args.lid / 64) + c.args.lid % 64 = omega arith in
    no_audience fabric (tables_of c.args.cells.now) c.args.traffic c.args.lid unowned (λ _ row. iff_false c.has_row.ensures c.if-has_row.false (subst (λ (d : ℕ). HasRow (tables_of c.args.cells.now) d) same row))
