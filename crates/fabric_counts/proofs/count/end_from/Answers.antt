use Rattle.std.proofs.Common.{◌≡◌, ◌+◌, ◌*◌, ◌/◌, ◌%◌, subst, ℕ, arith}
use Rattle.fabric_tables.specs.Cells.{tables_of}
use Rattle.fabric_counts.specs.Counts.{hop_for}
use Rattle.fabric_routes.specs.Routes.{EndsAs}
use Rattle.fabric_counts.proofs.count.end_from.Goals as goal

pub returns-clause-ends : goal.returns-clause-ends
returns-clause-ends c =
    let same : 64 * (c.args.lid / 64) + c.args.lid % 64 ≡ c.args.lid = omega arith in
    subst (λ (l : ℕ). EndsAs (hop_for c.args.fabric.now (tables_of c.args.cells.now) l) c.args.start c.trace.result) same c.trace.ensures.ends
