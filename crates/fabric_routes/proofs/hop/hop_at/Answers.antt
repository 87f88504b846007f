use Rattle.std.proofs.Common.{◌≡◌, ◌∙◌, ◌+◌, ◌*◌, ◌/◌, ◌%◌, ap, ℕ, arith}
use Rattle.fabric_tables.specs.Cells.{tables_of}
use Rattle.fabric_routes.specs.Routes.{hop}
use Rattle.fabric_routes.proofs.hop.hop_at.Goals as goal

pub returns-clause-hop : goal.returns-clause-hop
returns-clause-hop c =
    let same : 64 * (c.args.lid / 64) + c.args.lid % 64 ≡ c.args.lid = omega arith in
    c.find_hop.ensures.hop ∙ ap (λ (d : ℕ). hop c.args.fabric.now (tables_of c.args.cells.now) c.args.switch d) same
