use Rattle.std.proofs.Common.{◌+◌, ◌*◌, sym, ◌∙◌}
use Rattle.std.proofs.lemmas.Bool.{iff_false}
use Rattle.fabric_tables.specs.Cells.{tables_of}
use Rattle.fabric_routes.proofs.ChannelLemmas.{hop_missing, hop_ends, hop_goes, port_low}
use Rattle.fabric_routes.proofs.link.port_on.Goals as goal

pub returns-in_default-clause-hop : goal.returns-in_default-clause-hop
returns-in_default-clause-hop c = hop_missing c.args.fabric.now (tables_of c.args.cells.now) c.args.switch (64 * c.args.block + c.args.bit) (sym c.in_default.is ∙ c.port.ensures.port)

pub returns-then-not-is_link-clause-hop : goal.returns-then-not-is_link-clause-hop
returns-then-not-is_link-clause-hop c = hop_ends c.args.fabric.now (tables_of c.args.cells.now) c.args.switch (64 * c.args.block + c.args.bit) c.in-Some.port c.in-Some.ensures.port (λ to. absurd (iff_false c.is_link.ensures c.if-not-is_link.true to))

pub returns-clause-hop : goal.returns-clause-hop
returns-clause-hop c = hop_goes c.args.fabric.now (tables_of c.args.cells.now) c.args.switch (64 * c.args.block + c.args.bit) c.in-Some.port c.in-Some.ensures.port (c.is_link.ensures.0 c.if-not-is_link.false)

pub returns-clause-low : goal.returns-clause-low
returns-clause-low c = port_low c.args.fabric.now c.args.switch c.in-Some.port (c.is_link.ensures.0 c.if-not-is_link.false)
