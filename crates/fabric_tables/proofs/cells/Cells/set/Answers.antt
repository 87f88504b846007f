use Rattle.std.proofs.Common.{◌≡◌, ◌<◌, ◌*◌, ℕ, sym, subst, set}
use Rattle.fabric_tables.specs.Cells.{CellsOf, IsPut, place_of, tables_of}
use Rattle.fabric_tables.proofs.CellLemmas.{put_is, place_low}
use Rattle.fabric_tables.proofs.cells.Cells.set.Goals as goal

pub returns-clause-put : goal.returns-clause-put
returns-clause-put c =
    let e = c.self.view_is in
    let n = c.self.inside.switches in
    let low : c.args.switch < c.self.inside.switches = subst (λ (v : CellsOf). c.args.switch < v.switches) (sym e) c.requires.switch in
    let within : c.args.lid < 64 * c.self.inside.blocks = subst (λ (v : CellsOf). c.args.lid < 64 * v.blocks) (sym e) c.requires.lid in
    let here = place_low n c.self.inside.blocks c.args.switch c.args.lid c.self.inside.bytes.items low within c.self.invariant.count in
    subst (λ (v : CellsOf). IsPut (tables_of v) (tables_of (record { switches = c.self.inside.switches; blocks = c.self.inside.blocks; bytes = set c.self.inside.bytes.items (place_of c.self.inside.switches c.args.switch c.args.lid) c.args.port })) c.args.switch c.args.lid c.args.port) e
    (put_is n c.self.inside.blocks c.args.switch c.args.lid c.args.port c.self.inside.bytes.items low here c.requires.port)
