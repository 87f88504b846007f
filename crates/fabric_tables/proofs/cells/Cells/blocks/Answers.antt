use Rattle.std.proofs.Common.{◌≡◌, ◌≤◌, ◌*◌, ℕ, None, subst}
use Rattle.fabric_tables.specs.Cells.{CellsOf, tables_of}
use Rattle.fabric_tables.proofs.CellLemmas.{nothing_past}
use Rattle.fabric_tables.proofs.cells.Cells.blocks.Goals as goal

pub returns-clause-past : goal.returns-clause-past
returns-clause-past c = subst (λ (v : CellsOf). (switch lid : ℕ) → 64 * v.blocks ≤ lid → tables_of v switch lid ≡ None) c.self.view_is
    (λ switch lid past. nothing_past c.self.inside.switches c.self.inside.blocks switch lid c.self.inside.bytes.items c.self.invariant.count past)
