use Rattle.std.proofs.Common.{◌≡◌, ◌<◌, ◌+◌, ◌*◌, ℕ, None}
use Rattle.fabric_tables.specs.Cells.{tables_of}
use Rattle.fabric_tables.proofs.cells.Cells.has_row.Given as goal

-- no switch so far has a port
abbrev pub invariant-switches : goal.invariant-switches
invariant-switches l = (switch : ℕ) → switch < l.switch → tables_of l.self switch (64 * l.block + l.bit) ≡ None
