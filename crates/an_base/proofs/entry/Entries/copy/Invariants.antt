use Rattle.std.proofs.Common.{◌≡◌, take, length}
use Rattle.std.specs.Prelude.{vec_capacity}
use Rattle.an_base.proofs.entry.Entries.copy.Given as goal

-- the entries so far, and memory for all
abbrev pub invariant-entries : goal.invariant-entries
invariant-entries l =
    (l.items.items ≡ take l.entry-index l.self)
    × (length l.items.items ≡ l.entry-index)
    × (vec_capacity l.items ≡ length l.self)
