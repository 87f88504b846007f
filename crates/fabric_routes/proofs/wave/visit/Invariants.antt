use Rattle.std.proofs.Common.{◌≡◌, ℕ}
use Rattle.std.specs.Int.{bit_at}
use Rattle.fabric_tables.specs.Cells.{tables_of}
use Rattle.fabric_routes.specs.Waves.{Taken, IsGraphOf}
use Rattle.fabric_routes.proofs.wave.visit.Given as goal

-- the hops for the bits that are not left were taken
abbrev pub invariant-bits : goal.invariant-bits
invariant-bits l = record {
  taken : Taken l.fabric (tables_of l.cells) l.block (λ switch other. (switch ≡ l.at) × (bit_at l.fresh other ≡ 1) × (bit_at l.left other ≡ 1 → ⊥)) (record { seen = l.fn.seen; graph = l.fn.graph; stopped = l.stopped }) (record { seen = l.seen; graph = l.graph; stopped = l.stops });
  had : (bit : ℕ) → bit_at l.left bit ≡ 1 → bit_at l.fresh bit ≡ 1;
  graph : IsGraphOf l.fabric l.graph;
}

abbrev pub decreases-bits : goal.decreases-bits
decreases-bits l = l.left
