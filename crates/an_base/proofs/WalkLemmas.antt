-- Walks in a network.
use Rattle.std.proofs.Common.{ℕ, zero, suc, subst, sym}
use Rattle.an_base.specs.Tree.{Network, Walk}

-- a walk after a walk
pub walk_then : (g : Network) (m n x y z : ℕ) → Walk g m x y → Walk g n y z → (k : ℕ) × Walk g k x z
walk_then g zero n x y z one two = (n, subst (λ (v : ℕ). Walk g n v z) (sym one) two)
walk_then g (suc m) n x y z (u, near, rest) two = let more = walk_then g m n u y z rest two in (suc more.0, (u, near, more.1))
