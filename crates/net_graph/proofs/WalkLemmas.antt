use Rattle.std.proofs.Common.{◌≡◌, sym, subst, refl, ℕ, zero, suc, Some}
use Rattle.an_base.specs.Tree.{Network, Neighbours, Walk}

-- links lead both ways
abbrev pub LeadsBack : Network → Type 0
LeadsBack g = (x p y q : ℕ) → g.far x p ≡ Some (y, q) → g.far y q ≡ Some (x, p)

-- so neighbours are neighbours both ways
pub neighbours_back : (g : Network) (x y : ℕ) → LeadsBack g → Neighbours g x y → Neighbours g y x
neighbours_back g x y back near = (near.1, near.0, back x near.0 y near.1 near.2)

-- one link more at the end of a walk
pub walk_on : (g : Network) (n x y z : ℕ) → Walk g n x y → Neighbours g y z → Walk g (suc n) x z
walk_on g zero x y z walk near = (z, subst (λ (u : ℕ). Neighbours g u z) (sym walk) near, refl)
walk_on g (suc n) x y z (u, first, rest) near = (u, first, walk_on g n u y z rest near)

-- a walk the other way round
pub walk_back : (g : Network) (n x y : ℕ) → LeadsBack g → Walk g n x y → Walk g n y x
walk_back g zero x y back walk = sym walk
walk_back g (suc n) x y back (z, near, rest) = walk_on g n y z x (walk_back g n z y back rest) (neighbours_back g x z back near)

-- what is closed under links has the end of each walk from it
pub walk_keeps : (g : Network) (P : ℕ → Type 0) → ((x y : ℕ) → Neighbours g x y → P x → P y) → (n x y : ℕ) → Walk g n x y → P x → P y
walk_keeps g P keeps zero x y walk p = subst P walk p
walk_keeps g P keeps (suc n) x y (z, near, rest) p = walk_keeps g P keeps n z y rest (keeps x z near p)
