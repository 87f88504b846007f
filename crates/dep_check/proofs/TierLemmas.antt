-- Channels on cycles lead to their own tiers.
use Rattle.std.proofs.Common.{refl, ℕ, ◌≤◌, List, [], ◌∷◌, arith}
use Rattle.dep_check.specs.declared.channel.Channel.{Channel}
use Rattle.dep_check.specs.declared.steps.Steps.{Steps}
use Rattle.common_graph.specs.Cycles.{Path, IsCycle}
use Rattle.dep_check.specs.Search.{Step}
use Rattle.dep_check.specs.Tiers.{tier_at, AreTiers, HasPeer}

-- tiers never fall along a path
tiers_rise : (steps : Steps) (tiers : List ℕ) → AreTiers steps tiers → (a : Channel) (cs : List Channel) (z : Channel) → Path (Step steps) a cs z → tier_at tiers a ≤ tier_at tiers z
tiers_rise steps tiers are a [] z (e, is) = are a e z is
tiers_rise steps tiers are a (c ∷ cs) z ((e, is), path) =
    let up = are a e c is in
    let rest = tiers_rise steps tiers are c cs z path in
    omega arith

-- so they are the same all along a cycle
pub cycle_peer : (steps : Steps) (tiers : List ℕ) → AreTiers steps tiers → (c : Channel) (cs : List Channel) → IsCycle (Step steps) c cs → HasPeer steps tiers c
cycle_peer steps tiers are c [] (e, is) = (e, c, is, refl)
cycle_peer steps tiers are c (d ∷ ds) ((e, is), path) =
    let up = are c e d is in
    let back = tiers_rise steps tiers are d ds c path in
    (e, d, is, omega arith)
