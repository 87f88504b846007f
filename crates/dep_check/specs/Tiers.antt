-- Tiers of spots: no step leads to a lower tier. Only private functions cite this.
use Rattle.std.specs.Prelude.{◌≡◌, ◌≤◌, ◌<◌, ℕ, List, slice_index_or}
use Rattle.dep_check.specs.declared.channel.Channel.{Channel}
use Rattle.dep_check.specs.declared.steps.Steps.{Steps}
use Rattle.dep_check.specs.Tables.{place_of}
use Rattle.dep_check.specs.Search.{IsStep}

-- the tier that a table has for `spot`
abbrev pub tier_at : List ℕ → Channel → ℕ
tier_at tiers spot = slice_index_or tiers (place_of spot) 0

-- no step from `spot` leads to a lower tier
abbrev pub RisesFrom : Steps → List ℕ → Channel → Type 0
RisesFrom steps tiers spot =
    (exit : ℕ) (after : Channel) → IsStep steps spot exit after → tier_at tiers spot ≤ tier_at tiers after

-- the step from `spot` by `exit` leads to a lower tier
abbrev pub SinksBy : Steps → List ℕ → Channel → ℕ → Type 0
SinksBy steps tiers spot exit =
    (after : Channel) × IsStep steps spot exit after × (tier_at tiers after < tier_at tiers spot)

-- no step leads to a lower tier
abbrev pub AreTiers : Steps → List ℕ → Type 0
AreTiers steps tiers = (spot : Channel) → RisesFrom steps tiers spot

-- the step from `spot` by `exit` leads to its own tier
abbrev pub HasPeerBy : Steps → List ℕ → Channel → ℕ → Type 0
HasPeerBy steps tiers spot exit =
    (after : Channel) × IsStep steps spot exit after × (tier_at tiers after ≡ tier_at tiers spot)

-- some step from `spot` leads to its own tier
abbrev pub HasPeer : Steps → List ℕ → Channel → Type 0
HasPeer steps tiers spot =
    (exit : ℕ) × (after : Channel) × IsStep steps spot exit after × (tier_at tiers after ≡ tier_at tiers spot)
