-- Which ports lead to switches, as bits.
use Rattle.std.specs.Prelude.{◌≡◌, ◌<◌, ◌+◌, ◌*◌, ◌/◌, ◌%◌, ◌↔◌, ℕ, List, length, slice_index}
use Rattle.std.specs.Int.{bit_at}
use Rattle.fabric_model.specs.declared.node.Side.{Side}
use Rattle.fabric_model.specs.declared.node.Side.TheVariants.{Bare, To, End}
use Rattle.fabric_model.specs.Fabric.{FabricOf, switch_count, side_of}

-- a port with this side leads to a switch
abbrev pub IsTo : Side → Type 0
IsTo (To next entry) = Unit {0}
IsTo Bare = ⊥
IsTo (End end) = ⊥

-- `word` has the bits of 64 ports of a switch; each switch has four such words
abbrev pub IsLinksWord : FabricOf → ℕ → ℕ → Type 0
IsLinksWord fabric place word =
    (bit : ℕ) → bit < 64 → ((bit_at word bit ≡ 1) ↔ IsTo (side_of fabric (place / 4) (64 * (place % 4) + bit)))

-- `words` has the bits of the ports of all switches, in their order
pub record AreLinks (fabric : FabricOf) (words : List ℕ) : Type 0 where
  pub count : length words ≡ switch_count fabric * 4
  pub each : (place : ℕ) → place < switch_count fabric * 4 → IsLinksWord fabric place (slice_index words place)
