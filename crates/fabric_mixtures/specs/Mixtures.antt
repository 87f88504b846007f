-- While tables are replaced each row stands for the old or for the new one, in any mixture.
use Rattle.std.specs.Prelude.{◌≡◌, ◌⊎◌, ℕ, None}
use Rattle.fabric_tables.specs.Cells.{TablesOf}
use Rattle.fabric_model.specs.Fabric.{FabricOf}
use Rattle.fabric_routes.specs.declared.hop.Hop.TheVariants.{On}
use Rattle.fabric_routes.specs.Routes.{Channel, hop}

-- tables are a mixture of two others: each entry is that of the one or of the other
abbrev pub IsMixture : (old new mixed : TablesOf) → Type 0
IsMixture old new mixed =
    (switch lid : ℕ) → (mixed switch lid ≡ old switch lid) ⊎ (mixed switch lid ≡ new switch lid)

-- by one of two tables a switch sends what goes to a LID out of a port, to another switch
abbrev pub MayTake : FabricOf → (old new : TablesOf) → (lid switch port next : ℕ) → Type 0
MayTake fabric old new lid switch port next =
    (hop fabric old switch lid ≡ On port next) ⊎ (hop fabric new switch lid ≡ On port next)

-- what goes to a LID, whoever owns it, may hold a channel and ask for another one: it may take the one, which leads to the
-- switch of the other, and may take the other there
pub record MayTakeBoth (fabric : FabricOf) (old new : TablesOf) (lid : ℕ) (channel next : Channel) : Type 0 where
  pub first : MayTake fabric old new lid channel.switch channel.port next.switch
  pub after : ℕ
  pub second : MayTake fabric old new lid next.switch next.port after

-- a channel may be followed by another one, by what goes to some LID
abbrev pub MayBeFollowed : FabricOf → (old new : TablesOf) → Channel → Channel → Type 0
MayBeFollowed fabric old new channel next = (lid : ℕ) × MayTakeBoth fabric old new lid channel next

-- tables of which some rows are taken out: each entry is that of others, or none
abbrev pub IsEmptied : (old emptied : TablesOf) → Type 0
IsEmptied old emptied = (switch lid : ℕ) → (emptied switch lid ≡ old switch lid) ⊎ (emptied switch lid ≡ None)
