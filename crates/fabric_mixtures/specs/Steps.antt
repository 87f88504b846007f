-- How the graph of the channels that may follow one another is made. Only private functions and proofs cite this.
use Rattle.std.specs.Prelude.{◌≡◌, ◌<◌, ◌≤◌, ◌⊎◌, ◌↔◌, ◌+◌, ◌-◌, ◌*◌, ℕ, Bool, true, false, Option, Some, None, length}
use Rattle.common_graph.specs.Graph.{GraphOf, LeadsTo}
use Rattle.fabric_tables.specs.Cells.{TablesOf}
use Rattle.fabric_model.specs.Fabric.{FabricOf, switch_count}
use Rattle.fabric_routes.specs.declared.hop.Hop.TheVariants.{On}
use Rattle.fabric_routes.specs.Found.{IsChannel, number}
use Rattle.fabric_routes.specs.Routes.{Channel, hop}
use Rattle.fabric_mixtures.specs.declared.turn.By.{By}
use Rattle.fabric_mixtures.specs.declared.turn.By.TheVariants.{Old, New, Both}
use Rattle.fabric_mixtures.specs.declared.looped.Looped.{Looped}
use Rattle.fabric_mixtures.specs.declared.looped.Looped.TheVariants as looped
use Rattle.fabric_mixtures.specs.Mixtures.{MayTake}
use Rattle.fabric_mixtures.specs.Verdict.{IsChanged}

-- a graph has just these steps between channels
pub record AreSteps (fabric : FabricOf) (Step : Channel → Channel → Type 0) (graph : GraphOf) : Type 0 where
  pub count : length graph.bases ≡ switch_count fabric * fabric.most
  pub exact :
      (channel next : Channel) → IsChannel fabric channel → IsChannel fabric next
      → (LeadsTo graph (number fabric channel) (number fabric next) ↔ Step channel next)
  pub only :
      (one other : ℕ) → LeadsTo graph one other
      → (channel next : Channel) × IsChannel fabric channel × IsChannel fabric next × (one ≡ number fabric channel)
      × (other ≡ number fabric next)

-- a graph has these steps more, and no other
pub record IsGrown (More : ℕ → ℕ → Type 0) (old new : GraphOf) : Type 0 where
  pub leads : (one other : ℕ) → (LeadsTo new one other ↔ (LeadsTo old one other ⊎ More one other))
  pub wide : new.wide ≡ old.wide
  pub bases : new.bases ≡ old.bases

-- the numbers of a channel out of a switch by one of two tables, and of the channel out of the next switch by the other
pub record IsTurnBy (fabric : FabricOf) (first second : TablesOf) (lid at one other : ℕ) : Type 0 where
  pub port : ℕ
  pub next : ℕ
  pub on : hop fabric first at lid ≡ On port next
  pub next_port : ℕ
  pub after : ℕ
  pub next_on : hop fabric second next lid ≡ On next_port after
  pub is_one : one ≡ at * fabric.most + (port - 1)
  pub is_other : other ≡ next * fabric.most + (next_port - 1)

-- the numbers of such channels, the second one by the old or by the new tables
abbrev pub IsTurnFrom : FabricOf → (first old new : TablesOf) → (lid at one other : ℕ) → Type 0
IsTurnFrom fabric first old new lid at one other =
    IsTurnBy fabric first old lid at one other ⊎ IsTurnBy fabric first new lid at one other

-- the numbers of such channels, each by the old or by the new tables
pub record IsTurnAt (fabric : FabricOf) (old new : TablesOf) (lid at one other : ℕ) : Type 0 where
  pub port : ℕ
  pub next : ℕ
  pub on : MayTake fabric old new lid at port next
  pub next_port : ℕ
  pub after : ℕ
  pub next_on : MayTake fabric old new lid next next_port after
  pub is_one : one ≡ at * fabric.most + (port - 1)
  pub is_other : other ≡ next * fabric.most + (next_port - 1)

-- of channels of which the first is out of one of the first so many switches; and for one of the first so many LIDs
abbrev pub IsTurnBelow : FabricOf → (old new : TablesOf) → (lid switches one other : ℕ) → Type 0
IsTurnBelow fabric old new lid switches one other =
    (at : ℕ) × (at < switches) × IsTurnAt fabric old new lid at one other

abbrev pub IsTurnTo : FabricOf → (old new : TablesOf) → (switches lids one other : ℕ) → Type 0
IsTurnTo fabric old new switches lids one other =
    (lid : ℕ) × (lid < lids) × IsTurnBelow fabric old new lid switches one other

-- two tables have no port for LIDs past a number
abbrev pub ArePast : (old new : TablesOf) → ℕ → Type 0
ArePast old new lids = (switch lid : ℕ) → lids ≤ lid → (old switch lid ≡ None) × (new switch lid ≡ None)

-- by which of two tables, if by any
abbrev pub by_of : (by_old by_new : Bool) → Option By
by_of true true = Some Both
by_of true false = Some Old
by_of false true = Some New
by_of false false = None

-- which of two tables have a loop, by whether each has
abbrev pub looped_by : (is_old is_new : Bool) → Looped
looped_by true true = looped.Both
looped_by true false = looped.Old
looped_by false true = looped.New
looped_by false false = looped.Mixture

-- of the changed rows those for one LID, of the first so many switches, and those for the first so many LIDs
abbrev pub IsChangedFor : FabricOf → (old new : TablesOf) → (lid switches : ℕ) → ℕ × ℕ → Type 0
IsChangedFor fabric old new lid switches row =
    IsChanged fabric old new row × (row.1 ≡ lid) × (row.0 < switches)

abbrev pub IsChangedBelow : FabricOf → (old new : TablesOf) → ℕ → ℕ × ℕ → Type 0
IsChangedBelow fabric old new lids row = IsChanged fabric old new row × (row.1 < lids)
