-- A packet that is under way while rows change.
use Rattle.std.specs.Prelude.{◌≡◌, ◌+◌, ℕ, zero, suc, Some}
use Rattle.fabric_tables.specs.Cells.{TablesOf}
use Rattle.fabric_model.specs.declared.node.EndPort.{EndPort}
use Rattle.fabric_model.specs.Fabric.{FabricOf, start_of}
use Rattle.fabric_routes.specs.declared.hop.Hop.TheVariants.{On}
use Rattle.fabric_model.specs.declared.traffic.Traffic.{Traffic}
use Rattle.fabric_routes.specs.Routes.{Channel, Sends, hop}
use Rattle.fabric_mixtures.specs.Mixtures.{IsMixture}

-- from one switch to another by so many hops, each by the tables of its own moment
abbrev pub MovesBy : FabricOf → (ℕ → TablesOf) → ℕ → ℕ → ℕ → ℕ → Type 0
MovesBy fabric tables_at lid zero start at = start ≡ at
MovesBy fabric tables_at lid (suc hops) start at =
    (before port : ℕ) × MovesBy fabric tables_at lid hops start before
    × (hop fabric (tables_at hops) before lid ≡ On port at)

-- a packet, which is sent by the tables of the first moment, takes a channel and then, directly, another one; the tables
-- of each moment are a mixture
pub record TakesWhile (fabric : FabricOf) (old new : TablesOf) (traffic : Traffic) (lid : ℕ) (source : EndPort)
    (channel next : Channel)
    : Type 0 where
  pub tables_at : ℕ → TablesOf
  pub mixed : (moment : ℕ) → IsMixture old new (tables_at moment)
  pub sends : Sends fabric (tables_at 0) traffic lid source
  pub start : ℕ
  pub begins : start_of fabric source ≡ Some start
  pub hops : ℕ
  pub comes : MovesBy fabric tables_at lid hops start channel.switch
  pub first : hop fabric (tables_at hops) channel.switch lid ≡ On channel.port next.switch
  pub after : ℕ
  pub second : hop fabric (tables_at (hops + 1)) next.switch lid ≡ On next.port after

-- while rows change a channel depends on another if some packet takes the one and then the other
abbrev pub DependsWhile : FabricOf → (old new : TablesOf) → Traffic → Channel → Channel → Type 0
DependsWhile fabric old new traffic channel next =
    (lid : ℕ) × (source : EndPort) × TakesWhile fabric old new traffic lid source channel next
