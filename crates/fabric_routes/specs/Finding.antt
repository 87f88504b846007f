-- How dependencies are found, by the numbers of channels. Only private functions and proofs cite this.
use Rattle.std.specs.Prelude.{◌≡◌, ◌<◌, ◌*◌, ◌⊎◌, ◌↔◌, ℕ, Bool, true, List, length, slice_index, slice_index_or}
use Rattle.common_graph.specs.Graph.{GraphOf, LeadsTo}
use Rattle.fabric_model.specs.declared.node.EndPort.{EndPort}
use Rattle.fabric_model.specs.declared.traffic.Traffic.{Traffic}
use Rattle.fabric_model.specs.declared.node.Side.{Side}
use Rattle.fabric_model.specs.declared.node.Side.TheVariants.{Bare, To, End}
use Rattle.fabric_model.specs.Fabric.{FabricOf, switch_count}
use Rattle.fabric_tables.specs.Cells.{TablesOf}
use Rattle.fabric_routes.specs.Found.{IsChannel, number}
use Rattle.fabric_routes.specs.Routes.{IsStopped, Channel, Takes, DependsOn}
use Rattle.fabric_routes.specs.Waves.{TakesNumbers}

-- Of all LIDs, the dependencies of the routes were added and no other, and `told` says whether a route is
-- stopped.
pub record AreFound (fabric : FabricOf) (tables : TablesOf) (traffic : Traffic) (old new : GraphOf) (told : Bool) : Type 0 where
  pub leads :
      (one other : ℕ)
      → (LeadsTo new one other ↔ (LeadsTo old one other ⊎ ((lid : ℕ) × TakesNumbers fabric tables traffic lid one other)))
  pub stopped : (told ≡ true) ↔ ((lid : ℕ) × ((source : EndPort) × IsStopped fabric tables traffic lid source))
  pub wide : new.wide ≡ old.wide
  pub bases : new.bases ≡ old.bases

-- Of the LIDs below `end`, the dependencies of the routes were added and no other, and `told` says whether a
-- route is stopped.
pub record AreFoundBelow (fabric : FabricOf) (tables : TablesOf) (traffic : Traffic) (end : ℕ) (old new : GraphOf) (told : Bool) : Type 0 where
  pub leads :
      (one other : ℕ)
      → (LeadsTo new one other ↔ (LeadsTo old one other ⊎ ((lid : ℕ) × (lid < end) × TakesNumbers fabric tables traffic lid one other)))
  pub stopped : (told ≡ true) ↔ ((lid : ℕ) × (lid < end) × ((source : EndPort) × IsStopped fabric tables traffic lid source))
  pub wide : new.wide ≡ old.wide
  pub bases : new.bases ≡ old.bases

-- `graph` has each dependency between channels, and no other.
pub record AreDependencies (fabric : FabricOf) (tables : TablesOf) (traffic : Traffic) (graph : GraphOf) : Type 0 where
  pub count : length graph.bases ≡ switch_count fabric * fabric.most
  pub exact :
      (channel next : Channel) → IsChannel fabric channel → IsChannel fabric next
      → (LeadsTo graph (number fabric channel) (number fabric next) ↔ DependsOn fabric tables traffic channel next)
  pub only :
      (one other : ℕ) → LeadsTo graph one other
      → (channel next : Channel) × IsChannel fabric channel × IsChannel fabric next × (one ≡ number fabric channel) × (other ≡ number fabric next)

-- the number of the first channel of the switch to which the port leads, if each switch has `channels` of
-- them
abbrev pub base_of : ℕ → Side → ℕ
base_of channels (To next entry) = next * channels
base_of channels Bare = 0
base_of channels (End end) = 0

-- `bases` has the first `count` bases
abbrev pub AreBases : FabricOf → ℕ → List ℕ → Type 0
AreBases fabric count bases =
    (place : ℕ) → place < count → slice_index bases place ≡ base_of fabric.most (slice_index_or fabric.sides place Bare)

-- no route takes `channel` and then, directly, `next`
abbrev pub HasNoWitness : FabricOf → TablesOf → Traffic → Channel → Channel → Type 0
HasNoWitness fabric tables traffic channel next =
    (lid : ℕ) (source : EndPort) → Takes fabric tables traffic lid source channel next → ⊥
