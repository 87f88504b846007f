-- What the waves keep. Except for `IsGraphOf`, only private functions cite this.
use Rattle.std.specs.Prelude.{◌≡◌, ◌<◌, ◌≤◌, ◌+◌, ◌-◌, ◌*◌, ◌^◌, ◌⊎◌, ◌↔◌, ℕ, Bool, true, Some, List, [], ◌∷◌, length, slice_index}
use Rattle.std.specs.Int.{bit_at}
use Rattle.common_graph.specs.Graph.{GraphOf, LeadsTo}
use Rattle.fabric_model.specs.declared.node.Side.TheVariants.{To}
use Rattle.fabric_model.specs.declared.node.EndPort.{EndPort}
use Rattle.fabric_model.specs.declared.traffic.Traffic.{Traffic}
use Rattle.fabric_routes.specs.declared.hop.Hop.{Hop}
use Rattle.fabric_routes.specs.declared.hop.Hop.TheVariants.{On, Arrive, Stop}
use Rattle.fabric_model.specs.Fabric.{FabricOf, switch_count, side_of, start_of}
use Rattle.fabric_tables.specs.Cells.{TablesOf}
use Rattle.fabric_routes.specs.Found.{number}
use Rattle.fabric_routes.specs.Routes.{hop, IsStop, IsStopped, Sends, ComesTo, Channel, Takes}

-- the rows of `graph` are those of the channels of `fabric`: the row of each begins with port 1 of the switch
-- to which it leads
pub record IsGraphOf (fabric : FabricOf) (graph : GraphOf) : Type 0 where
  pub count : length graph.bases ≡ (switch_count fabric) * fabric.most
  pub wide : fabric.most ≤ 64 * graph.wide
  pub bases :
      (switch port next entry : ℕ) → side_of fabric switch port ≡ To next entry
      → slice_index graph.bases (switch * fabric.most + (port - 1)) ≡ next * fabric.most

-- the word of `switch` has bit `bit`
abbrev pub HasBit : List ℕ → ℕ → ℕ → Type 0
HasBit words switch bit = bit_at (slice_index words switch) bit ≡ 1

-- the words say, for each LID of `block`, at which switches routes begin
abbrev pub AreStarts : FabricOf → TablesOf → Traffic → ℕ → List ℕ → Type 0
AreStarts fabric tables traffic block words =
    (switch bit : ℕ) → bit < 64
    → (HasBit words switch bit ↔ ((source : EndPort) × Sends fabric tables traffic (64 * block + bit) source × (start_of fabric source ≡ Some switch)))

-- a link leads from `port` of `switch` to `next`
pub record IsLink (fabric : FabricOf) (switch port next : ℕ) : Type 0 where
  pub used : 0 < port
  pub low : port ≤ fabric.most
  pub within : next < switch_count fabric
  pub entry : ℕ
  pub leads : side_of fabric switch port ≡ To next entry

-- if the hop leads on, it does so over a link
abbrev pub IsByLink : FabricOf → ℕ → Hop → Type 0
IsByLink fabric switch (On port next) = IsLink fabric switch port next
IsByLink fabric switch Arrive = Unit {0}
IsByLink fabric switch (Stop cause) = Unit {0}

-- the hop at `at`, for packets to `lid`, makes channel `one` depend on channel `other`
pub record Makes (fabric : FabricOf) (tables : TablesOf) (lid at one other : ℕ) : Type 0 where
  pub port : ℕ
  pub next : ℕ
  pub on : hop fabric tables at lid ≡ On port next
  pub next_port : ℕ
  pub after : ℕ
  pub next_on : hop fabric tables next lid ≡ On next_port after
  pub is_one : one ≡ at * fabric.most + (port - 1)
  pub is_other : other ≡ next * fabric.most + (next_port - 1)

-- the bits that were seen, the dependencies, and whether a route has stopped
pub record StateOf : Type 0 where
  pub seen : List ℕ
  pub graph : GraphOf
  pub stopped : Bool

-- The hops of the pairs of switch and bit in `Kind` were taken: each shows the bit at the next switch, makes
-- a dependency, or stops.
pub record Taken (fabric : FabricOf) (tables : TablesOf) (block : ℕ) (Kind : ℕ → ℕ → Type 0) (old new : StateOf) : Type 0 where
  pub seen :
      (switch bit : ℕ)
      → (HasBit new.seen switch bit ↔ (HasBit old.seen switch bit ⊎ ((at port : ℕ) × Kind at bit × (hop fabric tables at (64 * block + bit) ≡ On port switch))))
  pub leads :
      (one other : ℕ)
      → (LeadsTo new.graph one other ↔ (LeadsTo old.graph one other ⊎ ((at bit : ℕ) × Kind at bit × Makes fabric tables (64 * block + bit) at one other)))
  pub stopped : (new.stopped ≡ true) ↔ ((old.stopped ≡ true) ⊎ ((at bit : ℕ) × Kind at bit × IsStop (hop fabric tables at (64 * block + bit))))
  pub count : length new.seen ≡ length old.seen
  pub wide : new.graph.wide ≡ old.graph.wide
  pub bases : new.graph.bases ≡ old.graph.bases

-- How far the waves over a block have come: the hops in `done` were taken, each of a bit that was seen; and
-- bits are seen only where a route comes.
pub record IsRunning (fabric : FabricOf) (tables : TablesOf) (block : ℕ) (initial now : StateOf) (done : List ℕ) : Type 0 where
  pub taken : Taken fabric tables block (HasBit done) initial now
  pub within : (switch bit : ℕ) → HasBit done switch bit → HasBit now.seen switch bit
  pub fits : (switch bit : ℕ) → HasBit done switch bit → bit < 64
  pub comes :
      (traffic : Traffic) → AreStarts fabric tables traffic block initial.seen → (switch bit : ℕ) → bit < 64 → HasBit now.seen switch bit
      → (source : EndPort) × ComesTo fabric tables traffic (64 * block + bit) source switch
  pub seen_count : length now.seen ≡ switch_count fabric
  pub done_count : length done ≡ switch_count fabric
  pub graph : IsGraphOf fabric now.graph

-- the highest number of hops that are not done
abbrev pub gap : List ℕ → ℕ
gap [] = 0
gap (word ∷ words) = (2 ^ 64 - word) + gap words

-- the hops of the fresh bits of switch `at` were taken
pub record IsTurned (fabric : FabricOf) (tables : TablesOf) (block at : ℕ) (old new : StateOf) (before after : List ℕ) : Type 0 where
  pub taken : Taken fabric tables block (λ switch bit. (switch ≡ at) × HasBit old.seen at bit × (HasBit before at bit → ⊥)) old new
  pub done : (switch bit : ℕ) → (HasBit after switch bit ↔ (HasBit before switch bit ⊎ ((switch ≡ at) × HasBit old.seen at bit)))
  pub fits : (bit : ℕ) → HasBit old.seen at bit → bit < 64
  pub count : length after ≡ length before
  pub less : gap after < gap before

-- switch `at` had no fresh bits
pub record IsIdle (at : ℕ) (old new : StateOf) (before after : List ℕ) : Type 0 where
  pub same : new ≡ old
  pub same_done : after ≡ before
  pub none : (bit : ℕ) → HasBit old.seen at bit → HasBit before at bit

-- the waves over `block` have come further
pub record IsFurther (fabric : FabricOf) (tables : TablesOf) (block : ℕ) (old new : StateOf) (before after : List ℕ) : Type 0 where
  pub running : (initial : StateOf) → IsRunning fabric tables block initial old before → IsRunning fabric tables block initial new after
  pub less : gap after < gap before

-- the route from an end port to `lid` takes the channels with numbers `one` and `other`, one directly after
-- the other
pub record TakesNumbers (fabric : FabricOf) (tables : TablesOf) (traffic : Traffic) (lid one other : ℕ) : Type 0 where
  pub source : EndPort
  pub channel : Channel
  pub next : Channel
  pub takes : Takes fabric tables traffic lid source channel next
  pub is_one : one ≡ number fabric channel
  pub is_other : other ≡ number fabric next

-- The waves over `block` have run: the dependencies of its routes were added and no other, and `told` says
-- whether one is stopped, or `had` held already.
pub record IsWaved (fabric : FabricOf) (tables : TablesOf) (traffic : Traffic) (block : ℕ) (old new : GraphOf) (had told : Bool) : Type 0 where
  pub leads :
      (one other : ℕ)
      → (LeadsTo new one other ↔ (LeadsTo old one other ⊎ ((bit : ℕ) × (bit < 64) × TakesNumbers fabric tables traffic (64 * block + bit) one other)))
  pub stopped :
      (told ≡ true) ↔ ((had ≡ true) ⊎ ((bit : ℕ) × (bit < 64) × ((source : EndPort) × IsStopped fabric tables traffic (64 * block + bit) source)))
  pub wide : new.wide ≡ old.wide
  pub bases : new.bases ≡ old.bases
