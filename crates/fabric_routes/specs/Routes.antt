-- Routes that follow forwarding tables, and which channel depends on which.
use Rattle.std.specs.Prelude.{◌≡◌, ◌≢◌, ◌<◌, ◌+◌, ◌==◌, ◌⊎◌, ℕ, zero, suc, Bool, true, false, Option, Some, None, if◌then◌else◌}
use Rattle.fabric_model.specs.declared.node.Side.{Side}
use Rattle.fabric_model.specs.declared.node.Side.TheVariants.{Bare, To, End}
use Rattle.fabric_model.specs.declared.node.EndPort.{EndPort}
use Rattle.fabric_model.specs.declared.node.EndPort.TheVariants.{Host, Switch}
use Rattle.fabric_model.specs.declared.traffic.Traffic.{Traffic}
use Rattle.fabric_model.specs.declared.traffic.Traffic.TheVariants.{Hosts, Lids, Managed, All, Rows}
use Rattle.fabric_routes.specs.declared.hop.Hop.{Hop}
use Rattle.fabric_routes.specs.declared.hop.Hop.TheVariants.{On, Arrive, Stop}
use Rattle.fabric_routes.specs.declared.hop.Outcome.{Outcome}
use Rattle.fabric_routes.specs.declared.hop.Outcome.TheVariants.{Arrives, Stops, Loops}
use Rattle.fabric_routes.specs.declared.hop.Cause.TheVariants.{Missing, Dead, Wrong}
use Rattle.fabric_model.specs.Fabric.{FabricOf, switch_count, side_of, owner_of, start_of}
use Rattle.fabric_tables.specs.Cells.{TablesOf, HasRow}

-- `ends_at_host`: packets for a LID with this owner arrive at this end port of an adapter or router;
-- `ends_at_switch`: they arrive at this switch. They arrive at the owner only, or anywhere if nobody owns the
-- LID.
abbrev pub ends_at_host : Option EndPort → ℕ → Bool
ends_at_host (Some (Host end)) other = end == other
ends_at_host (Some (Switch switch)) other = false
ends_at_host None other = true

abbrev pub ends_at_switch : Option EndPort → ℕ → Bool
ends_at_switch (Some (Host end)) other = false
ends_at_switch (Some (Switch switch)) other = switch == other
ends_at_switch None other = true

-- the hop at an end port or a switch where packets arrive, or do not
abbrev pub end_if : Bool → Hop
end_if arrives = if arrives then Arrive else Stop Wrong

-- the hop through a port with this side, by the owner of the LID: to the switch there, or to the end port
abbrev pub hop_over : Option EndPort → ℕ → Side → Hop
hop_over owner port Bare = Stop Dead
hop_over owner port (To next entry) = On port next
hop_over owner port (End end) = end_if (ends_at_host owner end)

-- the hop that the entry of the table says: port 0 is the switch itself
abbrev pub hop_by : FabricOf → ℕ → ℕ → Option ℕ → Hop
hop_by fabric switch lid None = Stop Missing
hop_by fabric switch lid (Some port) = if port == 0
    then end_if (ends_at_switch (owner_of fabric lid) switch)
    else hop_over (owner_of fabric lid) port (side_of fabric switch port)

-- what `switch` does with packets for `lid`
unfoldable pub hop : FabricOf → TablesOf → ℕ → ℕ → Hop
hop fabric tables switch lid = hop_by fabric switch lid (tables switch lid)

-- `end`, an end port of an adapter or router, is cabled to a switch
abbrev pub IsCabled : FabricOf → ℕ → Type 0
IsCabled fabric end = (switch : ℕ) × (start_of fabric (Host end) ≡ Some switch)

-- the end port sends, in this traffic
abbrev pub IsSource : FabricOf → Traffic → EndPort → Type 0
IsSource fabric traffic (Host end) = IsCabled fabric end
IsSource fabric Hosts (Switch switch) = ⊥
IsSource fabric Lids (Switch switch) = ⊥
IsSource fabric Managed (Switch switch) = switch < switch_count fabric
IsSource fabric All (Switch switch) = switch < switch_count fabric
IsSource fabric Rows (Switch switch) = switch < switch_count fabric

-- others send to the LIDs of the end port, in this traffic
abbrev pub IsTarget : FabricOf → Traffic → EndPort → Type 0
IsTarget fabric traffic (Host end) = IsCabled fabric end
IsTarget fabric Hosts (Switch switch) = ⊥
IsTarget fabric Lids (Switch switch) = Unit {0}
IsTarget fabric Managed (Switch switch) = Unit {0}
IsTarget fabric All (Switch switch) = Unit {0}
IsTarget fabric Rows (Switch switch) = Unit {0}

-- the traffic lets `source` send to `owner`: in `Managed`, switches do not send to one another
abbrev pub MayWrite : Traffic → (source owner : EndPort) → Type 0
MayWrite Hosts source owner = Unit {0}
MayWrite Lids source owner = Unit {0}
MayWrite Managed (Host end) owner = Unit {0}
MayWrite Managed (Switch switch) (Host end) = Unit {0}
MayWrite Managed (Switch switch) (Switch other) = ⊥
MayWrite All source owner = Unit {0}
MayWrite Rows source owner = Unit {0}

-- `source` sends to `lid`, which another end port owns
pub record SendsToOwner (fabric : FabricOf) (traffic : Traffic) (lid : ℕ) (source : EndPort) : Type 0 where
  pub is_source : IsSource fabric traffic source
  pub owner : EndPort
  pub owns : owner_of fabric lid ≡ Some owner
  pub is_target : IsTarget fabric traffic owner
  pub may : MayWrite traffic source owner
  pub other : source ≢ owner

-- `source` sends to `lid`, which nobody owns: the traffic is `Rows`, and at least one switch has a port for
-- `lid`
pub record SendsToNobody (fabric : FabricOf) (tables : TablesOf) (traffic : Traffic) (lid : ℕ) (source : EndPort) : Type 0 where
  pub by_rows : traffic ≡ Rows
  pub is_source : IsSource fabric traffic source
  pub unowned : owner_of fabric lid ≡ None
  pub has_row : HasRow tables lid

-- `source` sends to `lid`
abbrev pub Sends : FabricOf → TablesOf → Traffic → ℕ → EndPort → Type 0
Sends fabric tables traffic lid source =
    SendsToOwner fabric traffic lid source ⊎ SendsToNobody fabric tables traffic lid source

-- `hops` hops lead from `start` to `at`, if `hop_at` says what each switch does
abbrev pub WalksBy : (ℕ → Hop) → ℕ → ℕ → ℕ → Type 0
WalksBy hop_at zero start at = start ≡ at
WalksBy hop_at (suc hops) start at =
    (before port : ℕ) × WalksBy hop_at hops start before × (hop_at before ≡ On port at)

-- hops that follow the tables, for packets to `lid`
abbrev pub ComesBy : FabricOf → TablesOf → ℕ → ℕ → ℕ → ℕ → Type 0
ComesBy fabric tables lid = WalksBy (λ at. hop fabric tables at lid)

-- the route from `source` to `lid` comes to `at`
pub record ComesTo (fabric : FabricOf) (tables : TablesOf) (traffic : Traffic) (lid : ℕ) (source : EndPort) (at : ℕ) : Type 0 where
  pub sends : Sends fabric tables traffic lid source
  pub start : ℕ
  pub begins : start_of fabric source ≡ Some start
  pub hops : ℕ
  pub comes : ComesBy fabric tables lid hops start at

-- a link, in the direction out of a port of a switch
pub record Channel : Type 0 where
  pub switch : ℕ
  pub port : ℕ

-- the route from `source` to `lid` uses `channel` and then, directly, `next`
pub record Takes (fabric : FabricOf) (tables : TablesOf) (traffic : Traffic) (lid : ℕ) (source : EndPort) (channel next : Channel) : Type 0 where
  pub comes : ComesTo fabric tables traffic lid source channel.switch
  pub first : hop fabric tables channel.switch lid ≡ On channel.port next.switch
  pub after : ℕ
  pub second : hop fabric tables next.switch lid ≡ On next.port after

-- the hop neither leads on nor arrives
abbrev pub IsStop : Hop → Type 0
IsStop (On port next) = ⊥
IsStop Arrive = ⊥
IsStop (Stop cause) = Unit {0}

-- the route from `source` to `lid` stops at a switch
abbrev pub IsStopped : FabricOf → TablesOf → Traffic → ℕ → EndPort → Type 0
IsStopped fabric tables traffic lid source =
    (at : ℕ) × ComesTo fabric tables traffic lid source at × IsStop (hop fabric tables at lid)

-- `channel` depends on `next`: at least one route uses `channel` and then, directly, `next`
abbrev pub DependsOn : FabricOf → TablesOf → Traffic → Channel → Channel → Type 0
DependsOn fabric tables traffic channel next =
    (lid : ℕ) × (source : EndPort) × Takes fabric tables traffic lid source channel next

-- the route from `start` ends in this way: it arrives through that many switches, or stops, or goes on for
-- ever
abbrev pub EndsAs : (ℕ → Hop) → ℕ → Outcome → Type 0
EndsAs hop_at start (Arrives switches) =
    (hops at : ℕ) × WalksBy hop_at hops start at × (hop_at at ≡ Arrive) × (switches ≡ hops + 1)
EndsAs hop_at start (Stops cause) = (hops at : ℕ) × WalksBy hop_at hops start at × (hop_at at ≡ Stop cause)
EndsAs hop_at start Loops = (hops : ℕ) → (at : ℕ) × WalksBy hop_at hops start at
