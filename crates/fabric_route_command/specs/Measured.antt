-- How good tables are.

use Rattle.std.specs.Prelude.{◌≡◌, ◌≢◌, ◌≤◌, ◌+◌, ℕ}
use Rattle.fabric_tables.specs.Cells.{TablesOf}
use Rattle.fabric_counts.specs.Counts.{IsOf, IsOneThat, IsOneThatArrives, Route}
use Rattle.fabric_model.specs.Fabric.{FabricOf}
use Rattle.fabric_routes.specs.Counting.{IsCountOf}
use Rattle.fabric_routes.specs.declared.hop.Hop.TheVariants.{On}
use Rattle.fabric_routes.specs.declared.hop.Outcome.TheVariants.{Arrives}
use Rattle.fabric_model.specs.declared.traffic.Traffic.TheVariants.{Hosts}
use Rattle.fabric_routes.specs.Routes.{Channel, ComesTo, hop}
use Rattle.fabric_route_command.specs.declared.measured.Measured.{Measured}

-- a route between end ports of adapters and routers arrives
abbrev pub IsOneArriving : FabricOf → TablesOf → Route → Type 0
IsOneArriving fabric tables = IsOneThatArrives fabric tables (IsOf fabric tables Hosts)

-- it arrives, and goes over so many links between switches: it goes through one switch more
abbrev pub ArrivesOver : FabricOf → TablesOf → (links : ℕ) → Route → Type 0
ArrivesOver fabric tables links = IsOneThat fabric tables (IsOf fabric tables Hosts) (Arrives (links + 1))

-- it arrives, and goes over a channel: it comes to a switch, which sends it out of this port
pub record GoesOver (fabric : FabricOf) (tables : TablesOf) (channel : Channel) (route : Route) : Type 0 where
  pub arrives : IsOneArriving fabric tables route
  pub comes : ComesTo fabric tables Hosts route.lid route.source channel.switch
  pub next : ℕ
  pub goes : hop fabric tables channel.switch route.lid ≡ On channel.port next

-- The most of these routes that go over one channel.
-- Over no channel go more, and over some channel just so many, unless this is 0.
pub record IsGreatestLoad (fabric : FabricOf) (tables : TablesOf) (greatest : ℕ) : Type 0 where
  pub most :
      (channel : Channel)
      → (load : ℕ) × IsCountOf (GoesOver fabric tables channel) load × (load ≤ greatest)
  pub some : greatest ≢ 0 → (channel : Channel) × IsCountOf (GoesOver fabric tables channel) greatest

-- How many of these routes arrive.
-- How many channels they go over together: a route counts once for each of its own.
-- Over how many links the longest of them goes, 0 if none arrives.
-- And the most of them that go over one channel.
pub record AreMeasures (fabric : FabricOf) (tables : TablesOf) (of : Measured) : Type 0 where
  pub routes : IsCountOf (IsOneArriving fabric tables) of.routes
  pub hops : IsCountOf {A = Route × Channel} (λ pair. GoesOver fabric tables pair.1 pair.0) of.hops
  pub most : (route : Route) (links : ℕ) → ArrivesOver fabric tables links route → links ≤ of.longest
  pub some : of.longest ≢ 0 → (route : Route) × ArrivesOver fabric tables of.longest route
  pub greatest : IsGreatestLoad fabric tables of.greatest
