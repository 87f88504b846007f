-- What is claimed at each point in time of a history, and of a settled one.

use Rattle.std.specs.Prelude.{◌≡◌, ◌≢◌, ◌-◌, ◌*◌, ◌<◌, ◌≤◌, ℕ, suc, List, ◌∷◌, ◌++◌, length, Some, Bool, false, true, Any, Contains, IsTrue}
use Rattle.std.specs.Ordering.{is_le}
use Rattle.an_base.specs.Values.{LifeId, EntryOf, TopoOf}
use Rattle.an_base.specs.Numbers.{AreNumbers}
use Rattle.an_base.specs.Order.{life_cmp}
use Rattle.an_base.specs.declared.event.Event.{Event}
use Rattle.an_base.specs.declared.event.Event.TheVariants.{Load}
use Rattle.net_script.specs.Scripts.{ScriptOf}
use Rattle.switch_numbering.specs.Numbering.{numbering}
use Rattle.topo_graph.specs.Topology.{IsGraph, IsTree}
use Rattle.updown.specs.Routes.{LegalRoute}
use Rattle.table_build.specs.Exits.{Begins, may_go_up}
use Rattle.table_build.specs.Laws.{IsShortest, Follows, ChannelWalk}
use Rattle.table_build.specs.Tables.{IsTableOf}
use Rattle.switch_core.specs.Switch.{good_links, good_peer, finish_of, end_at}
use Rattle.switch_core.specs.declared.switch.TableFor.{TableFor}
use Rattle.net_state.specs.declared.ending.Ending.TheVariants as ending
use Rattle.net_state.specs.Fabric.{station, count}
use Rattle.net_world.specs.Lines.{root_of}
use Rattle.net_world.specs.World.{WorldOf, world_after}
use Rattle.net_world.specs.Histories.{end_of, in_use, switch_after}
use Rattle.net_world.specs.Traces.{AreTraced}

-- life `life` has finished `epoch` with topology `topo`, now or at an earlier point in time
pub record FinishedAt (script : ScriptOf) (history : List Event) (life : LifeId) (epoch : ℕ)
    (topo : TopoOf) : Type 0 where
  pub before : List Event
  pub later : List Event
  pub moment : history ≡ before ++ later
  pub place : ℕ
  pub within : place < length script.wires.switches
  pub life_is : (switch_after script before place).life ≡ life
  pub epoch_is : (switch_after script before place).epoch ≡ epoch
  pub finished : finish_of (switch_after script before place) ≡ Some topo

-- lives that finished the same epoch under the same root hold the same topology and numbering
abbrev pub AreOnePicture : ScriptOf → List Event → Type 0
AreOnePicture script history = (one other : LifeId) (epoch : ℕ) (topo same : TopoOf)
    → FinishedAt script history one epoch topo → FinishedAt script history other epoch same
    → root_of topo ≡ root_of same → topo ≡ same

-- `topo` is a tree over its links, `life` is a member of it, and its numbers are as its numbering gives them:
-- different, and from 1 to 126
pub record IsTopology (life : LifeId) (topo : TopoOf) : Type 0 where
  pub graph : IsGraph topo.entries
  pub tree : IsTree topo.entries
  pub member : Any (λ entry. entry.life ≡ life) topo.entries
  pub numbers : topo.numbers ≡ numbering topo.entries
  pub different : AreNumbers topo.numbers

-- everything that a life has finished an epoch with is a topology
abbrev pub AreTopologies : ScriptOf → List Event → Type 0
AreTopologies script history = (life : LifeId) (epoch : ℕ) (topo : TopoOf)
    → FinishedAt script history life epoch topo → IsTopology life topo

-- the rows of a topology join all members, along the legal routes that the script's tables have, and no channel leads
-- back to itself; members are given by their indices among the entries, and what starts at one comes in on entry 0
pub record AreRouted (entries : List EntryOf) (any : Bool) : Type 0 where
  -- whoever follows the rows towards a member and is not there yet finds an exit towards it
  pub goes_on : (to from at entry : ℕ) (ports : List ℕ) → from < length entries → to < length entries
      → Follows entries any to from 0 ports at entry → at ≢ to
      → (port : ℕ) × Begins entries any (may_go_up entries at entry) at to port
  -- whoever follows the rows has crossed at most 2 (n - 1) links, where n is the number of members
  pub ends : (to from at entry : ℕ) (ports : List ℕ) → from < length entries
      → Follows entries any to from 0 ports at entry → length ports ≤ 2 * (length entries - 1)
  -- whoever follows the rows takes a legal route
  pub legal : (to from at entry : ℕ) (ports : List ℕ) → Follows entries any to from 0 ports at entry
      → LegalRoute entries from ports at
  -- unless the tables have all legal routes, whoever follows the rows to a member takes a shortest one
  pub least : (to from entry links : ℕ) (ports : List ℕ) → any ≡ false
      → Follows entries any to from 0 ports to entry → IsShortest entries true from to links
      → length ports ≡ links
  -- no channel leads back to itself, by one step or more
  pub no_cycle : (steps : ℕ) (channel : ℕ × ℕ) → ChannelWalk entries any (suc steps) channel channel → ⊥

-- the rows of every topology that a life has finished an epoch with join its members
abbrev pub AreAllRouted : ScriptOf → List Event → Type 0
AreAllRouted script history = (life : LifeId) (epoch : ℕ) (topo : TopoOf)
    → FinishedAt script history life epoch topo → AreRouted topo.entries script.any_routes

-- a table in use is the routing table, for the current life, of the topology that this life finished the table's epoch
-- with
abbrev pub AreOwnTables : ScriptOf → List Event → Type 0
AreOwnTables script history = (place : ℕ) (table : TableFor) → place < length script.wires.switches
    → in_use script history place ≡ Some table
    → (topo : TopoOf) × FinishedAt script history (switch_after script history place).life table.epoch topo
    × IsTableOf topo.entries topo.numbers script.any_routes (switch_after script history place).life
    table.table

-- at a point in time of the history, the switch at index `place`, which has finished with `topo`, loads its table; the
-- load need not be lawful there
pub record IsLoadOf (script : ScriptOf) (history before : List Event) (place : ℕ) (later : List Event)
    (topo : TopoOf) : Type 0 where
  pub parts : history ≡ before ++ Load place ∷ later
  pub finished : finish_of (switch_after script before place) ≡ Some topo

-- once a table of an epoch is loaded, no member of its topology uses a table of a lower epoch, then or later
abbrev pub NoneIsOlder : ScriptOf → List Event → Type 0
NoneIsOlder script history = (before later : List Event) (place member : ℕ) (topo : TopoOf) (table : TableFor)
    → IsLoadOf script history before place later topo → member < length script.wires.switches
    → Any (λ entry. entry.life ≡ (switch_after script history member).life) topo.entries
    → in_use script history member ≡ Some table → (switch_after script before place).epoch ≤ table.epoch

-- what is claimed after a history
pub record HoldsAt (script : ScriptOf) (history : List Event) : Type 0 where
  pub picture : AreOnePicture script history
  pub topologies : AreTopologies script history
  pub routed : AreAllRouted script history
  pub tables : AreOwnTables script history
  pub older : NoneIsOlder script history
  pub traces : AreTraced script history

-- what is claimed holds at each point in time of a history: after each of its prefixes
abbrev pub HoldsAtEachMoment : ScriptOf → List Event → Type 0
HoldsAtEachMoment script history =
    (before later : List Event) → history ≡ before ++ later → HoldsAt script before

-- two switches are linked: each has a good port, and each of these ports is the far end of the other, in the current
-- life of its switch
pub record AreLinked (world : WorldOf) (one other : ℕ) : Type 0 where
  pub one_within : one < count world.fabric
  pub other_within : other < count world.fabric
  pub one_port : ℕ
  pub other_port : ℕ
  pub there : good_peer (world.switches one) one_port ≡ Some (end_at (world.switches other) other_port)
  pub back : good_peer (world.switches other) other_port ≡ Some (end_at (world.switches one) one_port)

-- the component of a switch: itself, and each switch that is linked to one of it
pub data IsWith (world : WorldOf) (place : ℕ) : ℕ → Type 0 where
  itself : IsWith world place place
  next : (one other : ℕ) → IsWith world place one → AreLinked world one other → IsWith world place other

-- the switch at index `root` has the least life of its component
pub record IsRootOf (world : WorldOf) (place root : ℕ) : Type 0 where
  pub within : IsWith world place root
  pub least : (other : ℕ) → IsWith world place other
      → IsTrue (is_le (life_cmp (world.switches root).life (world.switches other).life))

-- the entry belongs to a member of the component, and has its good links
pub record HasMember (world : WorldOf) (from : ℕ) (entry : EntryOf) : Type 0 where
  pub place : ℕ
  pub within : IsWith world from place
  pub life : entry.life ≡ (world.switches place).life
  pub links : entry.links ≡ good_links (world.switches place)

-- the table in use at index `place` is the routing table, for the current life, of `topo` in the current epoch
pub record UsesTableOf (world : WorldOf) (place : ℕ) (topo : TopoOf) : Type 0 where
  pub used : TableFor
  pub in_use : (station world.fabric place).table ≡ Some used
  pub epoch : used.epoch ≡ (world.switches place).epoch
  pub table : IsTableOf topo.entries topo.numbers (world.switches place).any (world.switches place).life
      used.table

-- the component of the switch at index `place` has finished as itself: all members are in one epoch, which they have
-- finished with one topology, under the least life of the component; its entries are those of the members, with their
-- good links, and no others; and the switch uses its table of that topology
pub record IsFinishedAsItself (world : WorldOf) (place : ℕ) : Type 0 where
  pub root : ℕ
  pub is_root : IsRootOf world place root
  pub topo : TopoOf
  pub epoch : (other : ℕ) → IsWith world place other
      → (world.switches other).epoch ≡ (world.switches place).epoch
  pub finished : (other : ℕ) → IsWith world place other → finish_of (world.switches other) ≡ Some topo
  pub under : root_of topo ≡ (world.switches root).life
  pub each : (entry : EntryOf) → Contains topo.entries entry → HasMember world place entry
  pub whole : (other : ℕ) → IsWith world place other
      → Any (λ entry. entry.life ≡ (world.switches other).life) topo.entries
  pub topology : IsTopology (world.switches place).life topo
  pub loaded : UsesTableOf world place topo

-- each component has finished as itself
abbrev pub AreFinished : WorldOf → Type 0
AreFinished world = (place : ℕ) → place < count world.fabric → IsFinishedAsItself world place

-- if a history ends settled, each component has finished as itself
abbrev pub IfSettled : ScriptOf → List Event → Type 0
IfSettled script history =
    end_of script history ≡ Some ending.Settled → AreFinished (world_after script history)

-- all that is claimed of a history: what holds at each point in time, and what has finished if it ends settled
pub record HoldsThroughout (script : ScriptOf) (history : List Event) : Type 0 where
  pub moments : HoldsAtEachMoment script history
  pub settled : IfSettled script history
