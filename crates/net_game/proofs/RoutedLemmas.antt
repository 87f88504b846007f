-- The rows of a tree join all its members.

use Rattle.std.proofs.Common.{◌≡◌, subst, ℕ, ◌≤◌, List, [], length, arith, Bool, false, true}
use Rattle.an_base.specs.Values.{EntryOf}
use Rattle.net_script.specs.Scripts.{ScriptOf}
use Rattle.an_base.specs.declared.event.Event.{Event}
use Rattle.topo_graph.specs.Topology.{IsGraph, IsTree}
use Rattle.updown.proofs.RouteLemmas.{legal_none, down_none}
use Rattle.table_build.specs.Exits.{LeadsTo, may_go_up}
use Rattle.table_build.specs.Laws.{Follows, IsShortest}
use Rattle.table_build.proofs.WayLaws.{follow_way, follow_nearer}
use Rattle.table_build.proofs.LengthLaws.{follow_short, follow_exit}
use Rattle.table_build.proofs.CycleLaws.{no_cycle}
use Rattle.net_world.specs.Clauses.{AreRouted, AreTopologies, AreAllRouted}

shortest_follows : (es : List EntryOf) (any : Bool) (y x out n : ℕ) (ps : List ℕ) → IsGraph es → any ≡ false → Follows es any y x 0 ps y out → IsShortest es true x y n → length ps ≡ n
shortest_follows es any y x out n ps graph is follows shortest =
    let near = follow_nearer es y x 0 y out n ps graph (subst (λ (b : Bool). Follows es b y x 0 ps y out) is follows) shortest in
    let none : near.0 ≤ 0 = near.2.least [] (stay (may_go_up es y out)) in
    let count = near.1 in
    omega (arith, none, count)
  where
    stay : (u : Bool) → LeadsTo es u y [] y
    stay true = legal_none es y
    stay false = down_none es y

-- the rows of a tree join all its members
pub joins_all : (es : List EntryOf) (any : Bool) → IsGraph es → IsTree es → AreRouted es any
joins_all es any graph tree = record {
  goes_on = λ y x z out ps low far follows other. follow_exit es any y x z out ps graph tree low far follows other;
  ends = λ y x z out ps low follows. follow_short es any y x 0 z out ps graph low follows;
  legal = λ y x z out ps follows. follow_way es any y x 0 z out ps graph follows;
  least = λ y x out n ps is follows shortest. shortest_follows es any y x out n ps graph is follows shortest;
  no_cycle = λ n a walk. no_cycle es any n a graph walk;
}

-- so all topologies do
pub all_routed : (script : ScriptOf) (history : List Event) → AreTopologies script history → AreAllRouted script history
all_routed script history are x epoch t finished = let is = are x epoch t finished in joins_all t.entries script.any_routes is.graph is.tree
