-- All that is claimed of a history.

use Rattle.std.specs.Prelude.{◌≡◌, ◌<◌, ℕ, List, Some, length}
use Rattle.an_base.specs.Values.{EndId}
use Rattle.an_base.specs.declared.event.Event.{Event}
use Rattle.net_script.specs.Scripts.{ScriptOf, IsScript}
use Rattle.switch_core.specs.Switch.{good_peer}
use Rattle.net_world.specs.Clauses.{AreTopologies, HoldsAt, HoldsThroughout}
use Rattle.net_world.specs.World.{world_after}
use Rattle.net_game.specs.Meeting.{Met}
use Rattle.net_game.specs.Lives.{all_lives}
use Rattle.net_game.proofs.LivesLemmas.{firm, lives_few}
use Rattle.net_game.proofs.ClauseLemmas.{one_picture, topologies}
use Rattle.net_game.proofs.RoutedLemmas.{all_routed}
use Rattle.net_game.proofs.OwnTables.{own_tables, none_is_older}
use Rattle.net_game.proofs.SettledLemmas.{if_settled}
use Rattle.net_game.proofs.TraceLemmas.{hops_by_tables}
use Rattle.net_game.proofs.DeliveredLemmas.{delivered}
use Rattle.net_game.proofs.PeerFacts.{good_peer_ok}
use Rattle.net_game.proofs.WiredLemmas.{all_met}
use Rattle.net_game.proofs.RouteLemmas.{legal_routes}

-- all that is claimed after a history
pub holds_at : (script : ScriptOf) → IsScript script → (h : List Event) → HoldsAt script h
holds_at script kept h =
    let lives = all_lives script in
    let are : AreTopologies script h = topologies script lives (lives_few script kept) kept (firm script kept) h in
    record {
      picture = one_picture script lives (lives_few script kept) kept (firm script kept) h;
      topologies = are;
      routed = all_routed script h are;
      tables = own_tables script lives (lives_few script kept) kept (firm script kept) h;
      older = none_is_older script lives (lives_few script kept) kept (firm script kept) h;
      traces = record {
        hops = hops_by_tables script lives (lives_few script kept) kept (firm script kept) h;
        routes = legal_routes script lives (lives_few script kept) kept (firm script kept) h;
        delivered = delivered script kept h;
      };
    }

-- and of all its moments, and its end
pub holds_throughout : (script : ScriptOf) → IsScript script → (h : List Event) → HoldsThroughout script h
holds_throughout script kept h = record {
  moments = λ before later is. holds_at script kept before;
  settled = if_settled script (all_lives script) (lives_few script kept) kept (firm script kept) h;
}

-- who is a good peer
pub good_met : (script : ScriptOf) → IsScript script → (h : List Event) (s p : ℕ) (e : EndId) → s < length script.wires.switches → good_peer ((world_after script h).switches s) p ≡ Some e → Met script h s ((world_after script h).switches s).life p e
good_met script kept h s p e low good =
    let u = (world_after script h).switches s in
    good_peer_ok (Met script h s u.life p) u p e (((all_met script (all_lives script) kept (firm script kept) h).switches s low).ports p) good
