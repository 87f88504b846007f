-- Whoever finished, finished in the game; one picture, and topologies.

use Rattle.std.specs.Prelude.{◌≡◌, ◌<◌, ◌≤◌, ℕ, length, List, [], ◌∷◌, Option, Some, None, slice_index_or, Bool, true, false, cond, refl, Contains, Any}
use Rattle.std.proofs.Common.{sym, ◌∙◌, ap, subst, arith}
use Rattle.std.proofs.lemmas.List.{append-nil}
use Rattle.an_base.specs.Values.{LifeId, EntryOf, TopoOf}
use Rattle.an_base.specs.Numbers.{AreNumbers}
use Rattle.an_base.specs.declared.event.Event.{Event}
use Rattle.net_script.specs.Scripts.{ScriptOf, IsScript}
use Rattle.switch_numbering.specs.Numbering.{numbering}
use Rattle.topo_graph.specs.Topology.{entry_at}
use Rattle.epoch_core.specs.Epoch.{finish, own_entry}
use Rattle.epoch_game.specs.Slice.{Node, Slice, Run, nobody}
use Rattle.epoch_game.specs.Detection.{start}
use Rattle.epoch_game.specs.Game.{slice, HasFinished as FinishedIn}
use Rattle.epoch_game.proofs.Basics.{none_some}
use Rattle.epoch_game.proofs.StreamLemmas.{nodes}
use Rattle.epoch_game.proofs.FinishLemmas.{finished_under, finished_alike}
use Rattle.epoch_game.proofs.TopologyLemmas.{is_tree}
use Rattle.epoch_game.proofs.GameLemmas.{play_run}
use Rattle.switch_core.specs.Switch.{SwitchOf, finish_of}
use Rattle.table_build.specs.Tables.{IsTableOf}
use Rattle.switch_game.proofs.Laws.{agrees, later, plays}
use Rattle.switch_game.proofs.Members.{has_finished}
use Rattle.table_build.specs.Made.{table_of}
use Rattle.net_world.specs.World.{world_after}
use Rattle.net_world.specs.Clauses.{FinishedAt, IsTopology, AreOnePicture, AreTopologies}
use Rattle.net_world.specs.Histories.{switch_after}
use Rattle.net_game.specs.Embedding.{IsEmbedded}
use Rattle.net_game.specs.Lives.{powered}
use Rattle.net_game.specs.Moves.{game_after}
use Rattle.net_game.proofs.Firm.{places, AreFirm}
use Rattle.table_build.proofs.MadeTables.{made_table}
use Rattle.net_game.proofs.RangedBodies.{finish_ranged}
use Rattle.net_game.proofs.EmbedLemmas.{all_ranged, embedded}
use Rattle.switch_numbering.proofs.Differing.{length-numbering}

-- what a switch has finished with at a moment, its life has finished with in the game
pub finished_in : (script : ScriptOf) (lives : List LifeId) (h : List Event) (w : IsEmbedded script lives h) (x : LifeId) (e : ℕ) (t : TopoOf) → FinishedAt script h x e t → (f : FinishedIn (game_after script h) x e) × (f.topology ≡ t)
finished_in script lives h w x e t f =
    let m = w.moments f.before f.later f.moment in
    let on = powered script in
    let g = game_after script f.before in
    let u = switch_after script f.before f.place in
    let is : m.earlier.switches x ≡ u = ap m.earlier.switches (sym f.life_is) ∙ m.is_in.switches f.place f.within in
    let at = agrees lives on m.earlier g x m.is_in.happens in
    let done = has_finished lives on.epoch g (game_after script h) x (m.earlier.switches x) t (plays lives on m.earlier g m.is_in.happens) (later lives on m.earlier w.network g (game_after script h) m.is_in.happens m.since) at (ap finish_of is ∙ f.finished) in
    subst (λ (n : ℕ). (d : FinishedIn (game_after script h) x n) × (d.topology ≡ t)) (ap (λ (v : SwitchOf). v.epoch) is ∙ f.epoch_is) done

-- so it is a node of the final game
pub record Done (lives : List LifeId) (s : Slice) (x : LifeId) (t : TopoOf) : Type 0 where
  pub run : Run lives nobody s
  pub node : Node
  pub joined : s x ≡ Some node
  pub finish_is : finish node.card node.log ≡ Some t

pub done_in : (script : ScriptOf) (lives : List LifeId) (h : List Event) (w : IsEmbedded script lives h) (x : LifeId) (e : ℕ) (t : TopoOf) → FinishedAt script h x e t → Done lives (slice e (game_after script h)) x t
done_in script lives h w x e t f =
    let d = finished_in script lives h w x e t f in
    record {
      run = play_run lives (powered script).epoch (game_after script h) e (plays lives (powered script) w.network (game_after script h) w.is_in.happens);
      node = d.0.node;
      joined = d.0.joined;
      finish_is = d.0.finish ∙ ap (λ (k : TopoOf). Some k) d.1;
    }

pub first_in : (xs : List EntryOf) (d : EntryOf) → 0 < length xs → Contains xs (slice_index_or xs 0 d)
first_in [] d some = absurd (omega arith)
first_in (x ∷ xs) d some = (0, omega arith, refl)

-- a topology has a first entry
has_first : (lives : List LifeId) (s : Slice) (x : LifeId) (t : TopoOf) → length lives ≤ 126 → Done lives s x t → Contains t.entries (entry_at t.entries 0)
has_first lives s x t few d =
    let u = finished_under lives s few d.run x d.node t d.joined d.finish_is in
    let some = (u.entries (own_entry u.was.node.card u.was.node.log)).1 (record { life = u.root; node = u.was.node; reached = start; joined = u.was.joined; is = refl }) in
    first_in t.entries _ (omega (arith, some.1))

pub one_picture : (script : ScriptOf) (lives : List LifeId) → length lives ≤ 126 → IsScript script → AreFirm script lives → (h : List Event) → AreOnePicture script h
one_picture script lives few kept firm h x y e t u fx fy root =
    let w = embedded script lives kept firm h in
    let s = slice e (game_after script h) in
    let a = done_in script lives h w x e t fx in
    let b = done_in script lives h w y e u fy in
    finished_alike lives s x y a.node b.node t u (entry_at t.entries 0) (entry_at u.entries 0) few a.run a.joined b.joined a.finish_is b.finish_is (has_first lives s x t few a) (has_first lives s y u few b) root

-- what is contained holds of some
pub any_from : {A : Type 0} (P : A → Type 0) (xs : List A) (x : A) → P x → Contains xs x → Any P xs
any_from P xs x holds has = (has.0, x, has.1, has.2, holds)

-- a switch has finished now
pub finished_now : (script : ScriptOf) (h : List Event) (topo : TopoOf) (s : ℕ) → s < places script → finish_of ((world_after script h).switches s) ≡ Some topo → FinishedAt script h ((world_after script h).switches s).life ((world_after script h).switches s).epoch topo
finished_now script h topo s low is = record {
  before = h;
  later = [];
  moment = sym (append-nil h);
  place = s;
  within = low;
  life_is = refl;
  epoch_is = refl;
  finished = is;
}

-- what is finished has numbers within the ranges of frames
are_numbered : (script : ScriptOf) (lives : List LifeId) → IsScript script → AreFirm script lives → (h : List Event) (x : LifeId) (epoch : ℕ) (t : TopoOf) → FinishedAt script h x epoch t → AreNumbers t.numbers
are_numbered script lives kept firm h x epoch t f =
    let u = switch_after script f.before f.place in
    let r = all_ranged script lives kept firm f.before f.place f.within in
    (finish_ranged u.card u.log t r.card_is r.log_is (by u.joined (finish u.card u.log) f.finished)).numbers
  where
    by : (b : Bool) (o : Option TopoOf) → cond b o None ≡ Some t → o ≡ Some t
    by true o is = is
    by false o is = absurd (none_some is)

pub topologies : (script : ScriptOf) (lives : List LifeId) → length lives ≤ 126 → IsScript script → AreFirm script lives → (h : List Event) → AreTopologies script h
topologies script lives few kept firm h x e t f =
    let w = embedded script lives kept firm h in
    let s = slice e (game_after script h) in
    let d = done_in script lives h w x e t f in
    let u = finished_under lives s few d.run x d.node t d.joined d.finish_is in
    let tree = is_tree lives s x d.node t few d.run d.joined d.finish_is in
    record {
      graph = tree.0;
      tree = tree.1;
      member = any_from (λ e. e.life ≡ x) t.entries (own_entry d.node.card d.node.log) (nodes lives s d.run x d.node d.joined).0.me
          ((u.entries (own_entry d.node.card d.node.log)).1 (record { life = x; node = d.node; reached = u.reached; joined = d.joined; is = refl }));
      numbers = subst (λ (k : TopoOf). k.numbers ≡ numbering k.entries) (sym u.topology) refl;
      different = are_numbered script lives kept firm h x e t f;
    }

-- the table of a topology for the life that it has
pub topology_table : (life : LifeId) (t : TopoOf) (any : Bool) → IsTopology life t → IsTableOf t.entries t.numbers any life (table_of t any life)
topology_table life t any is = made_table t any life is.graph is.different (ap (λ (ns : List ℕ). length ns) is.numbers ∙ length-numbering t.entries) is.member
