-- The links of each life that joined an epoch, and of each topology, lead to who was at their far ends.

use Rattle.std.specs.Prelude.{◌≡◌, ◌==◌, ◌<◌, ◌≤◌, ◌++◌, nat_lt, ℕ, length, map, cond, List, [], ◌∷◌, Option, Some, None, Bool, true, false, refl}
use Rattle.std.specs.Ordering.{is_eq}
use Rattle.std.proofs.Common.{sym, ◌∙◌, ap, subst}
use Rattle.std.proofs.lemmas.Bool.{cond_both}
use Rattle.an_base.specs.Values.{LifeId, EndId, PeerAt, EntryOf, TopoOf}
use Rattle.an_base.specs.Order.{life_cmp, LivesRise}
use Rattle.an_base.specs.Frames.{CarryOf}
use Rattle.an_base.specs.declared.body.Body.{Body}
use Rattle.an_base.specs.declared.event.Event.{Event}
use Rattle.an_base.specs.declared.event.Event.TheVariants.{Handle, Load}
use Rattle.an_base.specs.declared.frame.Frame.{Frame}
use Rattle.an_base.specs.declared.frame.Frame.TheVariants.{Carry, Ack, Probe, Reply}
use Rattle.an_base.proofs.LifeLemmas.{same_life}
use Rattle.net_script.specs.Scripts.{ScriptOf, IsScript}
use Rattle.topo_report.proofs.Members.{in_from}
use Rattle.topo_graph.specs.Topology.{far_of, life_at}
use Rattle.topo_graph.proofs.FarLemmas.{far_is_link}
use Rattle.frame_codec.specs.Reading.{frame_of}
use Rattle.epoch_core.specs.Log.{CardOf, Log}
use Rattle.epoch_game.specs.Slice.{Node, with_node}
use Rattle.epoch_game.specs.Game.{Game, slice, after_accept, after_join, with_node_in}
use Rattle.epoch_game.proofs.Basics.{none_some, some_same}
use Rattle.epoch_game.proofs.FinishLemmas.{finished_under}
use Rattle.epoch_game.proofs.StreamLemmas.{nodes}
use Rattle.port_monitor.specs.Histories.{History}
use Rattle.ordered_link.specs.Receiving.{accepted_by}
use Rattle.switch_core.specs.Switch.{SwitchOf, counts, finish_of}
use Rattle.switch_core.specs.Steps.{clocked, joins}
use Rattle.switch_game.specs.Network.{all_accepted, body_moves, carry_moves, frame_moves}
use Rattle.net_state.specs.declared.hand.Hand.{Hand}
use Rattle.net_state.specs.declared.hand.Hand.TheVariants as hand
use Rattle.net_state.specs.Fabric.{station, held_bytes}
use Rattle.net_state.specs.Lawful.{is_lawful}
use Rattle.net_state.proofs.LawfulLemmas.{lawful_is}
use Rattle.net_state.proofs.ReadyLemmas.{handle_ready}
use Rattle.net_world.specs.Acts.{hears}
use Rattle.net_world.specs.Heard.{acts_of, at_place, handles_as, loads_as}
use Rattle.net_world.specs.Clauses.{FinishedAt}
use Rattle.net_world.specs.World.{world_after}
use Rattle.net_world.proofs.PlaceLemmas.{switch_below}
use Rattle.net_game.specs.Moves.{all_moves, game_after}
use Rattle.net_game.proofs.Firm.{places, AreFirm}
use Rattle.net_game.proofs.EmbedLemmas.{embedded, event_game, first_is}
use Rattle.net_game.proofs.ClauseLemmas.{done_in}
use Rattle.net_game.proofs.PeerFacts.{HeardOk, LinkOk}
use Rattle.net_game.proofs.KindLemmas.{IsKept, clock_is, kept_joins}
use Rattle.net_game.specs.Meeting.{Met}
use Rattle.net_game.proofs.MetLemmas.{met_more}
use Rattle.net_game.proofs.WiredLemmas.{IsMetAt, at_as, at_more, all_met, clocked_met}
use Rattle.net_game.proofs.HistoryLemmas.{by_events}
use Rattle.net_game.proofs.EachLemmas.{Each, each_map, each_in}

-- a life met the end at a port, at some place
pub record MetAt (script : ScriptOf) (h : List Event) (x : LifeId) (p : ℕ) (e : EndId) : Type 0 where
  pub place : ℕ
  pub low : place < places script
  pub met : Met script h place x p e

at_later : (script : ScriptOf) (h : List Event) (e : Event) (x : LifeId) (k : PeerAt) → LinkOk (MetAt script h x) k → LinkOk (MetAt script (h ++ e ∷ []) x) k
at_later script h e x k is = record { place = is.place; low = is.low; met = met_more script h e is.place x k.port k.peer is.met }

-- it is so of each link of each node of the game
abbrev AllNodes : (LifeId → PeerAt → Type 0) → Game → Type 0
AllNodes K g = (x : LifeId) (e : ℕ) (n : Node) → g.nodes x e ≡ Some n → Each (K x) n.card.links

set_nodes : (K : LifeId → PeerAt → Type 0) (g : Game) (e : ℕ) (x : LifeId) (node : Node) → Each (K x) node.card.links → AllNodes K g → (y : LifeId) (f : ℕ) (n : Node) → with_node_in g e x node y f ≡ Some n → Each (K y) n.card.links
set_nodes K g e x node new old y f n = by_epoch (e == f)
  where
    by_life : (b : Bool) → is_eq (life_cmp x y) ≡ b → cond b (Some node) (g.nodes y f) ≡ Some n → Each (K y) n.card.links
    by_life true same is =
        subst (λ (z : LifeId). Each (K z) n.card.links) (same_life x y same) (subst (λ (m : Node). Each (K x) m.card.links) (some_same node n is) new)
    by_life false other is = old y f n is

    by_epoch : (b : Bool) → cond b (with_node (slice f g) x node y) (g.nodes y f) ≡ Some n → Each (K y) n.card.links
    by_epoch true is = by_life (is_eq (life_cmp x y)) refl is
    by_epoch false is = old y f n is

accepted_nodes : (K : LifeId → PeerAt → Type 0) (x : LifeId) (port : ℕ) (bodies : List Body) (card : CardOf) (log : Log) (g : Game) → Each (K x) card.links → AllNodes K g → AllNodes K (all_accepted x port bodies card log g)
accepted_nodes K x port [] card log g new old = old
accepted_nodes K x port (body ∷ bodies) card log g new old =
    let more = record { port = port; body = body } ∷ log in
    accepted_nodes K x port bodies card more (after_accept g x (record { card = card; log = log }) port body) new
    (set_nodes K g (g.present x) x (record { card = card; log = more }) new old)

join_nodes : (K : LifeId → PeerAt → Type 0) (g : Game) (x : LifeId) (e : ℕ) (c : CardOf) → Each (K x) c.links → AllNodes K g → AllNodes K (after_join g x e c)
join_nodes K g x e c new old = set_nodes K g e x (record { card = c; log = [] }) new old

-- so after the moves of a frame, and of a clock
carry_nodes : (K : LifeId → PeerAt → Type 0) (x : LifeId) (port : ℕ) (f : CarryOf) (u : SwitchOf) (g : Game) → Each (K x) u.card.links → Each (K x) (joins f.epoch u).switch.card.links → AllNodes K g → AllNodes K (carry_moves x port f u g)
carry_nodes K x port f u g own joining old =
    let j = (joins f.epoch u).switch in
    let joined = after_join g x f.epoch j.card in
    cond_both (nat_lt u.epoch f.epoch) (body_moves x port f.number f.body j joined) (cond (f.epoch == u.epoch) (body_moves x port f.number f.body u g) g) (AllNodes K)
    (λ _. accepted_nodes K x port (accepted_by f.number f.body (j.receivings port)) j.card j.log joined joining (join_nodes K g x f.epoch j.card joining old))
    (λ _. cond_both (f.epoch == u.epoch) (body_moves x port f.number f.body u g) g (AllNodes K) (λ _. accepted_nodes K x port (accepted_by f.number f.body (u.receivings port)) u.card u.log g own old) (λ _. old))

frame_nodes : (K : LifeId → PeerAt → Type 0) (x : LifeId) (port : ℕ) (f : Frame) (u : SwitchOf) (g : Game) → Each (K x) u.card.links → ((e : ℕ) → Each (K x) (joins e u).switch.card.links) → AllNodes K g → AllNodes K (frame_moves x port f u g)
frame_nodes K x port (Carry f) u g own joining old = cond_both (counts u port f.from f.to) (carry_moves x port f u g) g (AllNodes K) (λ _. carry_nodes K x port f u g own (joining f.epoch) old) (λ _. old)
frame_nodes K x port (Ack epoch from to n) u g own joining old = old
frame_nodes K x port (Probe from nonce) u g own joining old = old
frame_nodes K x port (Reply from to nonce) u g own joining old = old

-- what is met at a place
links_at : (script : ScriptOf) (h : List Event) (t : ℕ) (v : SwitchOf) (x : LifeId) → t < places script → v.life ≡ x → IsMetAt script h t v → Each (LinkOk (MetAt script h x)) v.card.links
links_at script h t v x low life is =
    subst (λ (y : LifeId). Each (LinkOk (MetAt script h y)) v.card.links) life
    (each_map (LinkOk (Met script h t v.life)) (LinkOk (MetAt script h v.life)) v.card.links (λ k met. record { place = t; low = low; met = met }) is.card)

kept_met : (script : ScriptOf) (h : List Event) (t : ℕ) (u v : SwitchOf) → IsKept u v → IsMetAt script h t u → IsMetAt script h t v
kept_met script h t u v k is = at_as script h t u v k.life (λ p. subst (λ (ports : ℕ → History). Each (HeardOk (Met script h t u.life p)) (ports p)) (sym k.ports) (is.ports p)) k.card is

hand_nodes : (script : ScriptOf) (h : List Event) (t : ℕ) (i : Hand) (bytes : List ℕ) (switches : ℕ → SwitchOf) (g : Game) → t < places script → IsMetAt script h t (switches t) → AllNodes (λ x. LinkOk (MetAt script h x)) g
    → AllNodes (λ x. LinkOk (MetAt script h x)) (all_moves (map (at_place t) (handles_as i bytes)) switches g)
hand_nodes script h t hand.Empty bytes switches g low is old = old
hand_nodes script h t (hand.Clock n samples) bytes switches g low is old =
    let u = switches t in
    let v = (clocked n samples u).switch in
    let K : LifeId → PeerAt → Type 0 = λ x. LinkOk (MetAt script h x) in
    cond_both (u.epoch == v.epoch) g (after_join g u.life v.epoch v.card) (AllNodes K) (λ _. old)
    (λ _. join_nodes K g u.life v.epoch v.card (links_at script h t v u.life low (clock_is n samples u).life (clocked_met script h t n samples u is)) old)
hand_nodes script h t (hand.Frame port) bytes switches g low is old = by (frame_of bytes) where
  by : (o : Option Frame) → AllNodes (λ x. LinkOk (MetAt script h x)) (all_moves (at_place t (hears port o) ∷ []) switches g)
  by None = old
  by (Some f) =
      let u = switches t in
      frame_nodes (λ x. LinkOk (MetAt script h x)) u.life port f u g (links_at script h t u u.life low refl is)
      (λ e. links_at script h t (joins e u).switch u.life low (kept_joins e u).life (kept_met script h t u (joins e u).switch (kept_joins e u) is)) old

load_nodes : (K : LifeId → PeerAt → Type 0) (o : Option TopoOf) (t : ℕ) (switches : ℕ → SwitchOf) (g : Game) → AllNodes K g → AllNodes K (all_moves (map (at_place t) (loads_as o (switches t).life)) switches g)
load_nodes K None t switches g old = old
load_nodes K (Some topo) t switches g old = old

event_nodes : (script : ScriptOf) (lives : List LifeId) → IsScript script → AreFirm script lives → (h : List Event) (e : Event) (g : Game) → is_lawful (world_after script h).fabric e ≡ true → AllNodes (λ x. LinkOk (MetAt script (h ++ e ∷ []) x)) g
    → AllNodes (λ x. LinkOk (MetAt script (h ++ e ∷ []) x)) (all_moves (acts_of (world_after script h) e) (world_after script h).switches g)
event_nodes script lives kept firm h (Handle t) g lawful old =
    let w = world_after script h in
    let low = switch_below script h t (handle_ready w.fabric t (lawful_is w.fabric (Handle t) lawful).ready).0 in
    hand_nodes script (h ++ Handle t ∷ []) t (station w.fabric t).hand (held_bytes w.fabric t) w.switches g low (at_more script h (Handle t) t (w.switches t) ((all_met script lives kept firm h).switches t low)) old
event_nodes script lives kept firm h (Load t) g lawful old = let w = world_after script h in load_nodes (λ x. LinkOk (MetAt script (h ++ Load t ∷ []) x)) (finish_of (w.switches t)) t w.switches g old
event_nodes script lives kept firm h e g lawful old = old

-- of each history
nodes_met : (script : ScriptOf) (lives : List LifeId) → IsScript script → AreFirm script lives → (h : List Event) → AllNodes (λ x. LinkOk (MetAt script h x)) (game_after script h)
nodes_met script lives kept firm = by_events (λ h. AllNodes (λ x. LinkOk (MetAt script h x)) (game_after script h))
    (subst (AllNodes (λ x. LinkOk (MetAt script [] x))) (sym (first_is script)) (λ x e n is. absurd (none_some is)))
    (λ h e old. subst (AllNodes (λ x. LinkOk (MetAt script (h ++ e ∷ []) x))) (sym (event_game script h e))
    (by h e (λ x f n is. each_map (LinkOk (MetAt script h x)) (LinkOk (MetAt script (h ++ e ∷ []) x)) n.card.links (at_later script h e x) (old x f n is)) (is_lawful (world_after script h).fabric e) refl))
  where
    by : (h : List Event) (e : Event) → AllNodes (λ x. LinkOk (MetAt script (h ++ e ∷ []) x)) (game_after script h) → (b : Bool) → is_lawful (world_after script h).fabric e ≡ b
        → AllNodes (λ x. LinkOk (MetAt script (h ++ e ∷ []) x)) (cond b (all_moves (acts_of (world_after script h) e) (world_after script h).switches (game_after script h)) (game_after script h))
    by h e old true lawful = event_nodes script lives kept firm h e (game_after script h) lawful old
    by h e old false unlawful = old

-- so each link of a topology
pub far_met : (script : ScriptOf) (lives : List LifeId) → length lives ≤ 126 → IsScript script → AreFirm script lives → (h : List Event) (x : LifeId) (epoch : ℕ) (t : TopoOf) → FinishedAt script h x epoch t
    → LivesRise t.entries → (a p b q : ℕ) → far_of t.entries a p ≡ Some (b, q) → MetAt script h (life_at t.entries a) p (record { life = life_at t.entries b; port = q })
far_met script lives few kept firm h x epoch t done rising a p b q far =
    let s = slice epoch (game_after script h) in
    let d = done_in script lives h (embedded script lives kept firm h) x epoch t done in
    let under = finished_under lives s few d.run x d.node t d.joined d.finish_is in
    let link = (far_is_link t.entries a p b q rising far).2.there in
    let entry : EntryOf = link.0 in
    let member = (under.entries entry).0 link.1 in
    let links : Each (LinkOk (MetAt script h member.life)) entry.links = subst (λ (e : EntryOf). Each (LinkOk (MetAt script h member.life)) e.links) (sym member.is) (nodes_met script lives kept firm h member.life epoch member.node member.joined) in
    let life : member.life ≡ life_at t.entries a = sym (nodes lives s d.run member.life member.node member.joined).0.me ∙ ap (λ (e : EntryOf). e.life) (sym member.is) ∙ link.2 in
    let far_end : EndId = record { life = life_at t.entries b; port = q } in
    subst (λ (y : LifeId). MetAt script h y p far_end) life
    (each_in (LinkOk (MetAt script h member.life)) entry.links (record { port = p; peer = far_end }) links (in_from (record { port = p; peer = far_end }) entry.links link.3))
