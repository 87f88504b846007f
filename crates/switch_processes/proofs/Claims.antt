-- What holds of processes, at moments of their own.

use Rattle.std.proofs.Common.{◌≡◌, ◌∙◌, sym, ap, refl, subst, ℕ, ◌≤◌, List, [], ◌∷◌, length, Some, inl, inr, Bool, true, false, cond, Contains}
use Rattle.std.specs.Ordering.{is_eq}
use Rattle.an_base.specs.Values.{EntryOf, LifeId, TopoOf}
use Rattle.an_base.specs.Order.{life_cmp}
use Rattle.topo_graph.specs.Topology.{IsGraph, IsTree}
use Rattle.epoch_game.specs.Slice.{Earlier, Node, Run, nobody, IsJoinedBy as JoinedInGame}
use Rattle.epoch_game.specs.Game.{Game, Play, begins, slice, HasFinished as FinishedIn}
use Rattle.epoch_game.proofs.Lists.{earlier_itself}
use Rattle.epoch_game.proofs.StreamLemmas.{has_grown}
use Rattle.epoch_game.proofs.FinishLemmas.{finished_alike}
use Rattle.epoch_game.proofs.TopologyLemmas.{is_tree}
use Rattle.epoch_game.proofs.GameLemmas.{later_run, nothing_ahead, play_members}
use Rattle.switch_core.specs.Switch.{SwitchOf, finish_of}
use Rattle.switch_game.specs.Network.{Network, PowerOn}
use Rattle.switch_game.specs.Playing.{Agrees, node_of}
use Rattle.switch_game.proofs.Laws.{agrees, later, plays}
use Rattle.switch_game.proofs.Members.{has_finished, not_behind}
use Rattle.switch_game.proofs.QuietLives.{has_settled}
use Rattle.switch_game.specs.Quiet.{HasSettled, IsQuiet}
use Rattle.switch_processes.specs.Processes.{Call, Event, HasFinished, HasJoined, HasNoCycle, IsJoinedBy, IsRun, switch_after}
use Rattle.switch_processes.specs.Orders.{CallOf, HasOneOrder, calls_of, game_after, network_after}
use Rattle.switch_processes.proofs.Ordered.{CanHappen, all_happen, can_happen, can_tail, happens_since, happens_to, same_switch, whole}
use Rattle.switch_processes.proofs.Joined.{IsIn, has_joined}

-- a moment of a life is one of the order
pub record IsMoment (order : List CallOf) (x : LifeId) (m : List Call) : Type 0 where
  pub past : List CallOf
  pub earlier : Earlier past order
  pub calls : calls_of x past ≡ m

moment_in : (order : List CallOf) (x : LifeId) (m : List Call) → Earlier m (calls_of x order) → IsMoment order x m
moment_in [] x m is = record { past = []; earlier = refl; calls = sym is }
moment_in (one ∷ order) x m e = by (is_eq (life_cmp one.life x)) refl (moment_in order x m) e
  where
    by : (b : Bool) → is_eq (life_cmp one.life x) ≡ b → (Earlier m (calls_of x order) → IsMoment order x m) → Earlier m (cond b (one.call ∷ calls_of x order) (calls_of x order)) → IsMoment (one ∷ order) x m
    by true is before (inl at) = record {
      past = one ∷ order;
      earlier = inl refl;
      calls = ap (λ (b : Bool). cond b (one.call ∷ calls_of x order) (calls_of x order)) is ∙ sym at;
    }
    by true is before (inr low) = let r = before low in record { past = r.past; earlier = inr r.earlier; calls = r.calls }
    by false is before low = let r = before low in record { past = r.past; earlier = inr r.earlier; calls = r.calls }

-- the game of an order of all that was done
pub record IsPlayed (lives : List LifeId) (on : PowerOn) (did : LifeId → List Call) : Type 0 where
  pub order : List CallOf
  pub calls : (x : LifeId) → calls_of x order ≡ did x
  pub can : CanHappen lives on order

pub is_played : (lives : List LifeId) (on : PowerOn) (did : LifeId → List Call) (sending : Event → Event) → IsRun lives on did sending → HasNoCycle did sending → IsPlayed lives on did
is_played lives on did sending run acyclic =
    let w = whole lives on did sending run acyclic in
    record { order = w.order; calls = w.interleaving; can = can_happen lives on did sending run w.order w.ordered }

-- the network at a moment of a life
record IsSeen (lives : List LifeId) (on : PowerOn) (p : List CallOf) (x : LifeId) (m : List Call) : Type 0 where
  switch : SwitchOf
  is : switch ≡ switch_after on x m
  game : Game
  agrees_with : Agrees x switch game
  play : Play lives (begins on.epoch) game
  more : Play lives game (game_after on p)

seen : (lives : List LifeId) (on : PowerOn) (did : LifeId → List Call) (p : IsPlayed lives on did) (x : LifeId) (m : List Call) → Earlier m (did x) → IsSeen lives on p.order x m
seen lives on did p x m e =
    let w = moment_in p.order x m (subst (Earlier m) (sym (p.calls x)) e) in
    let v = network_after on w.past in
    let g = game_after on w.past in
    let first = happens_to lives on w.past (can_tail lives on p.order w.past w.earlier p.can) in
    record {
      switch = v.switches x;
      is = same_switch on w.past x ∙ ap (switch_after on x) w.calls;
      game = g;
      agrees_with = agrees lives on v g x first;
      play = plays lives on v g first;
      more = later lives on v (network_after on p.order) g (game_after on p.order) first (happens_since lives on p.order w.past w.earlier p.can);
    }

-- who has finished at a moment of its own has finished in the game
finished_in : (lives : List LifeId) (on : PowerOn) (did : LifeId → List Call) (p : IsPlayed lives on did) (x : LifeId) (e : ℕ) (t : TopoOf) → HasFinished on did x e t → (f : FinishedIn (game_after on p.order) x e) × (f.topology ≡ t)
finished_in lives on did p x e t f =
    let m = seen lives on did p x f.moment f.earlier in
    let h = game_after on p.order in
    let done = has_finished lives on.epoch m.game h x m.switch t m.play m.more m.agrees_with (ap finish_of m.is ∙ f.finish) in
    subst (λ (n : ℕ). (d : FinishedIn h x n) × (d.topology ≡ t)) (ap (λ (u : SwitchOf). u.epoch) m.is ∙ f.epoch_is) done

-- and who has joined has joined in the game
pub joined_in : (lives : List LifeId) (on : PowerOn) (did : LifeId → List Call) (p : IsPlayed lives on did) (x : LifeId) (e : ℕ) → HasJoined on did x e → IsIn (game_after on p.order) x e
joined_in lives on did p x e j =
    let m = seen lives on did p x j.moment j.earlier in
    let s = m.switch in
    let h = game_after on p.order in
    let there = m.agrees_with.joined (ap (λ (u : SwitchOf). u.joined) m.is ∙ j.joined) in
    let w = has_grown lives (slice s.epoch m.game) (slice s.epoch h) x (node_of s) (later_run lives on.epoch m.game h s.epoch m.play m.more) there in
    subst (IsIn h x) (ap (λ (u : SwitchOf). u.epoch) m.is ∙ j.epoch_is) (w.node, w.joined)

-- an epoch that a life has joined is not above its last one
pub not_above : (lives : List LifeId) (on : PowerOn) (did : LifeId → List Call) (p : IsPlayed lives on did) (x : LifeId) (e : ℕ) (n : Node) → (game_after on p.order).nodes x e ≡ Some n → e ≤ (switch_after on x (did x)).epoch
not_above lives on did p x e n is =
    let w = network_after on p.order in
    let g = game_after on p.order in
    let happens = happens_to lives on p.order p.can in
    let low = nothing_ahead lives on.epoch g (plays lives on w g happens) x e n is in
    let present = (agrees lives on w g x happens).present ∙ ap (λ (s : SwitchOf). s.epoch) (same_switch on p.order x ∙ ap (switch_after on x) (p.calls x)) in
    subst (λ (k : ℕ). e ≤ k) present low

-- only those that join an epoch in their processes join it in the game
joined_by : (lives members : List LifeId) (on : PowerOn) (did : LifeId → List Call) (e : ℕ) (p : IsPlayed lives on did) → IsJoinedBy members on did e → JoinedInGame members (slice e (game_after on p.order))
joined_by lives members on did e p by x n is = by x (has_joined lives on did p.order p.calls (all_happen lives on p.order p.can) x e n is)

-- so the epoch is a run of these
joined_run : (lives members : List LifeId) (on : PowerOn) (did : LifeId → List Call) (e : ℕ) (p : IsPlayed lives on did) → IsJoinedBy members on did e → Run members nobody (slice e (game_after on p.order))
joined_run lives members on did e p by =
    let g = game_after on p.order in
    play_members lives members on.epoch g e (plays lives on (network_after on p.order) g (happens_to lives on p.order p.can)) (joined_by lives members on did e p by)

-- lives that finished one epoch under one root hold one topology
pub one_topology : (lives members : List LifeId) (on : PowerOn) (did : LifeId → List Call) (sending : Event → Event) (x y : LifeId) (e : ℕ) (t u : TopoOf) (a b : EntryOf) → IsRun lives on did sending → HasNoCycle did sending → IsJoinedBy members on did e → length members ≤ 126
    → HasFinished on did x e t → HasFinished on did y e u → Contains t.entries a → Contains u.entries b → a.position.root ≡ b.position.root → t ≡ u
one_topology lives members on did sending x y e t u a b run acyclic by few fx fy ia ib root =
    let p = is_played lives on did sending run acyclic in
    let dx = finished_in lives on did p x e t fx in
    let dy = finished_in lives on did p y e u fy in
    finished_alike members (slice e (game_after on p.order)) x y dx.0.node dy.0.node t u a b few (joined_run lives members on did e p by) dx.0.joined dy.0.joined (dx.0.finish ∙ ap (λ (k : TopoOf). Some k) dx.1) (dy.0.finish ∙ ap (λ (k : TopoOf). Some k) dy.1) ia ib root

-- which is a tree
pub tree : (lives members : List LifeId) (on : PowerOn) (did : LifeId → List Call) (sending : Event → Event) (x : LifeId) (e : ℕ) (t : TopoOf) → IsRun lives on did sending → HasNoCycle did sending → IsJoinedBy members on did e → length members ≤ 126
    → HasFinished on did x e t → IsGraph t.entries × IsTree t.entries
tree lives members on did sending x e t run acyclic by few fx =
    let p = is_played lives on did sending run acyclic in
    let d = finished_in lives on did p x e t fx in
    is_tree members (slice e (game_after on p.order)) x d.0.node t few (joined_run lives members on did e p by) d.0.joined (d.0.finish ∙ ap (λ (k : TopoOf). Some k) d.1)

-- and no member of what one has finished with is in a lower epoch
pub no_member_behind : (lives members : List LifeId) (on : PowerOn) (did : LifeId → List Call) (sending : Event → Event) (x : LifeId) (e : ℕ) (t : TopoOf) (a : EntryOf) → IsRun lives on did sending → HasNoCycle did sending → IsJoinedBy members on did e → length members ≤ 126
    → HasFinished on did x e t → Contains t.entries a → e ≤ (switch_after on a.life (did a.life)).epoch
no_member_behind lives members on did sending x e t a run acyclic by few fx has =
    let p = is_played lives on did sending run acyclic in
    let d = finished_in lives on did p x e t fx in
    let low = not_behind lives members on (network_after on p.order) (game_after on p.order) x e d.0 a few (happens_to lives on p.order p.can) (joined_by lives members on did e p by) (subst (λ (k : TopoOf). Contains k.entries a) (sym d.1) has) in
    subst (λ (s : SwitchOf). e ≤ s.epoch) (same_switch on p.order a.life ∙ ap (switch_after on a.life) (p.calls a.life)) low

-- and what is quiet has settled
pub settled : (lives members : List LifeId) (on : PowerOn) (did : LifeId → List Call) (sending : Event → Event) (x : LifeId) (one : HasOneOrder lives on did sending) → IsJoinedBy members on did (switch_after on x (did x)).epoch → length members ≤ 126 → IsQuiet (network_after on one.order) x
    → HasSettled members (network_after on one.order) (game_after on one.order) x
settled lives members on did sending x one by few quiet = has_settled lives members on w g x few (one.happens one.order (earlier_itself one.order)) joined quiet
  where
    w : Network
    w = network_after on one.order

    g : Game
    g = game_after on one.order

    joined : JoinedInGame members (slice (w.switches x).epoch g)
    joined y n is = subst (λ (s : SwitchOf). IsJoinedBy members on did s.epoch) (sym (one.switches one.order (earlier_itself one.order) x ∙ ap (switch_after on x) (one.interleaving x))) by y (has_joined lives on did one.order one.interleaving one.happens y (w.switches x).epoch n is)
