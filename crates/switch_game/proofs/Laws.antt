use Rattle.std.proofs.Common.{◌≡◌, ◌∙◌, sym, ap, refl, subst, ℕ, ◌<◌, ◌≤◌, ◌==◌, arith, List, [], ◌∷◌, map, length, None, Some, is_some, Bool, true, false, cond, ◌⊎◌, inl, inr}
use Rattle.std.proofs.lemmas.Bool.{false≢true, ltb-false}
use Rattle.std.proofs.lemmas.Option.{none-some}
use Rattle.std.proofs.lemmas.List.{length-reverse}
use Rattle.an_base.specs.Values.{EndId, LifeId, PeerAt, Place}
use Rattle.an_base.specs.declared.body.Body.{Body}
use Rattle.an_base.specs.declared.frame.Frame.{Frame}
use Rattle.epoch_core.specs.Log.{CardOf, Log, on_port}
use Rattle.epoch_core.specs.Epoch.{pos_at, position, sent, version}
use Rattle.topo_report.proofs.Members.{In, in_append, in_from}
use Rattle.epoch_game.specs.Slice.{Earlier, IsJoinedBy, Names, Node, link_at}
use Rattle.epoch_game.specs.Game.{Game, Play, begins, none as Play-none, slice}
use Rattle.epoch_game.proofs.Basics.{some_same}
use Rattle.epoch_game.proofs.Lists.{earlier_nil}
use Rattle.epoch_game.proofs.GameLemmas.{joined_lives, nothing_ahead, play_run}
use Rattle.epoch_game.proofs.StreamLemmas.{Heard, one_end, streams}
use Rattle.switch_core.specs.Switch.{SwitchOf, good_links, good_peer, is_unacked}
use Rattle.switch_core.specs.Steps.{Sent, Step, clocked, framed, loaded, peer_among, still}
use Rattle.switch_core.proofs.LinkLemmas.{good_link}
use Rattle.switch_game.specs.Network.{Happens, Network, PowerOn, clock_moves, clocks, dark, frame_moves, frames_of, hands, loads, none, stepped}
use Rattle.switch_game.specs.Playing.{HasStayed, Agrees, FarHasJoined, FarHasAll, FarHasSome, IsQuietLink, IsSettledLink, node_of}
use Rattle.switch_game.proofs.Streams.{earlier_same, stream, stream_first, stream_grows}
use Rattle.switch_game.proofs.Links.{same_link}
use Rattle.switch_game.proofs.Received.{front_length}
use Rattle.switch_game.proofs.Moves.{left_epochs_stay, play_trans}
use Rattle.switch_game.proofs.Own.{IsOwn, own_started}
use Rattle.switch_game.proofs.Played.{AreTold, IsHeard, IsPart, IsPlayed, IsTold, Plays, told_later}
use Rattle.switch_game.proofs.Steps.{clock_plays, frame_plays, linked_of, load_plays}

-- All switches play the game, and each frame that was ever sent is true
pub record Holds (lives : List LifeId) (on : PowerOn) (w : Network) (g : Game) : Type 0 where
  pub played : IsPlayed lives on.epoch w.switches g
  pub sent : (f : Frame) → In f w.sent → IsTold g f

-- so it is at the start
pub holds_dark : (lives : List LifeId) (on : PowerOn) → Holds lives on (dark on) (begins on.epoch)
holds_dark lives on = record {
  played = record {
    play = Play-none;
    parts = λ x. record {
      own = own_started x (on.epoch x) (on.had x) (on.any x);
      agrees = record { present = refl; joined = λ is. absurd (false≢true is); unjoined = λ e _. refl; load_due = refl };
      held = λ p k b is. absurd (none-some b is);
      acked = λ q. inl refl;
    };
  };
  sent = λ f i. absurd i;
}

told_in : (g : Game) (f : Frame) (xs : List Sent) → AreTold g xs → In f (frames_of xs) → IsTold g f
told_in g f [] told i = absurd i
told_in g f (x ∷ xs) told (inl is) = subst (IsTold g) (sym is) told.0
told_in g f (x ∷ xs) told (inr i) = told_in g f xs told.1 i

-- and after a step
after_step : (lives : List LifeId) (on : PowerOn) (w : Network) (g h : Game) (x : LifeId) (step : Step) → Holds lives on w g → Plays lives on.epoch w.switches x step g h → Holds lives on (stepped w x step) h
after_step lives on w g h x step holds p = record { played = p.played; sent = λ f i. by f (in_append f (frames_of step.frames) w.sent i) }
  where
    by : (f : Frame) → In f (frames_of step.frames) ⊎ In f w.sent → IsTold h f
    by f (inl i) = told_in h f step.frames p.told i
    by f (inr i) = told_later lives on.epoch g h f holds.played.play p.play (holds.sent f i)

-- and after all that happens, which is a run of the game
pub holds_on : (lives : List LifeId) (on : PowerOn) (v : Network) (h : Game) (w : Network) (g : Game) → Holds lives on v h → Happens lives v h w g → Play lives h g × Holds lives on w g
holds_on lives on v h _ _ holds none = (Play-none, holds)
holds_on lives on v h _ _ holds (clocks w g x now samples happens among working) =
    let before = holds_on lives on v h w g holds happens in
    let step = clocked now samples (w.switches x) in
    let k = clock_moves x (w.switches x) step.switch g in
    let p = clock_plays lives on.epoch w.switches g x now samples (w.switches x) before.1.played refl among working in
    (play_trans lives h g k before.0 p.play, after_step lives on w g k x step before.1 p)
holds_on lives on v h _ _ holds (hands w g x port frame happens among working least most was) =
    let before = holds_on lives on v h w g holds happens in
    let step = framed port frame (w.switches x) in
    let k = frame_moves x port frame (w.switches x) g in
    let p = frame_plays lives on.epoch w.switches g x port frame (w.switches x) before.1.played refl among working least most (before.1.sent frame (in_from frame w.sent was)) in
    (play_trans lives h g k before.0 p.play, after_step lives on w g k x step before.1 p)
holds_on lives on v h _ _ holds (loads w g x number happens among due) =
    let before = holds_on lives on v h w g holds happens in
    let step = still (loaded number (w.switches x)) in
    let k = Rattle.epoch_game.specs.Game.after_load g x in
    let p = load_plays lives on.epoch w.switches g x number (w.switches x) before.1.played refl due in
    (play_trans lives h g k before.0 p.play, after_step lives on w g k x step before.1 p)

pub holds : (lives : List LifeId) (on : PowerOn) (w : Network) (g : Game) → Happens lives (dark on) (begins on.epoch) w g → Holds lives on w g
holds lives on w g happens = (holds_on lives on (dark on) (begins on.epoch) w g (holds_dark lives on) happens).1

pub plays : (lives : List LifeId) (on : PowerOn) (w : Network) (g : Game) → Happens lives (dark on) (begins on.epoch) w g → Play lives (begins on.epoch) g
plays lives on w g happens = (holds lives on w g happens).played.play

pub agrees : (lives : List LifeId) (on : PowerOn) (w : Network) (g : Game) (x : LifeId) → Happens lives (dark on) (begins on.epoch) w g → Agrees x (w.switches x) g
agrees lives on w g x happens = ((holds lives on w g happens).played.parts x).agrees

pub later : (lives : List LifeId) (on : PowerOn) (w v : Network) (g h : Game) → Happens lives (dark on) (begins on.epoch) w g → Happens lives w g v h → Play lives g h
later lives on w v g h happens more = (holds_on lives on w g v h (holds lives on w g happens) more).0

pub left : (lives : List LifeId) (on : PowerOn) (w v : Network) (g h : Game) (x : LifeId) (e : ℕ) → Happens lives (dark on) (begins on.epoch) w g → Happens lives w g v h → e < (w.switches x).epoch → HasStayed x e g h
left lives on w v g h x e happens more low =
    let present = (agrees lives on w g x happens).present in
    left_epochs_stay lives x e g h (omega (arith, low, present)) (later lives on w v g h happens more)

-- whoever has joined an epoch is one of the lives
pub joined_by_lives : (lives : List LifeId) (on : PowerOn) (w : Network) (g : Game) (e : ℕ) → Happens lives (dark on) (begins on.epoch) w g → IsJoinedBy lives (slice e g)
joined_by_lives lives on w g e happens = joined_lives lives (slice e g) (play_run lives on.epoch g e (plays lives on w g happens))

-- What a switch has of its links
pub own_of : (lives : List LifeId) (on : PowerOn) (w : Network) (g : Game) (x : LifeId) → Happens lives (dark on) (begins on.epoch) w g → IsOwn x (w.switches x)
own_of lives on w g x happens = ((holds lives on w g happens).played.parts x).own

pub life_of : (lives : List LifeId) (on : PowerOn) (w : Network) (g : Game) (x : LifeId) → Happens lives (dark on) (begins on.epoch) w g → (w.switches x).life ≡ x
life_of lives on w g x happens = (own_of lives on w g x happens).life

pub links_of : (lives : List LifeId) (on : PowerOn) (w : Network) (g : Game) (x : LifeId) → Happens lives (dark on) (begins on.epoch) w g → (w.switches x).joined ≡ true → (w.switches x).spent ≡ false → (w.switches x).card.links ≡ good_links (w.switches x)
links_of lives on w g x happens joined working = (own_of lives on w g x happens).links joined working

pub peers_of : (lives : List LifeId) (on : PowerOn) (w : Network) (g : Game) (x : LifeId) (p : ℕ) → Happens lives (dark on) (begins on.epoch) w g → (w.switches x).joined ≡ true → (w.switches x).spent ≡ false → 1 ≤ p → p ≤ 12
    → peer_among (w.switches x).card.links p ≡ good_peer (w.switches x) p
peers_of lives on w g x p happens joined working least most = ap (λ (ls : List PeerAt). peer_among ls p) (links_of lives on w g x happens joined working) ∙ good_link (w.switches x) p least most

pub no_peers_of : (lives : List LifeId) (on : PowerOn) (w : Network) (g : Game) (x : LifeId) (p : ℕ) → Happens lives (dark on) (begins on.epoch) w g → (w.switches x).joined ≡ false → (w.switches x).spent ≡ false → good_peer (w.switches x) p ≡ None
no_peers_of lives on w g x p happens not_joined working = (own_of lives on w g x happens).no_peers not_joined working p

-- On a link something was sent, since joining tells the position
position_told : (v : ℕ) (place : Place) (ls : List PeerAt) (q : ℕ) → is_some (peer_among ls q) ≡ true → 1 ≤ length (on_port q (map (pos_at v place) ls))
position_told v place [] q linked = absurd (false≢true linked)
position_told v place (l ∷ ls) q linked = by (l.port == q) (pos_at v place l).body (position_told v place ls q) linked
  where
    by : (b : Bool) (body : Body) → (is_some (peer_among ls q) ≡ true → 1 ≤ length (on_port q (map (pos_at v place) ls))) → is_some (cond b (Some l.peer) (peer_among ls q)) ≡ true
        → 1 ≤ length (cond b (body ∷ on_port q (map (pos_at v place) ls)) (on_port q (map (pos_at v place) ls)))
    by true body rest is = omega arith
    by false body rest is = rest is

pub something : (c : CardOf) (q : ℕ) (log : Log) → is_some (peer_among c.links q) ≡ true → 1 ≤ length (stream c q log)
something c q log linked =
    let first = position_told (version c []) (position c []) c.links q linked in
    let same = ap length (stream_first c q) in
    let more = front_length (stream c q []) (stream c q log) (stream_grows c q [] log (earlier_nil log)) in
    omega (arith, first, same, more)

-- who is heard at a link is its far end, which has joined the epoch
far_is : (g : Game) (z : LifeId) (q n : ℕ) (s : SwitchOf) (far : EndId) → peer_among s.card.links q ≡ Some far → (w : IsHeard g z s.card s.epoch q n) → w.far ≡ far
far_is g z q n s far linked w = some_same w.far far (sym w.named ∙ (sym (same_link s.card.links q) ∙ linked))

far_joined : (lives : List LifeId) (first : LifeId → ℕ) (g : Game) (z : LifeId) (q n : ℕ) (s : SwitchOf) (far : EndId) → Play lives (begins first) g → peer_among s.card.links q ≡ Some far → IsHeard g z s.card s.epoch q n → FarHasJoined g z q s far
far_joined lives first g z q n s far play linked w =
    let is = far_is g z q n s far linked w in
    let there : g.nodes far.life s.epoch ≡ Some w.node = ap (λ (d : EndId). g.nodes d.life s.epoch) (sym is) ∙ w.joined in
    record {
      node = w.node;
      joined = there;
      not_behind = nothing_ahead lives first g play far.life s.epoch w.node there;
      named = sym (same_link s.card.links q) ∙ linked;
      back = ap (λ (d : EndId). link_at d.port w.node.card.links) (sym is) ∙ w.back;
    }

-- so where all is acknowledged, something was accepted, and that is all
delivered_by : (lives : List LifeId) (first : LifeId → ℕ) (g : Game) (z : LifeId) (q n : ℕ) (s : SwitchOf) (far : EndId) → Play lives (begins first) g → IsPart g z s → s.joined ≡ true → peer_among s.card.links q ≡ Some far
    → 1 ≤ n → length (sent s.card q s.log) ≤ n → (n ≡ 0) ⊎ IsHeard g z s.card s.epoch q n → FarHasAll g z q s far
unfolding far_joined
delivered_by lives first g z q n s far play part joined linked some all (inl nothing) = absurd (omega (arith, nothing, some))
delivered_by lives first g z q n s far play part joined linked some all (inr w) =
    let is = far_is g z q n s far linked w in
    let end = far_joined lives first g z q n s far play linked w in
    let few : n ≤ length (on_port far.port w.node.log) = subst (λ (d : EndId). n ≤ length (on_port d.port w.node.log)) is w.few in
    record {
      end = end;
      accepted = by w.node end.joined end.back few (streams lives (slice s.epoch g) (play_run lives first g s.epoch play) far.life w.node far.port end.joined);
    }
  where
    by : (m : Node) → g.nodes far.life s.epoch ≡ Some m → Names m.card far.port z q → n ≤ length (on_port far.port m.log) → Heard (slice s.epoch g) far.life m far.port → on_port far.port m.log ≡ sent s.card q s.log
    by m there back few (inl nil) = let e = ap length nil in absurd (omega (arith, e, few, some))
    by m there back few (inr u) =
        let ends = one_end m.card far.port u.far u.port z q u.named back in
        let is : u.node ≡ node_of s = some_same u.node (node_of s) (sym u.joined ∙ ap (λ (l : LifeId). g.nodes l s.epoch) ends.0 ∙ part.agrees.joined joined) in
        let e : Earlier (on_port far.port m.log) (sent s.card q s.log) = subst (λ (v : Node × ℕ). Earlier (on_port far.port m.log) (sent v.0.card v.1 v.0.log)) (λ i. (is i, ends.1 i)) u.earlier in
        earlier_same (on_port far.port m.log) (sent s.card q s.log) e (omega (arith, all, few))

delivered_part : (lives : List LifeId) (first : LifeId → ℕ) (g : Game) (z : LifeId) (q : ℕ) (s : SwitchOf) (far : EndId) → Play lives (begins first) g → IsPart g z s → s.joined ≡ true → peer_among s.card.links q ≡ Some far → is_unacked (s.sendings q) ≡ false → FarHasAll g z q s far
delivered_part lives first g z q s far play part joined linked quiet =
    let some = ap is_some linked in
    let pushed = ap length (part.own.pushed joined q some) in
    let turned = length-reverse (sent s.card q s.log) in
    let low = ltb-false (s.sendings q).acked (length (s.sendings q).pushed) quiet in
    let least = something s.card q s.log some in
    delivered_by lives first g z q (s.sendings q).acked s far play part joined linked (omega (arith, pushed, low, least)) (omega (arith, pushed, low, turned)) (part.acked q)

pub delivered_some : (lives : List LifeId) (on : PowerOn) (w : Network) (g : Game) (z : LifeId) (q : ℕ) (far : EndId) → Happens lives (dark on) (begins on.epoch) w g → (w.switches z).joined ≡ true
    → peer_among (w.switches z).card.links q ≡ Some far → 1 ≤ ((w.switches z).sendings q).acked → FarHasSome g z q (w.switches z) far
unfolding far_joined
delivered_some lives on w g z q far happens joined linked some = by (((holds lives on w g happens).played.parts z).acked q)
  where
    s : SwitchOf
    s = w.switches z

    by : ((s.sendings q).acked ≡ 0) ⊎ IsHeard g z s.card s.epoch q (s.sendings q).acked → FarHasSome g z q s far
    by (inl nothing) = absurd (omega (arith, nothing, some))
    by (inr h) = record {
      end = far_joined lives on.epoch g z q (s.sendings q).acked s far (plays lives on w g happens) linked h;
      accepted = subst (λ (d : EndId). (s.sendings q).acked ≤ length (on_port d.port h.node.log)) (far_is g z q (s.sendings q).acked s far linked h) h.few;
    }

pub delivered : (lives : List LifeId) (on : PowerOn) (w : Network) (g : Game) (z : LifeId) (q : ℕ) (far : EndId) → Happens lives (dark on) (begins on.epoch) w g → (w.switches z).joined ≡ true
    → peer_among (w.switches z).card.links q ≡ Some far → is_unacked ((w.switches z).sendings q) ≡ false → FarHasAll g z q (w.switches z) far
delivered lives on w g z q far happens joined linked quiet =
    let all = (holds lives on w g happens).played in
    delivered_part lives on.epoch g z q (w.switches z) far all.play (all.parts z) joined linked quiet

-- Both ends of a quiet link
pub settled_part : (lives : List LifeId) (first : LifeId → ℕ) (g : Game) (z x : LifeId) (s t : SwitchOf) (q p : ℕ) → Play lives (begins first) g → IsPart g z s → IsPart g x t → s.spent ≡ false → t.spent ≡ false → 1 ≤ q → q ≤ 12 → 1 ≤ p → p ≤ 12 → IsQuietLink s t q p → IsSettledLink s t q p
settled_part lives first g z x s t q p play one two s_works t_works q_least q_most p_least p_most h =
    let a : EndId = record { life = t.life; port = p } in
    let b : EndId = record { life = s.life; port = q } in
    let there = linked_of z s q a one.own s_works q_least q_most h.there in
    let back = linked_of x t p b two.own t_works p_least p_most h.back in
    let there_done = delivered_part lives first g z q s a play one there.joined there.linked h.acknowledged in
    let back_done = delivered_part lives first g x p t b play two back.joined back.linked h.acknowledged_back in
    let s_low : s.epoch ≤ t.epoch = let e = ap g.present two.own.life ∙ two.agrees.present in let f = there_done.end.not_behind in omega (arith, e, f) in
    let t_low : t.epoch ≤ s.epoch = let e = ap g.present one.own.life ∙ one.agrees.present in let f = back_done.end.not_behind in omega (arith, e, f) in
    let epoch : s.epoch ≡ t.epoch = omega (arith, s_low, t_low) in
    let t_node : there_done.end.node ≡ node_of t = some_same there_done.end.node (node_of t) (sym there_done.end.joined ∙ ap (λ (l : LifeId). g.nodes l s.epoch) two.own.life ∙ ap (g.nodes x) epoch ∙ two.agrees.joined back.joined) in
    let s_node : back_done.end.node ≡ node_of s = some_same back_done.end.node (node_of s) (sym back_done.end.joined ∙ ap (λ (l : LifeId). g.nodes l t.epoch) one.own.life ∙ ap (g.nodes z) (sym epoch) ∙ one.agrees.joined there.joined) in
    record {
      joined = there.joined;
      joined_back = back.joined;
      epoch = epoch;
      named = there_done.end.named;
      named_back = back_done.end.named;
      accepted = ap (λ (m : Node). on_port p m.log) (sym t_node) ∙ there_done.accepted;
      accepted_back = ap (λ (m : Node). on_port q m.log) (sym s_node) ∙ back_done.accepted;
    }

pub settled : (lives : List LifeId) (on : PowerOn) (w : Network) (g : Game) (z x : LifeId) (q p : ℕ) → Happens lives (dark on) (begins on.epoch) w g
    → (w.switches z).spent ≡ false → (w.switches x).spent ≡ false → 1 ≤ q → q ≤ 12 → 1 ≤ p → p ≤ 12 → IsQuietLink (w.switches z) (w.switches x) q p → IsSettledLink (w.switches z) (w.switches x) q p
settled lives on w g z x q p happens z_works x_works q_least q_most p_least p_most h =
    let all = (holds lives on w g happens).played in
    settled_part lives on.epoch g z x (w.switches z) (w.switches x) q p all.play (all.parts z) (all.parts x) z_works x_works q_least q_most p_least p_most h
