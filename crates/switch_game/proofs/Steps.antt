use Rattle.std.proofs.Common.{◌≡◌, ◌∙◌, sym, ap, refl, subst, ℕ, suc, ◌-◌, ◌<◌, ◌≤◌, ◌==◌, ◌&&◌, ◌||◌, nat_lt, not, arith, List, [], ◌∷◌, ◌++◌, reverse, slice_get, Option, Some, None, is_some, Bool, true, false, cond, ◌⊎◌, inl, inr, Contains}
use Rattle.std.proofs.lemmas.Bool.{and_parts, and_right, cond_both, eq-eqb, eqb-true, false≢true, ltb-true, ne_eqb, not-false, or_parts, true≢false, not-true, false_from_ne_true}
use Rattle.std.proofs.lemmas.Option.{none-some}
use Rattle.std.specs.List.{flat_map}
use Rattle.an_base.specs.Values.{EndId, LifeId, PeerAt, TopoOf}
use Rattle.an_base.specs.Frames.{CarryOf}
use Rattle.an_base.specs.declared.body.Body.{Body}
use Rattle.an_base.specs.declared.frame.Frame.{Frame}
use Rattle.an_base.specs.declared.frame.Frame.TheVariants.{Carry, Ack, Probe, Reply}
use Rattle.an_base.specs.declared.port.Sample.{Sample}
use Rattle.common_values.proofs.ListLemmas.{some_is}
use Rattle.connectivity.specs.Connections.{is_same_end}
use Rattle.port_monitor.specs.Ports.{probe_of}
use Rattle.port_monitor.specs.Histories.{externals}
use Rattle.ordered_link.specs.Sending.{Sending}
use Rattle.ordered_link.specs.Receiving.{Receiving, accepted_by, received}
use Rattle.ordered_link.specs.Session.{IsFrontOf}
use Rattle.ordered_link.proofs.SessionLemmas.{IsBody}
use Rattle.epoch_core.specs.Log.{CardOf, Log, on_port}
use Rattle.epoch_core.specs.Epoch.{adds, finish, sent}
use Rattle.epoch_game.specs.Slice.{IsCardOf, Names, Node}
use Rattle.epoch_game.specs.Game.{Game, MayJoin, Play, after_join, after_load, begins, joins as Play-joins, loads as Play-loads, none as Play-none, slice, with_loaded}
use Rattle.epoch_game.proofs.Basics.{some_same}
use Rattle.epoch_game.proofs.Nodes.{not_own}
use Rattle.epoch_game.proofs.GameLemmas.{loaded_finished, play_run}
use Rattle.epoch_game.proofs.StreamLemmas.{Heard, nodes, one_end, streams}
use Rattle.switch_core.specs.Switch.{SwitchOf, card_of, counts, end_at, finish_of, good_links, good_peer, port_of}
use Rattle.switch_core.specs.Steps.{Step, after, all_added, all_resent, answers_body, are_same_links, begun, clocked, framed, goes_on, is_change_due, is_spent_by, joins, loaded, log_with, on_ack, on_carry, peer_among, probe_out, probes, probes_at, receives, sampled_by, still}
use Rattle.switch_core.proofs.FarLemmas.{hears}
use Rattle.switch_core.proofs.FinishLemmas.{finish_joined, finish_stays}
use Rattle.switch_core.proofs.LawLemmas.{joins_acked, joins_card, joins_epoch, joins_log, joins_receivings}
use Rattle.switch_core.proofs.SoundLemmas.{joins_joined}
use Rattle.switch_core.proofs.WindowLemmas.{SendsUpTo, all_pushed_few, all_resent_few, none_more, on_ack_few}
use Rattle.switch_core.proofs.LinkLemmas.{counted, good_link, links_are}
use Rattle.switch_core.proofs.SendsLemmas.{AreSentBy, IsGrown, all_resent_sends, body_sends, joins_sends, on_ack_sends, reply_sent}
use Rattle.switch_game.specs.Network.{body_moves, carry_moves, clock_moves, frame_moves, with_switch}
use Rattle.switch_game.specs.Playing.{node_of}
use Rattle.switch_game.proofs.Streams.{earlier_front, stream}
use Rattle.switch_game.proofs.Links.{good_card, link_here, same_link}
use Rattle.switch_game.proofs.Received.{HasCome, received_come, received_more, received_splits}
use Rattle.switch_game.proofs.Moves.{HasAccepted, accepts_all, elsewhere_itself, join_elsewhere, load_elsewhere, loaded_here, node_put, not_loaded, present_here}
use Rattle.switch_game.proofs.Own.{IsOwn, KeepsOrSets, all_resent_acked, body_acked, on_ack_acked, own_body, own_hears, own_joined, own_same}
use Rattle.switch_game.proofs.Played.{AreTold, ComesIn, IsAckedIn, IsCarriedIn, IsHeard, IsPart, IsPlayed, IsTold, Plays, counted_later, held_later, plays_part, plays_then, told_append, told_later}

-- what a network has of one life
part_of : (lives : List LifeId) (first : LifeId → ℕ) (switches : LifeId → SwitchOf) (g : Game) (x : LifeId) (s : SwitchOf) → IsPlayed lives first switches g → switches x ≡ s → IsPart g x s
part_of lives first switches g x s played at = subst (IsPart g x) at (played.parts x)

-- a step that is no move
quiet : (lives : List LifeId) (first : LifeId → ℕ) (switches : LifeId → SwitchOf) (g : Game) (x : LifeId) (step : Step) → IsPlayed lives first switches g → IsPart g x step.switch → AreSentBy step.switch step.frames → Plays lives first switches x step g g
quiet lives first switches g x step played part sent = plays_part lives first switches x step g g played Play-none (elsewhere_itself x g) part sent

-- What goes out anew leaves the part, where what is acknowledged was heard
part_with : (g : Game) (x : LifeId) (s : SwitchOf) (ts : ℕ → Sending) → IsOwn x (record s { sendings = ts }) → ((q : ℕ) → ((ts q).acked ≡ 0) ⊎ IsHeard g x s.card s.epoch q (ts q).acked) → IsPart g x s → IsPart g x (record s { sendings = ts })
part_with g x s ts own acked part = record {
  own = own;
  agrees = let a = part.agrees in record { present = a.present; joined = a.joined; unjoined = a.unjoined; load_due = a.load_due };
  held = part.held;
  acked = acked;
}

part_sends : (g : Game) (x : LifeId) (s t : SwitchOf) → SendsUpTo none_more s t → IsGrown s t → ((q : ℕ) → ((t.sendings q).acked ≡ 0) ⊎ IsHeard g x s.card s.epoch q (t.sendings q).acked) → IsPart g x s → IsPart g x t
part_sends g x s t few grown acked part =
    subst (IsPart g x) (sym few.only) (part_with g x s t.sendings (subst (IsOwn x) few.only (own_same x s t few grown part.own)) acked part)

-- a good port of a switch that works is that of a link of its epoch
pub record IsLinked (s : SwitchOf) (port : ℕ) (peer : EndId) : Type 0 where
  pub joined : s.joined ≡ true
  pub linked : peer_among s.card.links port ≡ Some peer

linked_by : (b : Bool) (x : LifeId) (s : SwitchOf) (port : ℕ) (peer : EndId) → s.joined ≡ b → IsOwn x s → s.spent ≡ false → 1 ≤ port → port ≤ 12 → good_peer s port ≡ Some peer → IsLinked s port peer
linked_by false x s port peer not_joined own working least most is = absurd (none-some peer (sym (own.no_peers not_joined working port) ∙ is))
linked_by true x s port peer joined own working least most is = record {
  joined = joined;
  linked = ap (λ (ls : List PeerAt). peer_among ls port) (own.links joined working) ∙ good_link s port least most ∙ is;
}

pub linked_of : (x : LifeId) (s : SwitchOf) (port : ℕ) (peer : EndId) → IsOwn x s → s.spent ≡ false → 1 ≤ port → port ≤ 12 → good_peer s port ≡ Some peer → IsLinked s port peer
linked_of x s port peer own working least most is = linked_by s.joined x s port peer refl own working least most is

-- the end at a port, by the life
end_of : (x : LifeId) (s : SwitchOf) (port : ℕ) (to : EndId) → IsOwn x s → to ≡ end_at s port → Some to ≡ Some (record { life = x; port = port })
end_of x s port to own is = ap Some (is ∙ ap (λ (l : LifeId). record { life = l; port = port }) own.life)

-- An acknowledgement comes
ack_counted : (g : Game) (x : LifeId) (port epoch n : ℕ) (from to : EndId) (s t : SwitchOf) (q : ℕ) → IsPart g x s → IsLinked s port from → to ≡ end_at s port → IsAckedIn g epoch from to n → KeepsOrSets port epoch n s q t
    → ((t.sendings q).acked ≡ 0) ⊎ IsHeard g x s.card s.epoch q (t.sendings q).acked
ack_counted g x port epoch n from to s t q part linked is told (inl kept) = subst (λ (m : ℕ). (m ≡ 0) ⊎ IsHeard g x s.card s.epoch q m) (sym kept) (part.acked q)
ack_counted g x port epoch n from to s t q part linked is told (inr set) =
    inr (subst (λ (m : ℕ). IsHeard g x s.card s.epoch q m) (sym set.acked_is) (subst (λ (p : ℕ). IsHeard g x s.card s.epoch p n) (sym set.port_is) (record {
      there = record {
        far = from;
        named = sym (same_link s.card.links port) ∙ linked.linked;
        node = told.node;
        joined = ap (g.nodes from.life) (sym set.epoch_is) ∙ told.joined;
        back = told.to_is ∙ end_of x s port to part.own is;
      };
      few = told.few;
    })))

ack_plays : (lives : List LifeId) (first : LifeId → ℕ) (switches : LifeId → SwitchOf) (g : Game) (x : LifeId) (port epoch n : ℕ) (from to : EndId) (s : SwitchOf) → IsPlayed lives first switches g → IsPart g x s → IsLinked s port from → to ≡ end_at s port → IsAckedIn g epoch from to n
    → Plays lives first switches x (on_ack port from epoch n s) g g
ack_plays lives first switches g x port epoch n from to s played part linked is told =
    let step = on_ack port from epoch n s in
    let sends = on_ack_sends port epoch n from s linked.linked in
    quiet lives first switches g x step played
    (part_sends g x s step.switch (on_ack_few port epoch n from s) sends.grown (λ q. ack_counted g x port epoch n from to s step.switch q part linked is told (on_ack_acked port epoch n from s q)) part)
    sends.frames

-- A reply comes
part_hears : (g : Game) (x : LifeId) (port nonce : ℕ) (from : EndId) (s : SwitchOf) → IsPart g x s → IsPart g x (hears port from nonce s)
part_hears g x port nonce from s part = record {
  own = own_hears x port nonce from s part.own;
  agrees = let a = part.agrees in record { present = a.present; joined = a.joined; unjoined = a.unjoined; load_due = a.load_due };
  held = part.held;
  acked = part.acked;
}

joined_finish : (b : Bool) (s : SwitchOf) → s.joined ≡ b → is_some (cond b (finish s.card s.log) None) ≡ true → (s.joined ≡ true) × (is_some (finish s.card s.log) ≡ true)
joined_finish true s joined is = (joined, is)
joined_finish false s joined is = absurd (false≢true is)

pub load_plays : (lives : List LifeId) (first : LifeId → ℕ) (switches : LifeId → SwitchOf) (g : Game) (x : LifeId) (number : ℕ) (s : SwitchOf) → IsPlayed lives first switches g → switches x ≡ s → s.load_due ≡ true
    → Plays lives first switches x (still (loaded number s)) g (after_load g x)
load_plays lives first switches g x number s played at is =
    let part = part_of lives first switches g x s played at in
    let a = part.agrees in
    let both = and_parts (is_some (finish_of s)) (not (g.loaded x s.epoch)) (sym a.load_due ∙ is) in
    let done = joined_finish s.joined s refl both.0 in
    let topo = some_is (finish s.card s.log) done.1 in
    let fresh : g.loaded x (g.present x) ≡ false = ap (g.loaded x) a.present ∙ not-true (g.loaded x s.epoch) both.1 in
    let play : Play lives g (after_load g x) = Play-loads g x (node_of s) topo.0 Play-none (ap (g.nodes x) a.present ∙ a.joined done.0) topo.1 fresh in
    let now : with_loaded g x (g.present x) x s.epoch ≡ true = ap (with_loaded g x (g.present x) x) (sym a.present) ∙ loaded_here g x (g.present x) in
    plays_part lives first switches x (still (loaded number s)) g (after_load g x) played play (load_elsewhere g x)
    (record {
      own =
          let o = part.own in
          record { life = o.life; me = o.me; links = o.links; no_links = o.no_links; no_peers = o.no_peers; accepted = o.accepted; pushed = o.pushed };
      agrees = record {
        present = a.present;
        joined = a.joined;
        unjoined = a.unjoined;
        load_due = sym (and_right (is_some (finish_of s)) (not (with_loaded g x (g.present x) x s.epoch)) (ap not now));
      };
      held = λ p k b h. held_later lives first g (after_load g x) x s.card s.epoch p k b played.play play (part.held p k b h);
      acked = λ q. counted_later lives first g (after_load g x) x s.card s.epoch q (s.sendings q).acked played.play play (part.acked q);
    })
    tt

-- An epoch is joined, with the good links that the switch has now
joins_part : (lives : List LifeId) (first : LifeId → ℕ) (g : Game) (x : LifeId) (epoch : ℕ) (s : SwitchOf) → Play lives (begins first) g → s.life ≡ x → g.present x < epoch → IsPart (after_join g x epoch (joins epoch s).switch.card) x (joins epoch s).switch
joins_part lives first g x epoch s play life above =
    let t = (joins epoch s).switch in
    let c = card_of s.life s.number (good_links s) in
    let h = after_join g x epoch t.card in
    let joined = joins_joined epoch s in
    let card = joins_card epoch s in
    let node : Node = record { card = t.card; log = [] } in
    let log : node ≡ node_of t = ap (λ (l : Log). record { card = t.card; log = l }) (sym (joins_log epoch s)) in
    let done : finish_of t ≡ finish c [] = finish_joined t joined ∙ ap (λ (d : CardOf). finish d t.log) card ∙ ap (finish c) (joins_log epoch s) in
    let due : t.load_due ≡ is_some (finish c []) = ap (λ (u : SwitchOf). u.load_due) (all_pushed_few (adds (begun epoch s).card []) (begun epoch s)).only in
    let not_yet : g.loaded x t.epoch ≡ false = ap (g.loaded x) (joins_epoch epoch s) ∙ not_loaded lives first g x epoch play above in
    record {
      own = own_joined x epoch s life;
      agrees = record {
        present = present_here g x epoch ∙ sym (joins_epoch epoch s);
        joined = λ _. ap (h.nodes x) (joins_epoch epoch s) ∙ node_put g epoch x node ∙ ap Some log;
        unjoined = λ e is. absurd (true≢false (sym joined ∙ is));
        load_due = due ∙ ap is_some (sym done) ∙ sym (and_true (is_some (finish_of t))) ∙ ap (λ (b : Bool). is_some (finish_of t) && not b) (sym not_yet);
      };
      held = λ p k b is. absurd (none-some b (sym (ap (λ (r : Receiving). r.held k) (joins_receivings epoch p s)) ∙ is));
      acked = λ q. inl (joins_acked epoch q s);
    }
  where
    and_true : (b : Bool) → (b && true) ≡ b
    and_true true = refl
    and_true false = refl

joins_plays : (lives : List LifeId) (first : LifeId → ℕ) (switches : LifeId → SwitchOf) (g : Game) (x : LifeId) (epoch : ℕ) (s : SwitchOf) → IsPlayed lives first switches g → s.life ≡ x → Contains lives x → MayJoin g x epoch
    → Plays lives first switches x (joins epoch s) g (after_join g x epoch (joins epoch s).switch.card)
joins_plays lives first switches g x epoch s played life among may =
    let c = (joins epoch s).switch.card in
    let ok : IsCardOf x c = subst (IsCardOf x) (sym (joins_card epoch s)) (good_card x s.number s life) in
    plays_part lives first switches x (joins epoch s) g (after_join g x epoch c) played (Play-joins g x epoch c Play-none may among ok) (join_elsewhere g x epoch c)
    (joins_part lives first g x epoch s played.play life may.greater)
    (joins_sends epoch s).frames

-- A body comes that counts, in the present epoch
record Counts (g : Game) (x : LifeId) (port : ℕ) (f : CarryOf) (s : SwitchOf) : Type 0 where
  joined : s.joined ≡ true
  linked : peer_among s.card.links port ≡ Some f.from
  epoch : f.epoch ≡ s.epoch
  to : Some f.to ≡ Some (record { life = x; port = port })
  told : IsCarriedIn g f

-- the game knows both ends
record BothEnds (lives : List LifeId) (g : Game) (x : LifeId) (port : ℕ) (f : CarryOf) (s : SwitchOf) (m : Node) : Type 0 where
  here : g.nodes x (g.present x) ≡ Some (node_of s)
  there : g.nodes f.from.life (g.present x) ≡ Some m
  named : Names s.card port f.from.life f.from.port
  back : Names m.card f.from.port x port
  apart : x ≡ f.from.life → ⊥
  come : HasCome (stream m.card f.from.port m.log) (s.receivings port)

both_ends : (lives : List LifeId) (first : LifeId → ℕ) (g : Game) (x : LifeId) (port : ℕ) (f : CarryOf) (s : SwitchOf) → Play lives (begins first) g → IsPart g x s → (c : Counts g x port f s) → BothEnds lives g x port f s c.told.node
both_ends lives first g x port f s play part c =
    let a = part.agrees in
    let m = c.told.node in
    let here : g.nodes x (g.present x) ≡ Some (node_of s) = ap (g.nodes x) a.present ∙ a.joined c.joined in
    let there : g.nodes f.from.life (g.present x) ≡ Some m = ap (g.nodes f.from.life) (a.present ∙ sym c.epoch) ∙ c.told.joined in
    let named : Names s.card port f.from.life f.from.port = sym (same_link s.card.links port) ∙ c.linked in
    let back : Names m.card f.from.port x port = c.told.to ∙ c.to in
    let run = play_run lives first g (g.present x) play in
    let card = (nodes lives (slice (g.present x) g) run x (node_of s) here).0 in
    record {
      here = here;
      there = there;
      named = named;
      back = back;
      apart = not_own x s.card port f.from.life f.from.port card named;
      come = record {
        order = subst (λ (l : List Body). IsFrontOf l (stream m.card f.from.port m.log)) (sym (part.own.accepted port)) (front m there named (streams lives (slice (g.present x) g) run x (node_of s) port here));
        held = λ k b is. held m there named k b (part.held port k b is);
      };
    }
  where
    front : (m : Node) → g.nodes f.from.life (g.present x) ≡ Some m → Names s.card port f.from.life f.from.port → Heard (slice (g.present x) g) x (node_of s) port → IsFrontOf (reverse (on_port port s.log)) (stream m.card f.from.port m.log)
    front m there named (inl nil) = subst (λ (l : List Body). IsFrontOf (reverse l) (stream m.card f.from.port m.log)) (sym nil) (stream m.card f.from.port m.log, refl)
    front m there named (inr w) =
        let ends = one_end s.card port w.far w.port f.from.life f.from.port w.named named in
        let is : w.node ≡ m = some_same w.node m (sym w.joined ∙ ap (λ (l : LifeId). g.nodes l (g.present x)) ends.0 ∙ there) in
        subst (λ (v : Node × ℕ). IsFrontOf (reverse (on_port port s.log)) (stream v.0.card v.1 v.0.log)) (λ i. (is i, ends.1 i)) (earlier_front (on_port port s.log) (sent w.node.card w.port w.node.log) w.earlier)

    held : (m : Node) → g.nodes f.from.life (g.present x) ≡ Some m → Names s.card port f.from.life f.from.port → (k : ℕ) (b : Body) → ComesIn g x s.card s.epoch port k b → IsBody (stream m.card f.from.port m.log) k b
    held m there named k b w =
        let far : w.far ≡ f.from = some_same w.far f.from (sym w.named ∙ named) in
        let is : w.node ≡ m = some_same w.node m (sym w.joined ∙ ap (λ (d : EndId). g.nodes d.life s.epoch) far ∙ ap (g.nodes f.from.life) (sym part.agrees.present) ∙ there) in
        subst (λ (v : Node × EndId). IsBody (stream v.0.card v.1.port v.0.log) k b) (λ i. (is i, far i)) w.body

-- a load is due by a finish that was not there, and there was none where none was loaded
due_more : (due had has was : Bool) → due ≡ (had && not was) → (had ≡ false → was ≡ false) → (had ≡ true → has ≡ true) → (due || (not had && has)) ≡ (has && not was)
due_more due true true true a b c = ap (λ (d : Bool). d || false) a
due_more due true true false a b c = ap (λ (d : Bool). d || false) a
due_more due true false was a b c = absurd (false≢true (c refl))
due_more due false true true a b c = absurd (true≢false (b refl))
due_more due false true false a b c = ap (λ (d : Bool). d || true) a
due_more due false false was a b c = ap (λ (d : Bool). d || false) a

-- who has not finished has not loaded
unfinished : (lives : List LifeId) (first : LifeId → ℕ) (g : Game) (x : LifeId) (e : ℕ) (n : Node) → Play lives (begins first) g → g.nodes x e ≡ Some n → is_some (finish n.card n.log) ≡ false → g.loaded x e ≡ false
unfinished lives first g x e n play sx none =
    false_from_ne_true (g.loaded x e) (λ is.
    let f = loaded_finished lives first g x e play is in
    let same : f.node ≡ n = some_same f.node n (sym f.joined ∙ sx) in
    false≢true (sym none ∙ ap (λ (m : Node). is_some (finish m.card m.log)) (sym same) ∙ ap is_some f.finish))

body_part : (lives : List LifeId) (first : LifeId → ℕ) (g : Game) (x : LifeId) (port : ℕ) (f : CarryOf) (s : SwitchOf) → Play lives (begins first) g → IsPart g x s → (c : Counts g x port f s) → (ends : BothEnds lives g x port f s c.told.node)
    → HasAccepted lives x s.card (log_with port (accepted_by f.number f.body (s.receivings port)) s.log) g (body_moves x port f.number f.body s g)
    → IsPart (body_moves x port f.number f.body s g) x (answers_body port f.from f.number f.body s).switch
body_part lives first g x port f s play part c ends acc =
    subst (IsPart h x) (sym only) (record {
      own = subst (IsOwn x) only (own_body x port f.number f.from f.body s c.joined part.own);
      agrees = record {
        present = acc.present ∙ part.agrees.present;
        joined = λ _. ap (h.nodes x) (sym part.agrees.present) ∙ acc.node;
        unjoined = λ e is. absurd (true≢false (sym c.joined ∙ is));
        load_due = due ∙ ap (λ (o : Option TopoOf). is_some o && not (h.loaded x s.epoch)) (sym (finish_joined u c.joined));
      };
      held = λ p k b is. held (p == port) p k b refl is;
      acked = λ q. subst (λ (n : ℕ). (n ≡ 0) ⊎ IsHeard h x s.card s.epoch q n) (sym (body_acked port f.number f.from f.body s q)) (counted_later lives first g h x s.card s.epoch q (s.sendings q).acked play acc.play (part.acked q));
    })
  where
    bodies : List Body
    bodies = accepted_by f.number f.body (s.receivings port)

    log : Log
    log = log_with port bodies s.log

    h : Game
    h = body_moves x port f.number f.body s g

    u : SwitchOf
    u = receives port f.number f.body s

    t : SwitchOf
    t = (answers_body port f.from f.number f.body s).switch

    only : t ≡ record u { sendings = t.sendings }
    only = (all_pushed_few (all_added s.card port bodies s.log) u).only

    due : u.load_due ≡ (is_some (finish s.card log) && not (h.loaded x s.epoch))
    due =
        due_more s.load_due (is_some (finish s.card s.log)) (is_some (finish s.card log)) (g.loaded x s.epoch)
        (part.agrees.load_due ∙ ap (λ (o : Option TopoOf). is_some o && not (g.loaded x s.epoch)) (finish_joined s c.joined))
        (unfinished lives first g x s.epoch (node_of s) play (part.agrees.joined c.joined))
        (finish_stays s.card port bodies s.log)
        ∙ ap (λ (b : Bool). is_some (finish s.card log) && not b) (sym (acc.loaded s.epoch))

    come : HasCome (stream c.told.node.card f.from.port c.told.node.log) (received f.number f.body (s.receivings port))
    come = received_come (stream c.told.node.card f.from.port c.told.node.log) f.number f.body (s.receivings port) ends.come c.told.body

    here : (k : ℕ) (b : Body) → (received f.number f.body (s.receivings port)).held k ≡ Some b → ComesIn h x s.card s.epoch port k b
    here k b is =
        let joined = acc.elsewhere.nodes f.from.life s.epoch ends.apart ∙ ap (g.nodes f.from.life) (sym part.agrees.present) ∙ ends.there in
        record { there = record { far = f.from; named = ends.named; node = c.told.node; joined = joined; back = ends.back }; body = come.held k b is }

    held : (b : Bool) (p k : ℕ) (body : Body) → b ≡ (p == port) → (cond b (received f.number f.body (s.receivings port)) (s.receivings p)).held k ≡ Some body → ComesIn h x s.card s.epoch p k body
    held true p k body test is = subst (λ (i : ℕ). ComesIn h x s.card s.epoch i k body) (sym (eqb-true p port (sym test))) (here k body is)
    held false p k body test is = held_later lives first g h x s.card s.epoch p k body play acc.play (part.held p k body is)

body_plays : (lives : List LifeId) (first : LifeId → ℕ) (switches : LifeId → SwitchOf) (g : Game) (x : LifeId) (port : ℕ) (f : CarryOf) (s : SwitchOf) → IsPlayed lives first switches g → IsPart g x s → Counts g x port f s
    → Plays lives first switches x (answers_body port f.from f.number f.body s) g (body_moves x port f.number f.body s g)
body_plays lives first switches g x port f s played part c =
    let m = c.told.node in
    let r = s.receivings port in
    let bodies = accepted_by f.number f.body r in
    let ends = both_ends lives first g x port f s played.play part c in
    let come = received_come (stream m.card f.from.port m.log) f.number f.body r ends.come c.told.body in
    let splits : (received f.number f.body r).accepted ≡ reverse (on_port port s.log) ++ bodies = received_splits f.number f.body r ∙ ap (λ (l : List Body). l ++ bodies) (part.own.accepted port) in
    let acc = accepts_all lives x f.from.life port f.from.port s.card m bodies s.log g ends.here ends.there ends.named ends.back ends.apart (subst (λ (l : List Body). IsFrontOf l (stream m.card f.from.port m.log)) splits come.order) in
    plays_part lives first switches x (answers_body port f.from f.number f.body s) g (body_moves x port f.number f.body s g) played acc.play acc.elsewhere
    (body_part lives first g x port f s played.play part c ends acc)
    (body_sends port f.number f.from f.body s c.linked (received_more f.number f.body r)).frames

-- it comes in a greater epoch, which is joined first
may_join : (g : Game) (x : LifeId) (f : CarryOf) → g.present x < f.epoch → IsCarriedIn g f → MayJoin g x f.epoch
may_join g x f above told = record {
  greater = above;
  known = inr (record {
    life = f.from.life;
    node = told.node;
    joined = told.joined;
    port = f.from.port;
    sent = λ none. none-some f.body (ap (λ (l : List Body). slice_get (reverse l) (f.number - 1)) (sym none) ∙ told.body.there);
  });
}

greater_plays : (lives : List LifeId) (first : LifeId → ℕ) (switches : LifeId → SwitchOf) (g : Game) (x : LifeId) (port : ℕ) (f : CarryOf) (s : SwitchOf) → IsPlayed lives first switches g → IsPart g x s → Contains lives x → s.epoch < f.epoch → 1 ≤ port → port ≤ 12
    → good_peer s port ≡ Some f.from → f.to ≡ end_at s port → IsCarriedIn g f
    → Plays lives first switches x (after (joins f.epoch s) (answers_body port f.from f.number f.body (joins f.epoch s).switch)) g (body_moves x port f.number f.body (joins f.epoch s).switch (after_join g x f.epoch (joins f.epoch s).switch.card))
greater_plays lives first switches g x port f s played part among above least most peer to told =
    let one = joins f.epoch s in
    let t = one.switch in
    let h = after_join g x f.epoch t.card in
    let low : g.present x < f.epoch = let e = part.agrees.present in omega (arith, e, above) in
    let first_step = joins_plays lives first switches g x f.epoch s played part.own.life among (may_join g x f low told) in
    let new = joins_part lives first g x f.epoch s played.play part.own.life low in
    let counts_now : Counts h x port f t = record {
      joined = joins_joined f.epoch s;
      linked = ap (λ (c : CardOf). peer_among c.links port) (joins_card f.epoch s) ∙ good_link s port least most ∙ peer;
      epoch = sym (joins_epoch f.epoch s);
      to = end_of x s port f.to part.own to;
      told = told_later lives first g h (Carry f) played.play first_step.play told;
    }
    in
    plays_then lives first switches x one (answers_body port f.from f.number f.body t) g h (body_moves x port f.number f.body t h) played.play first_step
    (body_plays lives first (with_switch switches x t) h x port f t first_step.played new counts_now)

still_plays : (lives : List LifeId) (first : LifeId → ℕ) (switches : LifeId → SwitchOf) (g : Game) (x : LifeId) (s : SwitchOf) → IsPlayed lives first switches g → IsPart g x s → Plays lives first switches x (still s) g g
still_plays lives first switches g x s played part = quiet lives first switches g x (still s) played part tt

carry_plays : (lives : List LifeId) (first : LifeId → ℕ) (switches : LifeId → SwitchOf) (g : Game) (x : LifeId) (port : ℕ) (f : CarryOf) (s : SwitchOf) → IsPlayed lives first switches g → IsPart g x s → Contains lives x → s.spent ≡ false → 1 ≤ port → port ≤ 12
    → good_peer s port ≡ Some f.from → f.to ≡ end_at s port → IsCarriedIn g f
    → Plays lives first switches x (on_carry port f s) g (carry_moves x port f s g)
carry_plays lives first switches g x port f s played part among working least most peer to told = by (nat_lt s.epoch f.epoch) (f.epoch == s.epoch) refl refl
  where
    one : Step
    one = joins f.epoch s

    by : (b c : Bool) → b ≡ nat_lt s.epoch f.epoch → c ≡ (f.epoch == s.epoch)
        → Plays lives first switches x (cond b (after one (answers_body port f.from f.number f.body one.switch)) (cond c (answers_body port f.from f.number f.body s) (still s))) g
        (cond b (body_moves x port f.number f.body one.switch (after_join g x f.epoch one.switch.card)) (cond c (body_moves x port f.number f.body s g) g))
    by true c test same = greater_plays lives first switches g x port f s played part among (ltb-true s.epoch f.epoch (sym test)) least most peer to told
    by false true test same =
        let linked = linked_of x s port f.from part.own working least most peer in
        body_plays lives first switches g x port f s played part
        (record { joined = linked.joined; linked = linked.linked; epoch = eqb-true f.epoch s.epoch (sym same); to = end_of x s port f.to part.own to; told = told })
    by false false test same = still_plays lives first switches g x s played part

-- Any frame that is true is handed to it
pub frame_plays : (lives : List LifeId) (first : LifeId → ℕ) (switches : LifeId → SwitchOf) (g : Game) (x : LifeId) (port : ℕ) (frame : Frame) (s : SwitchOf) → IsPlayed lives first switches g → switches x ≡ s → Contains lives x → s.spent ≡ false → 1 ≤ port → port ≤ 12 → IsTold g frame
    → Plays lives first switches x (framed port frame s) g (frame_moves x port frame s g)
frame_plays lives first switches g x port (Carry f) s played at among working least most told = by (counts s port f.from f.to) refl
  where
    part : IsPart g x s
    part = part_of lives first switches g x s played at

    by : (b : Bool) → b ≡ counts s port f.from f.to → Plays lives first switches x (cond b (on_carry port f s) (still s)) g (cond b (carry_moves x port f s g) g)
    by true test = let c = counted s port f.from f.to (sym test) in carry_plays lives first switches g x port f s played part among working least most c.0 c.1 told
    by false test = still_plays lives first switches g x s played part
frame_plays lives first switches g x port (Ack epoch from to n) s played at among working least most told =
    let part = part_of lives first switches g x s played at in
    cond_both (counts s port from to) (on_ack port from epoch n s) (still s) (λ (step : Step). Plays lives first switches x step g g)
    (λ test. let c = counted s port from to test in ack_plays lives first switches g x port epoch n from to s played part (linked_of x s port from part.own working least most c.0) c.1 told)
    (λ _. still_plays lives first switches g x s played part)
frame_plays lives first switches g x port (Probe from nonce) s played at among working least most told =
    quiet lives first switches g x (framed port (Probe from nonce) s) played (part_of lives first switches g x s played at) (reply_sent s port nonce from)
frame_plays lives first switches g x port (Reply from to nonce) s played at among working least most told =
    let part = part_of lives first switches g x s played at in
    cond_both (is_same_end to (end_at s port)) (still (hears port from nonce s)) (still s) (λ (step : Step). Plays lives first switches x step g g)
    (λ _. still_plays lives first switches g x (hears port from nonce s) played (part_hears g x port nonce from s part))
    (λ _. still_plays lives first switches g x s played part)

-- A clock comes. The probes go out first
probe_told : (h : Game) (s : SwitchOf) (port : ℕ) (o : Option ℕ) → AreTold h (probe_out s port o)
probe_told h s port None = tt
probe_told h s port (Some nonce) = (tt, tt)

all_probes_told : (h : Game) (s : SwitchOf) (ports : List ℕ) → AreTold h (flat_map (probes_at s) ports)
all_probes_told h s [] = tt
all_probes_told h s (port ∷ ports) = told_append h (probes_at s port) (flat_map (probes_at s) ports) (probe_told h s port (probe_of (port_of s port))) (all_probes_told h s ports)

probes_first : (lives : List LifeId) (first : LifeId → ℕ) (switches : LifeId → SwitchOf) (x : LifeId) (u : SwitchOf) (step : Step) (g h : Game) → Plays lives first switches x step g h → Plays lives first switches x (after (record { switch = u; frames = probes u }) step) g h
probes_first lives first switches x u step g h p = record { play = p.play; played = p.played; told = told_append h (probes u) step.frames (all_probes_told h u externals) p.told }

-- its epochs are spent
part_spent : (g : Game) (x : LifeId) (now : ℕ) (samples : List Sample) (s : SwitchOf) → IsPart g x s → IsPart g x (record (sampled_by now samples s) { spent = true })
part_spent g x now samples s part = record {
  own =
      let o = part.own in
      record {
        life = o.life;
        me = o.me;
        links = λ _ is. absurd (true≢false is);
        no_links = o.no_links;
        no_peers = λ _ is. absurd (true≢false is);
        accepted = o.accepted;
        pushed = o.pushed;
      };
  agrees = let a = part.agrees in record { present = a.present; joined = a.joined; unjoined = a.unjoined; load_due = a.load_due };
  held = part.held;
  acked = part.acked;
}

-- no change is due
part_sampled : (g : Game) (x : LifeId) (now : ℕ) (samples : List Sample) (s : SwitchOf) → IsPart g x s → s.joined ≡ true → s.spent ≡ false → good_links s ≡ good_links (sampled_by now samples s) → IsPart g x (sampled_by now samples s)
part_sampled g x now samples s part joined working same = record {
  own =
      let o = part.own in
      record {
        life = o.life;
        me = o.me;
        links = λ _ _. o.links joined working ∙ same;
        no_links = o.no_links;
        no_peers = λ is. absurd (true≢false (sym joined ∙ is));
        accepted = o.accepted;
        pushed = o.pushed;
      };
  agrees = let a = part.agrees in record { present = a.present; joined = a.joined; unjoined = a.unjoined; load_due = a.load_due };
  held = part.held;
  acked = part.acked;
}

resent_plays : (lives : List LifeId) (first : LifeId → ℕ) (switches : LifeId → SwitchOf) (g : Game) (x : LifeId) (u : SwitchOf) → IsPlayed lives first switches g → IsPart g x u → u.joined ≡ true → Plays lives first switches x (all_resent u.card.links u) g g
resent_plays lives first switches g x u played part joined =
    let card = (nodes lives (slice u.epoch g) (play_run lives first g u.epoch played.play) x (node_of u) (part.agrees.joined joined)).0 in
    let step = all_resent u.card.links u in
    let sends = all_resent_sends u.card.links u (λ l i. link_here u.card.links l card.ports i) in
    quiet lives first switches g x step played
    (part_sends g x u step.switch (all_resent_few u.card.links u) sends.grown (λ q. subst (λ (n : ℕ). (n ≡ 0) ⊎ IsHeard g x u.card u.epoch q n) (sym (all_resent_acked u.card.links u q)) (part.acked q)) part)
    sends.frames

pub clock_plays : (lives : List LifeId) (first : LifeId → ℕ) (switches : LifeId → SwitchOf) (g : Game) (x : LifeId) (now : ℕ) (samples : List Sample) (s : SwitchOf) → IsPlayed lives first switches g → switches x ≡ s → Contains lives x → s.spent ≡ false
    → Plays lives first switches x (clocked now samples s) g (clock_moves x s (clocked now samples s).switch g)
clock_plays lives first switches g x now samples s played at among working =
    cond_both (is_spent_by s u) (still (record u { spent = true })) (after (record { switch = u; frames = probes u }) (goes_on s u)) P
    (λ _. same (still (record u { spent = true })) refl (still_plays lives first switches g x (record u { spent = true }) played (part_spent g x now samples s part)))
    (λ _. cond_both (is_change_due s u) (joins (suc u.epoch) u) (all_resent u.card.links u) Q (λ _. changes) (λ unchanged. resends unchanged))
  where
    u : SwitchOf
    u = sampled_by now samples s

    part : IsPart g x s
    part = part_of lives first switches g x s played at

    P : Step → Type 0
    P step = Plays lives first switches x step g (clock_moves x s step.switch g)

    Q : Step → Type 0
    Q step = P (after (record { switch = u; frames = probes u }) step)

    same : (step : Step) → step.switch.epoch ≡ s.epoch → Plays lives first switches x step g g → P step
    same step is p = subst (Plays lives first switches x step g) (ap (λ (b : Bool). cond b g (after_join g x step.switch.epoch step.switch.card)) (sym (eq-eqb s.epoch step.switch.epoch (sym is)))) p

    changes : Q (joins (suc u.epoch) u)
    changes =
        let t = (joins (suc u.epoch) u).switch in
        let e = joins_epoch (suc u.epoch) u in
        let a = part.agrees.present in
        let p = joins_plays lives first switches g x (suc u.epoch) u played part.own.life among (record { greater = omega (arith, a); known = inl (omega (arith, a)) }) in
        let is : after_join g x (suc u.epoch) t.card ≡ clock_moves x s t g =
        ap (λ (n : ℕ). after_join g x n t.card) (sym e) ∙ ap (λ (b : Bool). cond b g (after_join g x t.epoch t.card)) (sym (ne_eqb s.epoch t.epoch (omega (arith, e)))) in
        probes_first lives first switches x u (joins (suc u.epoch) u) g (clock_moves x s t g) (subst (Plays lives first switches x (joins (suc u.epoch) u) g) is p)

    resends : is_change_due s u ≡ false → Q (all_resent u.card.links u)
    resends unchanged =
        let both = or_parts (not s.joined) (not (are_same_links (good_links s) (good_links u))) unchanged in
        let joined = not-false s.joined both.0 in
        let links = links_are (good_links s) (good_links u) (not-false (are_same_links (good_links s) (good_links u)) both.1) in
        let p = resent_plays lives first switches g x u played (part_sampled g x now samples s part joined working links) joined in
        let epoch : (all_resent u.card.links u).switch.epoch ≡ s.epoch = ap (λ (v : SwitchOf). v.epoch) (all_resent_few u.card.links u).only in
        same (after (record { switch = u; frames = probes u }) (all_resent u.card.links u)) epoch (probes_first lives first switches x u (all_resent u.card.links u) g g p)
