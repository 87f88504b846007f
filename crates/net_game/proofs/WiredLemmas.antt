-- Each good link leads to who is at its far end by the wiring, and was there while this life was.

use Rattle.std.specs.Prelude.{◌≡◌, ◌⊎◌, ◌+◌, ◌==◌, ◌<◌, ℕ, cond, List, [], ◌∷◌, ◌++◌, slice_index_or, slice_set, Option, Some, None, Bool, true, false, refl}
use Rattle.std.proofs.Common.{true≢false, sym, ◌∙◌, ap, subst, inl, inr, arith, eq-eqb}
use Rattle.std.proofs.lemmas.Bool.{cond_both, cases_eq, eqb-true}
use Rattle.std.proofs.lemmas.List.{get_or-set_same}
use Rattle.an_base.specs.Values.{LifeId, EndId, TopoOf}
use Rattle.an_base.specs.declared.event.Event.{Event}
use Rattle.an_base.specs.declared.event.Event.TheVariants.{Tick, Clock, Take, Handle, Load, Fail, Repair, Lose, Again, Swap, Noise, Send, Move, Restart}
use Rattle.an_base.specs.declared.frame.Frame.{Frame}
use Rattle.an_base.specs.declared.frame.Frame.TheVariants.{Carry, Ack, Probe, Reply}
use Rattle.net_graph.specs.declared.wiring.Far.{Far}
use Rattle.net_graph.specs.declared.wiring.Far.TheVariants.{Switch, HostAt}
use Rattle.net_graph.specs.Wires.{far_at, far_of, host_of}
use Rattle.net_graph.proofs.FarLemmas.{far_back, to_switch}
use Rattle.net_script.specs.Scripts.{ScriptOf, IsScript}
use Rattle.frame_codec.specs.Frames.{IsFrame}
use Rattle.frame_codec.specs.Reading.{frame_of}
use Rattle.frame_codec.specs.Spelling.{spelling}
use Rattle.frame_codec.proofs.Decoding.{frame_again}
use Rattle.wire_set.specs.WireState.{WiresOf, place, side_at, wire_at, wire_out, hand_of, is_link, far_place, take_from}
use Rattle.connectivity.specs.Connections.{is_same_end}
use Rattle.connectivity.proofs.EndLemmas.{same_end_is}
use Rattle.port_monitor.specs.Histories.{Happening, History, Sampled, Replied, with_happening}
use Rattle.epoch_game.proofs.Basics.{none_some, some_same}
use Rattle.switch_core.specs.Switch.{SwitchOf, end_at, finish_of}
use Rattle.switch_core.specs.Steps.{Sent, Step, clocked, framed, loaded}
use Rattle.switch_core.specs.Bytes.{all_spelled, spelled_out}
use Rattle.switch_game.proofs.Laws.{own_of}
use Rattle.switch_game.proofs.Own.{IsOwn}
use Rattle.net_state.specs.declared.hand.Hand.{Hand}
use Rattle.net_state.specs.declared.hand.Hand.TheVariants as hand
use Rattle.net_state.specs.Fabric.{StationOf, count, station, vacant, held_bytes, is_full_at, samples_of}
use Rattle.net_state.specs.Lawful.{is_lawful}
use Rattle.net_state.specs.Effects.{noise, released}
use Rattle.net_state.proofs.LawfulLemmas.{lawful_is}
use Rattle.net_state.proofs.ReadyLemmas.{empty_at, handle_ready, take_ready}
use Rattle.net_state.proofs.HoldLemmas.{empty_hand, frame_here, released_fars}
use Rattle.net_state.proofs.WiresLemmas.{first_empty}
use Rattle.table_build.specs.Made.{number_in}
use Rattle.std.proofs.lemmas.List.FromFn.{get_or-map-range_with_len}
use Rattle.net_world.specs.Histories.{owner_of, switch_after}
use Rattle.net_world.specs.World.{WorldOf, begun, first_station, effect, handled, handles, handles_bytes, loads_with, next_life, step, world_after}
use Rattle.net_world.proofs.WorldLemmas.{world_after-event, step-lawful, step-unlawful}
use Rattle.net_world.proofs.InductionLemmas.{world_script}
use Rattle.net_world.proofs.ElsewhereLemmas.{step_elsewhere}
use Rattle.net_world.proofs.HandLemmas.{hand_elsewhere, lawful_port, world_ports}
use Rattle.net_world.proofs.FabricLemmas.{world_fits}
use Rattle.net_world.proofs.PlaceLemmas.{below_station, switch_below}
use Rattle.net_game.specs.Lives.{powered}
use Rattle.net_game.specs.Moves.{game_after}
use Rattle.net_game.proofs.Firm.{places, AreFirm}
use Rattle.net_game.proofs.BytesLemmas.{InQueues, GoesTo, put_queue, take_queue, released_queue, all_out_queue, repair_queue, fail_queue}
use Rattle.net_game.proofs.KnownLemmas.{IsKnown, known_frame, empty_none, noise_none}
use Rattle.net_game.proofs.RangedFrames.{IsOut, AreFrames, IsSender, clocked_frames, framed_frames}
use Rattle.net_game.proofs.RangedSwitch.{ranged_sampled}
use Rattle.net_game.proofs.EmbedLemmas.{all_ranged, chain_of, embedded}
use Rattle.net_world.proofs.SpentLemmas.{full_unspent}
use Rattle.net_game.proofs.PortFacts.{external}
use Rattle.net_game.proofs.DeliveredLemmas.{far_is}
use Rattle.net_game.proofs.PeerFacts.{HeardOk, LinkOk, good_links_ok}
use Rattle.net_game.proofs.KindLemmas.{AreCarded, Answers, Asks, clock_is, clocked_asks, framed_answers, framed_is}
use Rattle.net_game.specs.Meeting.{Met}
use Rattle.net_game.proofs.MetLemmas.{Came, boots_rise, IsFrom, far_fits, from_hand, from_more, from_none, met_more, replied_met}
use Rattle.net_game.proofs.HistoryLemmas.{by_events}
use Rattle.net_game.proofs.EachLemmas.{Each, each_index, each_map, each_all}

-- the frames that a switch sends by a lawful handling are frames that can be
own_at : (script : ScriptOf) (lives : List LifeId) → IsScript script → AreFirm script lives → (h : List Event) (s : ℕ) → s < places script → IsOwn (switch_after script h s).life (switch_after script h s)
own_at script lives kept firm h s low =
    let w = embedded script lives kept firm h in
    subst (IsOwn (switch_after script h s).life) (w.is_in.switches s low) (own_of lives (powered script) w.network (game_after script h) (switch_after script h s).life w.is_in.happens)

after_handle : (script : ScriptOf) (h : List Event) (t : ℕ) → is_lawful (world_after script h).fabric (Handle t) ≡ true → switch_after script (h ++ Handle t ∷ []) t ≡ (handled t (world_after script h)).switch
unfolding effect
after_handle script h t lawful =
    let w = world_after script h in
    ap (λ (v : WorldOf). v.switches t) (world_after-event script h (Handle t) ∙ step-lawful w (Handle t) lawful)
    ∙ ap (λ (b : Bool). cond b (handled t w).switch (w.switches t)) (eq-eqb t t refl)

sender_at : (script : ScriptOf) (lives : List LifeId) → IsScript script → AreFirm script lives → (h : List Event) (s : ℕ) → s < places script → (works : ℕ) × IsSender works (switch_after script h s).life (switch_after script h s)
sender_at script lives kept firm h s low =
    let k = (firm h).sound s low in
    let few = k.few in
    (k.works, record { few = omega (arith, few); own = own_at script lives kept firm h s low; sound = k.sound; ranged = all_ranged script lives kept firm h s low })

-- what is in hand was sent
hand_known : (script : ScriptOf) (lives : List LifeId) → IsScript script → AreFirm script lives → (h : List Event) (s : ℕ) (f : Frame) → frame_of (held_bytes (world_after script h).fabric s) ≡ Some f → IsFrame f
hand_known script lives kept firm h s f read =
    let state = (chain_of script lives kept firm h).state in
    let w = world_after script h in
    known_frame state.network.sent (held_bytes w.fabric s) f (each_index (IsKnown state.network.sent) (hand_of w.fabric.wires s) 0 [] (inr empty_none) (state.holds.heard (place s 0))) read

unspent_full : (script : ScriptOf) (lives : List LifeId) → IsScript script → AreFirm script lives → (h : List Event) (s : ℕ) → s < places script → is_full_at (world_after script h).fabric s ≡ true → (switch_after script h s).spent ≡ false
unspent_full script lives kept firm h s low full = sym ((firm h).spent s low) ∙ full_unspent (world_after script h).fabric s (chain_of script lives kept firm h).state.empty full

handled_frames : (script : ScriptOf) (lives : List LifeId) → IsScript script → AreFirm script lives → (h : List Event) (t : ℕ) → t < places script → is_lawful (world_after script h).fabric (Handle t) ≡ true → AreFrames (handled t (world_after script h)).frames
unfolding handles
handled_frames script lives kept firm h t low lawful = by (station w.fabric t).hand refl k.1
  where
    w : WorldOf
    w = world_after script h

    u : SwitchOf
    u = w.switches t

    full : is_full_at w.fabric t ≡ true
    full = (handle_ready w.fabric t (lawful_is w.fabric (Handle t) lawful).ready).1

    sender : (works : ℕ) × IsSender works (switch_after script (h ++ Handle t ∷ []) t).life (switch_after script (h ++ Handle t ∷ []) t)
    sender = sender_at script lives kept firm (h ++ Handle t ∷ []) t low

    k : (works : ℕ) × IsSender works (handled t w).switch.life (handled t w).switch
    k = subst (λ (v : SwitchOf). (works : ℕ) × IsSender works v.life v) (after_handle script h t lawful) sender

    by_frame : (port : ℕ) (o : Option Frame) → (station w.fabric t).hand ≡ hand.Frame port → frame_of (held_bytes w.fabric t) ≡ o → IsSender k.0 (handles_bytes port o u).switch.life (handles_bytes port o u).switch → AreFrames (handles_bytes port o u).frames
    by_frame port None is read sends = tt
    by_frame port (Some f) is read sends =
        let ports = external script kept h t port low is in
        framed_frames k.0 (framed port f u).switch.life port f u (subst (λ (y : LifeId). IsOwn y u) (sym (framed_is port f u).life) (own_at script lives kept firm h t low)) (unspent_full script lives kept firm h t low full) ports.0 ports.1 (hand_known script lives kept firm h t f read) (all_ranged script lives kept firm h t low) sends

    by : (i : Hand) → (station w.fabric t).hand ≡ i → IsSender k.0 (handles i (held_bytes w.fabric t) u).switch.life (handles i (held_bytes w.fabric t) u).switch → AreFrames (handles i (held_bytes w.fabric t) u).frames
    by hand.Empty is sends = tt
    by (hand.Clock now samples) is sends = clocked_frames k.0 (clocked now samples u).switch.life now samples u (ranged_sampled now samples u (all_ranged script lives kept firm h t low)) sends
    by (hand.Frame port) is sends = by_frame port (frame_of (held_bytes w.fabric t)) is refl sends

-- What is known at each moment
pub record IsMetAt (script : ScriptOf) (h : List Event) (s : ℕ) (u : SwitchOf) : Type 0 where
  pub ports : (p : ℕ) → Each (HeardOk (Met script h s u.life p)) (u.ports p)
  pub card : Each (LinkOk (Met script h s u.life)) u.card.links

-- what is in hand came by a link
pub record IsInHand (script : ScriptOf) (h : List Event) (s p : ℕ) (frames : List (List ℕ)) : Type 0 where
  pub other : ℕ
  pub port : ℕ
  pub wired : far_at script.wires s p ≡ Some (Switch other port)
  pub each : Each (IsFrom script h (place s p)) frames

pub record AreMet (script : ScriptOf) (h : List Event) (w : WorldOf) : Type 0 where
  pub wires : InQueues (IsFrom script h) w.fabric.wires
  pub hands : (s p : ℕ) → s < places script → (station w.fabric s).hand ≡ hand.Frame p → IsInHand script h s p (hand_of w.fabric.wires s)
  pub switches : (s : ℕ) → s < places script → IsMetAt script h s (w.switches s)

heard_more : (script : ScriptOf) (h : List Event) (e : Event) (s : ℕ) (x : LifeId) (p : ℕ) (i : Happening) → HeardOk (Met script h s x p) i → HeardOk (Met script (h ++ e ∷ []) s x p) i
heard_more script h e s x p (Sampled q) is = tt
heard_more script h e s x p (Replied from nonce) is = met_more script h e s x p from is

pub at_more : (script : ScriptOf) (h : List Event) (e : Event) (s : ℕ) (u : SwitchOf) → IsMetAt script h s u → IsMetAt script (h ++ e ∷ []) s u
at_more script h e s u is = record {
  ports = λ p. each_map (HeardOk (Met script h s u.life p)) (HeardOk (Met script (h ++ e ∷ []) s u.life p)) (u.ports p) (heard_more script h e s u.life p) (is.ports p);
  card = each_map (LinkOk (Met script h s u.life)) (LinkOk (Met script (h ++ e ∷ []) s u.life)) u.card.links (λ k is. met_more script h e s u.life k.port k.peer is) is.card;
}

all_more : (script : ScriptOf) (h : List Event) (e : Event) (w : WorldOf) → AreMet script h w → AreMet script (h ++ e ∷ []) w
all_more script h e w is = record {
  wires = λ q. each_map (IsFrom script h q) (IsFrom script (h ++ e ∷ []) q) (wire_at w.fabric.wires q) (from_more script h e q) (is.wires q);
  hands = λ s p low at. let k = is.hands s p low at in record { other = k.other; port = k.port; wired = k.wired; each = each_map (IsFrom script h (place s p)) (IsFrom script (h ++ e ∷ []) (place s p)) (hand_of w.fabric.wires s) (from_more script h e (place s p)) k.each };
  switches = λ s low. at_more script h e s (w.switches s) (is.switches s low);
}

-- where ports and links are those of an earlier switch
pub at_as : (script : ScriptOf) (h : List Event) (s : ℕ) (u v : SwitchOf) → v.life ≡ u.life → ((p : ℕ) → Each (HeardOk (Met script h s u.life p)) (v.ports p)) → AreCarded u v → IsMetAt script h s u → IsMetAt script h s v
at_as script h s u v life ports card is = record {
  ports = λ p. subst (λ (x : LifeId). Each (HeardOk (Met script h s x p)) (v.ports p)) (sym life) (ports p);
  card = subst (λ (x : LifeId). Each (LinkOk (Met script h s x)) v.card.links) (sym life) (by card);
}
  where
    by : AreCarded u v → Each (LinkOk (Met script h s u.life)) v.card.links
    by (inl same) = subst (Each (LinkOk (Met script h s u.life))) (sym same) is.card
    by (inr good) = subst (Each (LinkOk (Met script h s u.life))) (sym good) (good_links_ok (Met script h s u.life) u.life v.ports ports)

-- a clock, a frame
pub clocked_met : (script : ScriptOf) (h : List Event) (s now : ℕ) (samples : List _) (u : SwitchOf) → IsMetAt script h s u → IsMetAt script h s (clocked now samples u).switch
clocked_met script h s now samples u is =
    let k = clock_is now samples u in
    at_as script h s u (clocked now samples u).switch k.life (λ p. subst (Each (HeardOk (Met script h s u.life p))) (sym (k.ports p)) (tt, is.ports p)) k.card is

-- the frame in hand, by the port by which it came
framed_met : (script : ScriptOf) → IsScript script → (g h : List Event) (s port : ℕ) (f : Frame) → s < places script → ((from to : EndId) (nonce : ℕ) → f ≡ Reply from to nonce → to ≡ end_at (switch_after script g s) port → Met script h s (switch_after script g s).life port from)
    → IsMetAt script h s (switch_after script g s) → IsMetAt script h s (framed port f (switch_after script g s)).switch
framed_met script kept g h s port f low met is =
    let u = switch_after script g s in
    let k = framed_is port f u in
    at_as script h s u (framed port f u).switch k.life (λ p. ports_by (framed port f u).switch k.ports p) k.card is
  where
    ports_by : (v : SwitchOf) → (v.ports ≡ (switch_after script g s).ports) ⊎ ((from to : EndId) × (nonce : ℕ) × (f ≡ Reply from to nonce) × (is_same_end to (end_at (switch_after script g s) port) ≡ true) × (v.ports ≡ with_happening port (Replied from nonce) (switch_after script g s).ports))
        → (p : ℕ) → Each (HeardOk (Met script h s (switch_after script g s).life p)) (v.ports p)
    ports_by v (inl same) p = subst (λ (ports : ℕ → History). Each (HeardOk (Met script h s (switch_after script g s).life p)) (ports p)) (sym same) (is.ports p)
    ports_by v (inr r) p =
        subst (λ (ports : ℕ → History). Each (HeardOk (Met script h s (switch_after script g s).life p)) (ports p)) (sym r.5)
        (cond_both (p == port) (Replied r.0 r.2 ∷ (switch_after script g s).ports p) ((switch_after script g s).ports p) (Each (HeardOk (Met script h s (switch_after script g s).life p)))
        (λ here. (subst (λ (n : ℕ). Met script h s (switch_after script g s).life n r.0) (sym (eqb-true p port here)) (met r.0 r.1 r.2 r.3 (same_end_is r.1 (end_at (switch_after script g s) port) r.4)), is.ports p))
        (λ _. is.ports p))

-- What goes out by a port of a place comes from there
goes_from : (script : ScriptOf) → IsScript script → (h : List Event) (t : ℕ) → t < places script → (x : Sent) → IsOut x
    → ((s p : ℕ) → far_at script.wires t x.port ≡ Some (Switch s p) → Came script (h ++ Handle t ∷ []) s t x.port x.frame) → GoesTo (IsFrom script (h ++ Handle t ∷ [])) (world_after script h).fabric.wires t (spelled_out x)
goes_from script kept h t low x out came = by (side_at (world_after script h).fabric.wires (place t x.port)).far refl
  where
    g : List Event
    g = h ++ Handle t ∷ []

    arrives : (s p : ℕ) → far_at script.wires t x.port ≡ Some (Switch s p) → IsFrom script g (place s p) (spelling x.frame)
    arrives s p far a b c d at there f read =
        let k = far_fits script kept t x.port s p far in
        let m = far_fits script kept a b c d there in
        let p_most = k.port_most in
        let b_most = m.own_port_most in
        let s_is : s ≡ a = omega (arith, at, p_most, b_most) in
        let p_is : p ≡ b = omega (arith, at, p_most, b_most) in
        let back : far_of script.wires.links s p ≡ Some (t, x.port) = far_back script.wires kept.wired t x.port s p (to_switch (far_of script.wires.links t x.port) (host_of script.wires.hosts t x.port) s p far) in
        let front : far_of script.wires.links a b ≡ Some (c, d) = to_switch (far_of script.wires.links a b) (host_of script.wires.hosts a b) c d there in
        let pair : ◌≡◌ {A = ℕ × ℕ} (t, x.port) (c, d) = some_same (t, x.port) (c, d) (sym back ∙ ap (λ n. far_of script.wires.links n p) s_is ∙ ap (far_of script.wires.links a) p_is ∙ front) in
        let frame : x.frame ≡ f = some_same x.frame f (sym (frame_again x.frame out.frame_is) ∙ read) in
        subst (λ (n : ℕ). Came script g n c d f) s_is (subst (λ (z : ℕ × ℕ). Came script g s z.0 z.1 f) pair (subst (Came script g s t x.port) frame (came s p far)))

    by : (o : Option Far) → (side_at (world_after script h).fabric.wires (place t x.port)).far ≡ o → is_link (side_at (world_after script h).fabric.wires (place t x.port)).far ≡ true
        → IsFrom script g (far_place (side_at (world_after script h).fabric.wires (place t x.port)).far) (spelling x.frame)
    by None is link = absurd (true≢false (sym link ∙ ap is_link is))
    by (Some (HostAt n)) is link = absurd (true≢false (sym link ∙ ap is_link is))
    by (Some (Switch s p)) is link =
        let most = out.port_is.1 in
        let far : far_at script.wires t x.port ≡ Some (Switch s p) = sym (far_is script kept h t x.port low (omega (arith, most))) ∙ is in
        subst (λ (o : Option Far). IsFrom script g (far_place o) (spelling x.frame)) (sym is) (arrives s p far)

all_go : (script : ScriptOf) → IsScript script → (h : List Event) (t : ℕ) → t < places script → (xs : List Sent) → AreFrames xs
    → Each (λ x. (s p : ℕ) → far_at script.wires t x.port ≡ Some (Switch s p) → Came script (h ++ Handle t ∷ []) s t x.port x.frame) xs → Each (GoesTo (IsFrom script (h ++ Handle t ∷ [])) (world_after script h).fabric.wires t) (all_spelled xs)
all_go script kept h t low [] out came = tt
all_go script kept h t low (x ∷ xs) out came = (goes_from script kept h t low x out.0 came.0, all_go script kept h t low xs out.1 came.1)

-- at a clock
asks_came : (script : ScriptOf) (h : List Event) (s t r : ℕ) (f : Frame) → Asks (switch_after script h t) f → Came script (h ++ Handle t ∷ []) s t r f
asks_came script h s t r (Carry f) is = tt
asks_came script h s t r (Ack epoch from to n) is = tt
asks_came script h s t r (Probe from nonce) is = let same = ap (λ (l : LifeId). l.boot) is in let up = boots_rise script h (Handle t ∷ []) t in omega (arith, same, up)
asks_came script h s t r (Reply from to nonce) is = absurd is

-- and for a frame that came
answers_came : (script : ScriptOf) (h : List Event) (s p t port : ℕ) (f : Frame) (x : Sent) (g : Frame) → ((a b : ℕ) → far_at script.wires t port ≡ Some (Switch a b) → Came script h t a b f) → far_at script.wires t x.port ≡ Some (Switch s p)
    → Answers (switch_after script h t) port f x g → Came script (h ++ Handle t ∷ []) s t x.port g
answers_came script h s p t port f x (Carry g) came far is = tt
answers_came script h s p t port f x (Ack epoch from to n) came far is = tt
answers_came script h s p t port f x (Probe from nonce) came far is = absurd is
answers_came script h s p t port f x (Reply from to nonce) came far is = record {
  port = ap (λ (e : EndId). e.port) is.0 ∙ sym is.1;
  before = h;
  later = Handle t ∷ [];
  parts = refl;
  there = sym (ap (λ (e : EndId). e.life) is.0);
  known = subst (Came script h t s p) is.2 (came s p (ap (far_at script.wires t) (sym is.1) ∙ far));
}

-- A switch handles what it has in hand
record IsHandled (script : ScriptOf) (h : List Event) (t : ℕ) (step : Step) : Type 0 where
  came : Each (λ x. (s p : ℕ) → far_at script.wires t x.port ≡ Some (Switch s p) → Came script (h ++ Handle t ∷ []) s t x.port x.frame) step.frames
  met : IsMetAt script (h ++ Handle t ∷ []) t step.switch

handled_is : (script : ScriptOf) → IsScript script → (h : List Event) (t : ℕ) → t < places script → AreMet script h (world_after script h) → IsHandled script h t (handled t (world_after script h))
unfolding handles
handled_is script kept h t low old = by (station w.fabric t).hand refl
  where
    w : WorldOf
    w = world_after script h

    u : SwitchOf
    u = w.switches t

    now : IsMetAt script (h ++ Handle t ∷ []) t u
    now = at_more script h (Handle t) t u (old.switches t low)

    by_frame : (port : ℕ) (o : Option Frame) → (station w.fabric t).hand ≡ hand.Frame port → frame_of (held_bytes w.fabric t) ≡ o → IsHandled script h t (handles_bytes port o u)
    by_frame port None is read = record { came = tt; met = now }
    by_frame port (Some f) is read =
        let k = old.hands t port low is in
        let in_hand : IsFrom script h (place t port) (held_bytes w.fabric t) = each_index (IsFrom script h (place t port)) (hand_of w.fabric.wires t) 0 [] (from_none script h (place t port) [] empty_none) k.each in
        let incoming : (a b : ℕ) → far_at script.wires t port ≡ Some (Switch a b) → Came script h t a b f = λ a b far. in_hand t port a b refl far f read in
        record {
          came = each_map (λ x. Answers u port f x x.frame) (λ x. (s p : ℕ) → far_at script.wires t x.port ≡ Some (Switch s p) → Came script (h ++ Handle t ∷ []) s t x.port x.frame) (framed port f u).frames
              (λ x is s p far. answers_came script h s p t port f x x.frame incoming far is) (framed_answers port f u);
          met = framed_met script kept h (h ++ Handle t ∷ []) t port f low
              (λ from to nonce f_is to_is. met_more script h (Handle t) t u.life port from
              (replied_met script kept h t port k.other k.port from to k.wired (ap (λ (e : EndId). e.life) to_is) (subst (Came script h t k.other k.port) f_is (incoming k.other k.port k.wired)))) now;
        }

    by : (i : Hand) → (station w.fabric t).hand ≡ i → IsHandled script h t (handles i (held_bytes w.fabric t) u)
    by hand.Empty is = record { came = tt; met = now }
    by (hand.Clock n samples) is = record {
      came = each_map (λ x. Asks u x.frame) (λ x. (s p : ℕ) → far_at script.wires t x.port ≡ Some (Switch s p) → Came script (h ++ Handle t ∷ []) s t x.port x.frame) (clocked n samples u).frames
          (λ x is s p far. asks_came script h s t x.port x.frame is) (clocked_asks n samples u);
      met = clocked_met script (h ++ Handle t ∷ []) t n samples u now;
    }
    by (hand.Frame port) is = by_frame port (frame_of (held_bytes w.fabric t)) is refl

-- The wires after an event
loads_wired : (script : ScriptOf) (h : List Event) (topo : Option TopoOf) (t : ℕ) (w : WorldOf) → InQueues (IsFrom script h) w.fabric.wires → InQueues (IsFrom script h) (loads_with topo t w).fabric.wires
loads_wired script h None t w all = all
loads_wired script h (Some topo) t w all = all

wires_next : (script : ScriptOf) (lives : List LifeId) → IsScript script → AreFirm script lives → (h : List Event) (e : Event) → is_lawful (world_after script h).fabric e ≡ true → AreMet script h (world_after script h) → InQueues (IsFrom script (h ++ e ∷ [])) (world_after script h).fabric.wires
    → InQueues (IsFrom script (h ++ e ∷ [])) (effect e (world_after script h)).fabric.wires
unfolding effect
wires_next script lives kept firm h (Take t p) lawful old now =
    take_queue (IsFrom script (h ++ Take t p ∷ [])) (place t p) (place t 0) (world_after script h).fabric.wires (from_none script (h ++ Take t p ∷ []) (place t p) [] empty_none) (λ bytes is. from_hand script kept (h ++ Take t p ∷ []) t bytes) now
wires_next script lives kept firm h (Handle t) lawful old now =
    let w = world_after script h in
    let P = IsFrom script (h ++ Handle t ∷ []) in
    let low = switch_below script h t (handle_ready w.fabric t (lawful_is w.fabric (Handle t) lawful).ready).0 in
    let k = (station w.fabric t).hand in
    all_out_queue P w.fabric.wires t (all_spelled (handled t w).frames) (released k t w.fabric.wires) (released_fars k t w.fabric.wires) (released_queue P k t w.fabric.wires now)
    (all_go script kept h t low (handled t w).frames (handled_frames script lives kept firm h t low lawful) (handled_is script kept h t low old).came)
wires_next script lives kept firm h (Fail t p) lawful old now = fail_queue (IsFrom script (h ++ Fail t p ∷ [])) (place t p) (world_after script h).fabric.wires now
wires_next script lives kept firm h (Repair t p) lawful old now = repair_queue (IsFrom script (h ++ Repair t p ∷ [])) (place t p) (world_after script h).fabric.wires now
wires_next script lives kept firm h (Noise t p n) lawful old now =
    let w = (world_after script h).fabric.wires in
    put_queue (IsFrom script (h ++ Noise t p n ∷ [])) (place t p) (wire_out w t p) (noise n) w now (from_none script (h ++ Noise t p n ∷ []) (wire_out w t p) (noise n) (noise_none n))
wires_next script lives kept firm h (Load t) lawful old now = let w = world_after script h in loads_wired script (h ++ Load t ∷ []) (finish_of (w.switches t)) t w now
wires_next script lives kept firm h e lawful old now = now

-- The hands after an event
abbrev port_in : Hand → Option ℕ
port_in hand.Empty = None
port_in (hand.Clock n samples) = None
port_in (hand.Frame p) = Some p

abbrev HandOf : ScriptOf → List Event → ℕ → StationOf → WiresOf → Type 0
HandOf script h s x w = (p : ℕ) → x.hand ≡ hand.Frame p → IsInHand script h s p (hand_of w s)

-- the bytes of the hand and of the wire from which it takes
abbrev TakenAt : ScriptOf → List Event → ℕ → ℕ → ℕ → List ℕ → Type 0
TakenAt script h t p queue bytes = (queue ≡ place t 0) ⊎ (queue ≡ place t p) → IsFrom script h (place t p) bytes

taken_hand : (script : ScriptOf) (h : List Event) (t p : ℕ) (w : WiresOf) → hand_of w t ≡ [] → Each (IsFrom script h (place t p)) (wire_at w (place t p)) → Each (IsFrom script h (place t p)) (hand_of (take_from (place t p) (place t 0) w) t)
taken_hand script h t p w empty all =
    each_map (TakenAt script h t p (place t 0)) (IsFrom script h (place t p)) (hand_of (take_from (place t p) (place t 0) w) t) (λ bytes is. is (inl refl))
    (take_queue (TakenAt script h t p) (place t p) (place t 0) w (λ _. from_none script h (place t p) [] empty_none) (λ bytes is _. is (inr refl)) first (place t 0))
  where
    at : (q : ℕ) → (q ≡ place t 0) ⊎ (q ≡ place t 0 → ⊥) → (q ≡ place t p) ⊎ (q ≡ place t p → ⊥) → Each (TakenAt script h t p q) (wire_at w q)
    at q (inl is) which = subst (λ (n : ℕ). Each (TakenAt script h t p q) (wire_at w n)) (sym is) (subst (Each (TakenAt script h t p q)) (sym empty) tt)
    at q (inr other) (inl is) = subst (λ (n : ℕ). Each (TakenAt script h t p q) (wire_at w n)) (sym is) (each_map (IsFrom script h (place t p)) (TakenAt script h t p q) (wire_at w (place t p)) (λ bytes from _. from) all)
    at q (inr other) (inr none) = each_all (TakenAt script h t p q) (wire_at w q) (λ bytes which. elim which [ inl is ↦ absurd (other is) | inr is ↦ absurd (none is) ])

    first : InQueues (TakenAt script h t p) w
    first q = at q (cases_eq q (place t 0)) (cases_eq q (place t p))

fabric_low : (script : ScriptOf) (h : List Event) (t : ℕ) → t < places script → t < count (world_after script h).fabric
fabric_low script h t low = let same = ap places (world_script script h) in omega (arith, low, same)

-- what is there after a change of the station at a place
stands : (script : ScriptOf) (h g : List Event) (t : ℕ) (x : StationOf) (w : WiresOf) → t < places script → HandOf script g t x w → HandOf script g t (slice_index_or (slice_set (world_after script h).fabric.stations t x) t vacant) w
stands script h g t x w low is = subst (λ (y : StationOf). HandOf script g t y w) (sym (get_or-set_same (world_after script h).fabric.stations t x vacant (below_station script h t low))) is

take_hand : (script : ScriptOf) → IsScript script → (h : List Event) (t p : ℕ) → t < places script → is_lawful (world_after script h).fabric (Take t p) ≡ true → AreMet script h (world_after script h)
    → IsInHand script (h ++ Take t p ∷ []) t p (hand_of (take_from (place t p) (place t 0) (world_after script h).fabric.wires) t)
take_hand script kept h t p low lawful old = by (side_at (world_after script h).fabric.wires (place t p)).far refl
  where
    g : List Event
    g = h ++ Take t p ∷ []

    by : (o : Option Far) → (side_at (world_after script h).fabric.wires (place t p)).far ≡ o → IsInHand script g t p (hand_of (take_from (place t p) (place t 0) (world_after script h).fabric.wires) t)
    by (Some (Switch a b)) is =
        let f = (world_after script h).fabric in
        let r = take_ready f t p (lawful_is f (Take t p) lawful).ready in
        let most = r.most in
        record {
          other = a;
          port = b;
          wired = sym (far_is script kept h t p low (omega (arith, most))) ∙ is;
          each = taken_hand script g t p f.wires (empty_hand (station f t).hand (hand_of f.wires t) (empty_at f t r.empty) ((world_fits script kept h).hands t (fabric_low script h t low)).holds)
              (each_map (IsFrom script h (place t p)) (IsFrom script g (place t p)) (wire_at f.wires (place t p)) (from_more script h (Take t p) (place t p)) (old.wires (place t p)));
        }
    by None is =
        let f = (world_after script h).fabric in
        let r = take_ready f t p (lawful_is f (Take t p) lawful).ready in
        absurd (true≢false (sym (frame_here f t p r.frame).0 ∙ ap is_link is))
    by (Some (HostAt n)) is =
        let f = (world_after script h).fabric in
        let r = take_ready f t p (lawful_is f (Take t p) lawful).ready in
        absurd (true≢false (sym (frame_here f t p r.frame).0 ∙ ap is_link is))

load_hand : (script : ScriptOf) (h : List Event) (t : ℕ) (topo : Option TopoOf) → t < places script → HandOf script (h ++ Load t ∷ []) t (station (world_after script h).fabric t) (world_after script h).fabric.wires
    → HandOf script (h ++ Load t ∷ []) t (station (loads_with topo t (world_after script h)).fabric t) (loads_with topo t (world_after script h)).fabric.wires
load_hand script h t None low now = now
load_hand script h t (Some topo) low now = let w = world_after script h in stands script h (h ++ Load t ∷ []) t _ w.fabric.wires low now

own_hand : (script : ScriptOf) → IsScript script → (h : List Event) (e : Event) (t : ℕ) → t < places script → owner_of e ≡ t + 1 → is_lawful (world_after script h).fabric e ≡ true → AreMet script h (world_after script h)
    → HandOf script (h ++ e ∷ []) t (station (world_after script h).fabric t) (world_after script h).fabric.wires → HandOf script (h ++ e ∷ []) t (station (effect e (world_after script h)).fabric t) (effect e (world_after script h)).fabric.wires
unfolding effect
own_hand script kept h (Clock s) t low own lawful old now =
    let w = world_after script h in
    let same : t ≡ s = omega (arith, own) in
    subst (λ (n : ℕ). HandOf script (h ++ Clock s ∷ []) t (slice_index_or (slice_set w.fabric.stations n (record (station w.fabric n) { hand = hand.Clock w.fabric.tick (samples_of w.fabric n); clock = w.fabric.tick + 1 })) t vacant) w.fabric.wires) same
    (stands script h (h ++ Clock s ∷ []) t _ w.fabric.wires low (λ p is. absurd (none_some (ap port_in is))))
own_hand script kept h (Take s q) t low own lawful old now =
    let w = world_after script h in
    let same : t ≡ s = omega (arith, own) in
    let here : IsInHand script (h ++ Take s q ∷ []) s q (hand_of (take_from (place s q) (place s 0) w.fabric.wires) s) = take_hand script kept h s q (subst (λ (n : ℕ). n < places script) same low) lawful old in
    subst (λ (n : ℕ). HandOf script (h ++ Take s q ∷ []) n (slice_index_or (slice_set w.fabric.stations s (record (station w.fabric s) { hand = hand.Frame q })) n vacant) (take_from (place s q) (place s 0) w.fabric.wires)) (sym same)
    (stands script h (h ++ Take s q ∷ []) s _ (take_from (place s q) (place s 0) w.fabric.wires) (subst (λ (n : ℕ). n < places script) same low)
    (λ p is. subst (λ (n : ℕ). IsInHand script (h ++ Take s q ∷ []) s n (hand_of (take_from (place s q) (place s 0) w.fabric.wires) s)) (some_same q p (ap port_in is)) here))
own_hand script kept h (Handle s) t low own lawful old now =
    let w = world_after script h in
    let same : t ≡ s = omega (arith, own) in
    let P : ℕ → Type 0 = λ n. HandOf script (h ++ Handle s ∷ []) n (station (effect (Handle s) w).fabric n) (effect (Handle s) w).fabric.wires in
    subst P (sym same) (stands script h (h ++ Handle s ∷ []) s _ (effect (Handle s) w).fabric.wires (subst (λ (n : ℕ). n < places script) same low) (λ p is. absurd (none_some (ap port_in is))))
own_hand script kept h (Load s) t low own lawful old now =
    let w = world_after script h in
    let same : t ≡ s = omega (arith, own) in
    let P : ℕ → Type 0 = λ n. HandOf script (h ++ Load s ∷ []) n (station (loads_with (finish_of (w.switches s)) s w).fabric n) (loads_with (finish_of (w.switches s)) s w).fabric.wires in
    subst P (sym same) (load_hand script h s (finish_of (w.switches s)) (subst (λ (n : ℕ). n < places script) same low) (subst (λ (n : ℕ). HandOf script (h ++ Load s ∷ []) n (station w.fabric n) w.fabric.wires) same now))
own_hand script kept h (Restart s) t low own lawful old now =
    let w = world_after script h in
    let same : t ≡ s = omega (arith, own) in
    let P : ℕ → Type 0 = λ n. HandOf script (h ++ Restart s ∷ []) n (station (effect (Restart s) w).fabric n) (effect (Restart s) w).fabric.wires in
    subst P (sym same) (stands script h (h ++ Restart s ∷ []) s _ w.fabric.wires (subst (λ (n : ℕ). n < places script) same low) (subst (λ (n : ℕ). HandOf script (h ++ Restart s ∷ []) n (station w.fabric n) w.fabric.wires) same now))
own_hand script kept h e t low own lawful old now = absurd (omega (arith, own))

hands_next : (script : ScriptOf) → IsScript script → (h : List Event) (e : Event) → is_lawful (world_after script h).fabric e ≡ true → AreMet script h (world_after script h) → (s : ℕ) → s < places script
    → HandOf script (h ++ e ∷ []) s (station (effect e (world_after script h)).fabric s) (effect e (world_after script h)).fabric.wires
hands_next script kept h e lawful old s low = by (cases_eq (owner_of e) (s + 1))
  where
    w : WorldOf
    w = world_after script h

    now : HandOf script (h ++ e ∷ []) s (station w.fabric s) w.fabric.wires
    now p is = (all_more script h e w old).hands s p low is

    by : (owner_of e ≡ s + 1) ⊎ (owner_of e ≡ s + 1 → ⊥) → HandOf script (h ++ e ∷ []) s (station (effect e w).fabric s) (effect e w).fabric.wires
    by (inl own) = own_hand script kept h e s low own lawful old now
    by (inr other) =
        let place_is : station (effect e w).fabric s ≡ station w.fabric s = ap (λ (v : WorldOf). station v.fabric s) (sym (step-lawful w e lawful)) ∙ (step_elsewhere e s w other).place in
        let hand_is : hand_of (effect e w).fabric.wires s ≡ hand_of w.fabric.wires s = hand_elsewhere e s w (world_ports script kept h) (lawful_port script kept h e lawful) other in
        subst (λ (x : StationOf). HandOf script (h ++ e ∷ []) s x (effect e w).fabric.wires) (sym place_is)
        (λ p is. subst (IsInHand script (h ++ e ∷ []) s p) (sym hand_is) (now p is))

-- The switches after an event
loads_met : (script : ScriptOf) (g : List Event) (t s : ℕ) (topo : Option TopoOf) (w : WorldOf) → ((n : ℕ) → n < places script → IsMetAt script g n (w.switches n)) → s < places script → IsMetAt script g s ((loads_with topo t w).switches s)
loads_met script g t s None w now low = now s low
loads_met script g t s (Some topo) w now low =
    let n = number_in topo (w.switches t).life in
    cond_both (s == t) (loaded n (w.switches t)) (w.switches s) (IsMetAt script g s)
    (λ is. let k = now s low in subst (λ (m : ℕ). IsMetAt script g s (loaded n (w.switches m))) (eqb-true s t is) (record { ports = k.ports; card = k.card }))
    (λ _. now s low)

switches_next : (script : ScriptOf) → IsScript script → (h : List Event) (e : Event) → is_lawful (world_after script h).fabric e ≡ true → AreMet script h (world_after script h) → (s : ℕ) → s < places script → IsMetAt script (h ++ e ∷ []) s ((effect e (world_after script h)).switches s)
unfolding effect
switches_next script kept h (Handle t) lawful old s low =
    let w = world_after script h in
    let t_low = switch_below script h t (handle_ready w.fabric t (lawful_is w.fabric (Handle t) lawful).ready).0 in
    cond_both (s == t) (handled t w).switch (w.switches s) (IsMetAt script (h ++ Handle t ∷ []) s)
    (λ is. subst (λ (n : ℕ). IsMetAt script (h ++ Handle t ∷ []) n (handled t w).switch) (sym (eqb-true s t is)) (handled_is script kept h t t_low old).met)
    (λ _. (all_more script h (Handle t) w old).switches s low)
switches_next script kept h (Load t) lawful old s low = let w = world_after script h in loads_met script (h ++ Load t ∷ []) t s (finish_of (w.switches t)) w (all_more script h (Load t) w old).switches low
switches_next script kept h (Restart t) lawful old s low =
    let w = world_after script h in
    cond_both (s == t) (next_life t w) (w.switches s) (IsMetAt script (h ++ Restart t ∷ []) s) (λ _. record { ports = λ p. tt; card = tt }) (λ _. (all_more script h (Restart t) w old).switches s low)
switches_next script kept h Tick lawful old s low = (all_more script h Tick (world_after script h) old).switches s low
switches_next script kept h (Clock t) lawful old s low = (all_more script h (Clock t) (world_after script h) old).switches s low
switches_next script kept h (Take t p) lawful old s low = (all_more script h (Take t p) (world_after script h) old).switches s low
switches_next script kept h (Fail t p) lawful old s low = (all_more script h (Fail t p) (world_after script h) old).switches s low
switches_next script kept h (Repair t p) lawful old s low = (all_more script h (Repair t p) (world_after script h) old).switches s low
switches_next script kept h (Lose t p n) lawful old s low = (all_more script h (Lose t p n) (world_after script h) old).switches s low
switches_next script kept h (Again t p n) lawful old s low = (all_more script h (Again t p n) (world_after script h) old).switches s low
switches_next script kept h (Swap t p n) lawful old s low = (all_more script h (Swap t p n) (world_after script h) old).switches s low
switches_next script kept h (Noise t p n) lawful old s low = (all_more script h (Noise t p n) (world_after script h) old).switches s low
switches_next script kept h (Send a b) lawful old s low = (all_more script h (Send a b) (world_after script h) old).switches s low
switches_next script kept h (Move k) lawful old s low = (all_more script h (Move k) (world_after script h) old).switches s low

-- at first
first_met : (script : ScriptOf) → AreMet script [] (world_after script [])
unfolding world_after
first_met script = record {
  wires = λ q. subst (Each (IsFrom script [] q)) (sym (first_empty script q)) tt;
  hands = λ s p low at.
      let first : station (begun script).fabric s ≡ first_station script s = get_or-map-range_with_len (first_station script) 0 (places script) s s vacant low (omega arith) in
      absurd (none_some (ap port_in (sym (ap (λ (x : StationOf). x.hand) first) ∙ at)));
  switches = λ s low. record { ports = λ p. tt; card = tt };
}

-- so it is at each moment
pub all_met : (script : ScriptOf) (lives : List LifeId) → IsScript script → AreFirm script lives → (h : List Event) → AreMet script h (world_after script h)
all_met script lives kept firm = by_events (λ h. AreMet script h (world_after script h)) (first_met script)
    (λ h e old. subst (AreMet script (h ++ e ∷ [])) (sym (world_after-event script h e)) (by h e old (is_lawful (world_after script h).fabric e) refl))
  where
    by : (h : List Event) (e : Event) → AreMet script h (world_after script h) → (b : Bool) → is_lawful (world_after script h).fabric e ≡ b → AreMet script (h ++ e ∷ []) (step (world_after script h) e)
    by h e old true lawful = subst (AreMet script (h ++ e ∷ [])) (sym (step-lawful (world_after script h) e lawful)) (record {
      wires = wires_next script lives kept firm h e lawful old (all_more script h e (world_after script h) old).wires;
      hands = λ s p low is. hands_next script kept h e lawful old s low p is;
      switches = switches_next script kept h e lawful old;
    })
    by h e old false unlawful = subst (AreMet script (h ++ e ∷ [])) (sym (step-unlawful (world_after script h) e unlawful)) (all_more script h e (world_after script h) old)
