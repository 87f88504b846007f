-- A good port has a link of the script; who has not joined has its clock due or in hand.

use Rattle.std.specs.Prelude.{◌≡◌, ◌≢◌, ◌⊎◌, ◌<◌, ◌≤◌, ◌==◌, not, nat_lt, ℕ, length, map, filter, List, [], ◌∷◌, Option, Some, None, slice_index_or, Bool, true, false, cond, refl}
use Rattle.std.specs.List.{range_with_len}
use Rattle.std.proofs.Common.{true≢false, sym, ◌∙◌, ap, subst, inl, inr, arith}
use Rattle.std.proofs.lemmas.Bool.{false≢true, cond_both, and_parts, le-leb, lt-leb, ne_eqb, cases_eq}
use Rattle.std.proofs.lemmas.List.{length-set}
use Rattle.std.proofs.lemmas.List.Sums.{length-filter}
use Rattle.std.proofs.lemmas.List.FromFn.{length-map-range_with_len}
use Rattle.std.proofs.lemmas.List.Folds.{list_any_at}
use Rattle.an_base.specs.Values.{EndId, TopoOf}
use Rattle.an_base.specs.Frames.{CarryOf}
use Rattle.an_base.specs.declared.event.Event.{Event}
use Rattle.an_base.specs.declared.event.Event.TheVariants.{Tick, Clock, Take, Handle, Load, Restart}
use Rattle.an_base.specs.declared.frame.Frame.{Frame}
use Rattle.an_base.specs.declared.frame.Frame.TheVariants.{Carry, Ack, Probe, Reply}
use Rattle.an_base.specs.declared.port.Sample.{Sample}
use Rattle.an_base.specs.declared.port.Sample.TheVariants as sample
use Rattle.net_graph.specs.declared.wiring.LinkAt.{LinkAt}
use Rattle.net_graph.specs.declared.wiring.Far.{Far}
use Rattle.net_graph.specs.declared.wiring.Far.TheVariants as far
use Rattle.net_graph.specs.Wires.{Joins, a_end, b_end, far_at, far_of, host_of}
use Rattle.net_graph.proofs.FarLemmas.{joined, to_switch}
use Rattle.net_script.specs.Scripts.{ScriptOf, IsScript}
use Rattle.frame_codec.specs.Reading.{frame_of}
use Rattle.wire_set.specs.WireState.{place, side_at, is_link}
use Rattle.wire_set.proofs.WireLemmas.{port_is}
use Rattle.connectivity.specs.declared.conn.Conn.{Conn}
use Rattle.connectivity.specs.declared.conn.Conn.TheVariants.{Who}
use Rattle.connectivity.specs.Connections.{ConnectivityOf, is_same_end, asked, judged_as}
use Rattle.port_monitor.specs.declared.port.Phase.{Phase}
use Rattle.port_monitor.specs.declared.port.Phase.TheVariants.{Dead, Checking, Host, Switch}
use Rattle.port_monitor.specs.declared.port.Port.{Port}
use Rattle.port_monitor.specs.Ports.{kept_up, sampled, good_peer_by}
use Rattle.port_monitor.specs.Histories.{Happening, History, Sampled, Replied, port_after, with_happening}
use Rattle.epoch_core.specs.Epoch.{adds}
use Rattle.epoch_game.proofs.Basics.{some_same, none_some}
use Rattle.switch_core.specs.Switch.{SwitchOf, end_at, counts, good_peer, port_of, finish_of}
use Rattle.switch_core.specs.Steps.{Step, after, all_added, all_resent, answers_body, begun, clocked, framed, goes_on, is_change_due, is_spent_by, joins, on_ack, on_carry, receives, sample_at, sampled_by, still, probes}
use Rattle.switch_core.proofs.WindowLemmas.{all_pushed_few, all_resent_few, on_ack_few}
use Rattle.switch_core.proofs.SoundLemmas.{unchanged_joined}
use Rattle.net_state.specs.declared.hand.Hand.{Hand}
use Rattle.net_state.specs.declared.hand.Hand.TheVariants as hand
use Rattle.net_state.specs.Fabric.{FabricOf, StationOf, station, vacant, is_empty, is_full_at, is_clock_due, is_some_clock_due, clock_due_at, held_bytes, full_hands}
use Rattle.net_state.specs.Lawful.{is_lawful}
use Rattle.net_world.specs.World.{WorldOf, effect, handled, handles, handles_bytes, loads_with, world_after}
use Rattle.net_world.specs.World as world
use Rattle.net_world.proofs.FabricLemmas.{world_fars}
use Rattle.net_game.proofs.Firm.{places}
use Rattle.net_game.proofs.PortClaims.{HasLinkAt, HasPorts}
use Rattle.net_state.proofs.LawfulLemmas.{lawful_is}
use Rattle.ordered_link.specs.Receiving.{accepted_by}
use Rattle.net_world.proofs.InductionLemmas.{always}
use Rattle.net_state.proofs.ReadyLemmas.{handle_ready, set_one, take_ready}
use Rattle.net_world.proofs.PlaceLemmas.{set_both, switch_below, world_size}
use Rattle.net_world.proofs.LawLemmas.{world_is_sound}
use Rattle.net_world.specs.Sound.{HandFits}
use Rattle.net_game.proofs.EachLemmas.{Each}

-- a port at which a frame comes in has a link of the script
link_by : (script : ScriptOf) (s p : ℕ) (o : Option Far) → far_at script.wires s p ≡ o → is_link o ≡ true → HasLinkAt script s p
link_by script s p None is link = absurd (false≢true link)
link_by script s p (Some (far.HostAt h)) is link = absurd (false≢true link)
link_by script s p (Some (far.Switch t q)) is link =
    let found = joined script.wires.links s p t q (to_switch (far_of script.wires.links s p) (host_of script.wires.hosts s p) t q is) in
    record { link = found.1; within = (found.0, found.2, found.3); at = by found.1 found.4 }
  where
    by : (l : LinkAt) → Joins l s p t q → (a_end l ≡ (s, p)) ⊎ (b_end l ≡ (s, p))
    by l (inl e) = inl (ap (λ xs. slice_index_or xs 0 (s, p)) e)
    by l (inr e) = inr (ap (λ xs. slice_index_or xs 1 (s, p)) e)

has_link : (script : ScriptOf) → IsScript script → (h : List Event) (s p : ℕ) → s < places script → p < 13 → is_link (side_at (world_after script h).fabric.wires (place s p)).far ≡ true → HasLinkAt script s p
has_link script kept h s p low below link =
    let same = world_fars script kept h (place s p) ∙ ap (λ x. x.far) (port_is script.wires script.limits.blocks s p low below) in
    link_by script s p (far_at script.wires s p) refl (ap is_link (sym same) ∙ link)

-- where nobody answered, a port is not good
abbrev IsSampled : Happening → Type 0
IsSampled (Sampled s) = Unit {0}
IsSampled (Replied from nonce) = ⊥

record IsUnknown (c : ConnectivityOf) : Type 0 where
  conn_is : c.conn ≡ Who
  answer_is : c.answer ≡ None

judged_unknown : (c : ConnectivityOf) → IsUnknown c → (judged_as c.conn c).conn ≡ Who
judged_unknown c u = ap (λ (k : Conn). (judged_as k c).conn) u.conn_is ∙ ap (λ (o : Option EndId). (asked o c).conn) u.answer_is ∙ u.conn_is

up_unknown : (phase : Phase) (is_host : Bool) (p : Port) → IsUnknown p.far → IsUnknown (kept_up phase is_host p).far
up_unknown Dead is_host p u = u
up_unknown Checking true p u = record { conn_is = refl; answer_is = refl }
up_unknown Checking false p u = record { conn_is = refl; answer_is = refl }
up_unknown Host is_host p u = u
up_unknown Switch is_host p u = record { conn_is = judged_unknown p.far u; answer_is = refl }

sampled_unknown : (s : Sample) (p : Port) → IsUnknown p.far → IsUnknown (sampled s p).far
sampled_unknown sample.Down p u = record { conn_is = refl; answer_is = refl }
sampled_unknown sample.Host p u = up_unknown p.phase true p u
sampled_unknown sample.Switch p u = up_unknown p.phase false p u

unknown_after : (me : EndId) (h : History) → Each IsSampled h → IsUnknown (port_after me h).far
unknown_after me [] all = record { conn_is = refl; answer_is = refl }
unknown_after me (Sampled s ∷ h) all = sampled_unknown s (port_after me h) (unknown_after me h all.1)
unknown_after me (Replied from nonce ∷ h) all = absurd all.0

none_good : (phase : Phase) → good_peer_by phase Who ≡ None
none_good Dead = refl
none_good Checking = refl
none_good Host = refl
none_good Switch = refl

not_good : (u : SwitchOf) (p : ℕ) → Each IsSampled (u.ports p) → good_peer u p ≡ None
not_good u p all = ap (good_peer_by (port_of u p).phase) (unknown_after (end_at u p) (u.ports p) all).conn_is ∙ none_good (port_of u p).phase

-- What a frame leaves as it was
record IsLike (port : ℕ) (u v : SwitchOf) : Type 0 where
  ports : (q : ℕ) → q ≢ port → v.ports q ≡ u.ports q
  joined_was : v.joined ≡ false → u.joined ≡ false
  spent_is : v.spent ≡ u.spent

like_sends : (port : ℕ) (u v w : SwitchOf) → w ≡ record v { sendings = w.sendings } → IsLike port u v → IsLike port u w
like_sends port u v w only k = subst (IsLike port u) (sym only) (record { ports = k.ports; joined_was = k.joined_was; spent_is = k.spent_is })

like_itself : (port : ℕ) (u : SwitchOf) → IsLike port u u
like_itself port u = record { ports = λ q other. refl; joined_was = λ e. e; spent_is = refl }

like_joins : (port epoch : ℕ) (u : SwitchOf) → IsLike port u (joins epoch u).switch
like_joins port epoch u =
    like_sends port u (begun epoch u) (joins epoch u).switch (all_pushed_few (adds (begun epoch u).card []) (begun epoch u)).only
    (record { ports = λ q other. refl; joined_was = λ e. absurd (true≢false e); spent_is = refl })

like_body : (port k : ℕ) (peer : EndId) (body : _) (u v : SwitchOf) → IsLike port u v → IsLike port u (answers_body port peer k body v).switch
like_body port k peer body u v like =
    let x = receives port k body v in
    like_sends port u x (answers_body port peer k body v).switch (all_pushed_few (all_added v.card port (accepted_by k body (v.receivings port)) v.log) x).only
    (record { ports = like.ports; joined_was = like.joined_was; spent_is = like.spent_is })

like_carry : (port : ℕ) (f : CarryOf) (u : SwitchOf) → IsLike port u (on_carry port f u).switch
like_carry port f u =
    cond_both (nat_lt u.epoch f.epoch) (after (joins f.epoch u) (answers_body port f.from f.number f.body (joins f.epoch u).switch)) (cond (f.epoch == u.epoch) (answers_body port f.from f.number f.body u) (still u)) (λ (st : Step). IsLike port u st.switch)
    (λ _. like_body port f.number f.from f.body u (joins f.epoch u).switch (like_joins port f.epoch u))
    (λ _. cond_both (f.epoch == u.epoch) (answers_body port f.from f.number f.body u) (still u) (λ (st : Step). IsLike port u st.switch) (λ _. like_body port f.number f.from f.body u u (like_itself port u)) (λ _. like_itself port u))

like_framed : (port : ℕ) (f : Frame) (u : SwitchOf) → IsLike port u (framed port f u).switch
like_framed port (Carry f) u = cond_both (counts u port f.from f.to) (on_carry port f u) (still u) (λ (st : Step). IsLike port u st.switch) (λ _. like_carry port f u) (λ _. like_itself port u)
like_framed port (Ack epoch from to n) u = cond_both (counts u port from to) (on_ack port from epoch n u) (still u) (λ (st : Step). IsLike port u st.switch) (λ _. like_sends port u u (on_ack port from epoch n u).switch (on_ack_few port epoch n from u).only (like_itself port u)) (λ _. like_itself port u)
like_framed port (Probe from nonce) u = like_itself port u
like_framed port (Reply from to nonce) u =
    cond_both (is_same_end to (end_at u port)) (still (record u { ports = with_happening port (Replied from nonce) u.ports })) (still u) (λ (st : Step). IsLike port u st.switch)
    (λ _. record { ports = λ q other. ap (λ (b : Bool). cond b (Replied from nonce ∷ u.ports q) (u.ports q)) (ne_eqb q port other); joined_was = λ e. e; spent_is = refl }) (λ _. like_itself port u)

-- and what a clock does
record IsClocked (now : ℕ) (samples : List Sample) (u v : SwitchOf) : Type 0 where
  ports : (q : ℕ) → v.ports q ≡ Sampled (sample_at samples q) ∷ u.ports q
  joined_or : v.joined ≡ false → v.spent ≡ true

clocked_sends : (now : ℕ) (samples : List Sample) (u v w : SwitchOf) → w ≡ record v { sendings = w.sendings } → IsClocked now samples u v → IsClocked now samples u w
clocked_sends now samples u v w only k = subst (IsClocked now samples u) (sym only) (record { ports = k.ports; joined_or = k.joined_or })

clocked_is : (now : ℕ) (samples : List Sample) (u : SwitchOf) → IsClocked now samples u (clocked now samples u).switch
clocked_is now samples u =
    let t = sampled_by now samples u in
    cond_both (is_spent_by u t) (still (record t { spent = true })) (after (record { switch = t; frames = probes t }) (goes_on u t)) (λ (st : Step). IsClocked now samples u st.switch)
    (λ _. record { ports = λ q. refl; joined_or = λ _. refl })
    (λ _. cond_both (is_change_due u t) (joins (Rattle.std.specs.Prelude.suc t.epoch) t) (all_resent t.card.links t) (λ (st : Step). IsClocked now samples u st.switch)
    (λ _. clocked_sends now samples u (begun (Rattle.std.specs.Prelude.suc t.epoch) t) (joins (Rattle.std.specs.Prelude.suc t.epoch) t).switch (all_pushed_few (adds (begun (Rattle.std.specs.Prelude.suc t.epoch) t).card []) (begun (Rattle.std.specs.Prelude.suc t.epoch) t)).only
    (record { ports = λ q. refl; joined_or = λ e. absurd (true≢false e) }))
    (λ same. clocked_sends now samples u t (all_resent t.card.links t).switch (all_resent_few t.card.links t).only
    (record { ports = λ q. refl; joined_or = λ e. absurd (true≢false (sym (unchanged_joined u t same) ∙ e)) })))

-- What is so at a place: a frame in hand came by a link; whoever answered at a port came by a link; and a switch that works and has not joined has its clock due, or in hand
hand_port : Hand → Option ℕ
hand_port hand.Empty = None
hand_port (hand.Clock now samples) = None
hand_port (hand.Frame p) = Some p

is_clock : Hand → Bool
is_clock hand.Empty = false
is_clock (hand.Clock now samples) = true
is_clock (hand.Frame p) = false

record TellsAt (script : ScriptOf) (tick s : ℕ) (x : StationOf) (u : SwitchOf) : Type 0 where
  hands : (p : ℕ) → hand_port x.hand ≡ Some p → HasLinkAt script s p
  heard : (p : ℕ) → HasLinkAt script s p ⊎ Each IsSampled (u.ports p)
  timed : u.joined ≡ false → u.spent ≡ false → (x.clock ≤ tick) ⊎ (is_clock x.hand ≡ true)

record IsTold (script : ScriptOf) (w : WorldOf) : Type 0 where
  size : length w.fabric.stations ≡ places script
  tells : (s : ℕ) → s < places script → TellsAt script w.fabric.tick s (station w.fabric s) (w.switches s)

-- what was in hand is handled
handle_tells : (script : ScriptOf) (w : WorldOf) (t : ℕ) (table : _) (note : _) (spent : Bool) → is_full_at w.fabric t ≡ true → TellsAt script w.fabric.tick t (station w.fabric t) (w.switches t)
    → TellsAt script w.fabric.tick t (record (station w.fabric t) { hand = hand.Empty; table = table; note = note; spent = spent }) (handled t w).switch
unfolding handles hand_port is_clock
handle_tells script w t table note spent full old = by_hand (station w.fabric t).hand refl
  where
    u : SwitchOf
    u = w.switches t

    bytes : List ℕ
    bytes = held_bytes w.fabric t

    new : SwitchOf → Type 0
    new v = TellsAt script w.fabric.tick t (record (station w.fabric t) { hand = hand.Empty; table = table; note = note; spent = spent }) v

    due : hand_port (station w.fabric t).hand ≡ hand_port (station w.fabric t).hand → is_clock (station w.fabric t).hand ≡ false → u.joined ≡ false → u.spent ≡ false → ((station w.fabric t).clock ≤ w.fabric.tick) ⊎ (false ≡ true)
    due _ none j working = elim (old.timed j working) [ inl low ↦ inl low | inr clock ↦ absurd (true≢false (sym clock ∙ none)) ]

    by_frame : (port : ℕ) (o : Option Frame) → (station w.fabric t).hand ≡ hand.Frame port → new (handles_bytes port o u).switch
    by_frame port None is = record { hands = λ p e. absurd (none_some e); heard = old.heard; timed = λ j working. due refl (ap is_clock is) j working }
    by_frame port (Some f) is =
        let like = like_framed port f u in
        record {
          hands = λ p e. absurd (none_some e);
          heard = λ p. elim (cases_eq p port) [
            | inl same ↦ inl (subst (HasLinkAt script t) (sym same) (old.hands port (ap hand_port is)))
            | inr other ↦ elim (old.heard p) [ inl link ↦ inl link | inr all ↦ inr (subst (Each IsSampled) (sym (like.ports p other)) all) ]
          ];
          timed = λ j working. due refl (ap is_clock is) (like.joined_was j) (sym like.spent_is ∙ working);
        }

    by_hand : (h : Hand) → (station w.fabric t).hand ≡ h → new (handled t w).switch
    by_hand hand.Empty is = absurd (true≢false (sym full ∙ ap (λ (h : Hand). not (is_empty h)) is))
    by_hand (hand.Clock now samples) is =
        let k = clocked_is now samples u in
        subst (λ (h : Hand). new (handles h bytes u).switch) (sym is) (record {
          hands = λ p e. absurd (none_some e);
          heard = λ p. elim (old.heard p) [ inl link ↦ inl link | inr all ↦ inr (subst (Each IsSampled) (sym (k.ports p)) (tt, all)) ];
          timed = λ j working. absurd (true≢false (sym (k.joined_or j) ∙ working));
        })
    by_hand (hand.Frame port) is = subst (λ (h : Hand). new (handles h bytes u).switch) (sym is) (by_frame port (frame_of bytes) is)

tells_move : (script : ScriptOf) (tick s t : ℕ) (x : StationOf) (u : SwitchOf) → s ≡ t → TellsAt script tick t x u → TellsAt script tick s x u
tells_move script tick s t x u is k = subst (λ n. TellsAt script tick n x u) (sym is) k

-- after each event
loads_told : (script : ScriptOf) (topo : Option TopoOf) (t : ℕ) (w : WorldOf) → IsTold script w → IsTold script (loads_with topo t w)
loads_told script None t w old = old
loads_told script (Some topo) t w old = record {
  size = length-set w.fabric.stations t _ ∙ old.size;
  tells = λ s low. set_both (TellsAt script w.fabric.tick s) w.fabric.stations w.switches t s _ _ (let e = old.size in omega (arith, e, low))
      (λ is. tells_move script w.fabric.tick s t _ _ is (let k = old.tells t (omega (arith, is, low)) in record { hands = k.hands; heard = k.heard; timed = k.timed })) (old.tells s low);
}

same_told : (script : ScriptOf) (w v : WorldOf) → v.fabric.stations ≡ w.fabric.stations → v.fabric.tick ≡ w.fabric.tick → v.switches ≡ w.switches → IsTold script w → IsTold script v
same_told script w v stations tick switches old = record {
  size = ap length stations ∙ old.size;
  tells = λ s low. subst (λ (z : List StationOf × ℕ × (ℕ → SwitchOf)). TellsAt script z.1 s (slice_index_or z.0 s vacant) (z.2 s)) (λ i. (sym stations i, sym tick i, sym switches i)) (old.tells s low);
}

take_parts : (script : ScriptOf) → IsScript script → (h : List Event) (t p : ℕ) → is_lawful (world_after script h).fabric (Take t p) ≡ true
    → (t < places script) × HasLinkAt script t p × (is_full_at (world_after script h).fabric t ≡ false) × (clock_due_at (world_after script h).fabric t ≡ false)
take_parts script kept h t p lawful =
    let f = (world_after script h).fabric in
    let ready = take_ready f t p (lawful_is f (Take t p) lawful).ready in
    let low = switch_below script h t ready.switch in
    let most = ready.most in
    (low, has_link script kept h t p low (omega (arith, most)) (and_parts (is_link (side_at f.wires (place t p)).far) _ ready.frame).0, ready.empty, lt-leb (station f t).clock f.tick ready.later)

no_clock : (x : Hand) → not (is_empty x) ≡ false → is_clock x ≡ false
unfolding is_clock
no_clock hand.Empty e = refl
no_clock (hand.Clock now samples) e = absurd (true≢false e)
no_clock (hand.Frame p) e = refl

effect_told : (script : ScriptOf) → IsScript script → (h : List Event) (e : Event) → is_lawful (world_after script h).fabric e ≡ true → IsTold script (world_after script h) → IsTold script (effect e (world_after script h))
unfolding effect hand_port is_clock
effect_told script kept h Tick lawful old = record {
  size = old.size;
  tells = λ s low. let k = old.tells s low in record { hands = k.hands; heard = k.heard; timed = λ j wk. elim (k.timed j wk) [ inl due ↦ inl (omega (arith, due)) | inr clock ↦ inr clock ] };
}
effect_told script kept h (Clock t) lawful old =
    let w = world_after script h in
    record {
      size = length-set w.fabric.stations t _ ∙ old.size;
      tells = λ s low. set_one (λ x. TellsAt script w.fabric.tick s x (w.switches s)) w.fabric.stations t s _ (let e = old.size in omega (arith, e, low))
          (λ is. record { hands = λ p e. absurd (none_some e); heard = (old.tells s low).heard; timed = λ j wk. inr refl }) (old.tells s low);
    }
effect_told script kept h (Take t p) lawful old =
    let w = world_after script h in
    let parts = take_parts script kept h t p lawful in
    record {
      size = length-set w.fabric.stations t _ ∙ old.size;
      tells = λ s low. set_one (λ x. TellsAt script w.fabric.tick s x (w.switches s)) w.fabric.stations t s _ (let e = old.size in omega (arith, e, low))
          (λ is. record {
            hands = λ q e. subst (λ (n : ℕ). HasLinkAt script n q) (sym is) (subst (HasLinkAt script t) (some_same p q e) parts.1);
            heard = (old.tells s low).heard;
            timed = λ j wk. elim ((old.tells s low).timed j wk) [
              | inl due ↦ absurd (true≢false (sym (le-leb _ _ due) ∙ subst (λ (n : ℕ). clock_due_at w.fabric n ≡ false) (sym is) parts.3))
              | inr clock ↦ absurd (true≢false (sym clock ∙ no_clock _ (subst (λ (n : ℕ). is_full_at w.fabric n ≡ false) (sym is) parts.2)))
            ];
          }) (old.tells s low);
    }
effect_told script kept h (Handle t) lawful old =
    let w = world_after script h in
    let full = (handle_ready w.fabric t (lawful_is w.fabric (Handle t) lawful).ready).1 in
    record {
      size = length-set w.fabric.stations t _ ∙ old.size;
      tells = λ s low. set_both (TellsAt script w.fabric.tick s) w.fabric.stations w.switches t s _ _ (let e = old.size in omega (arith, e, low))
          (λ is. tells_move script w.fabric.tick s t _ _ is (handle_tells script w t _ _ _ full (old.tells t (omega (arith, is, low))))) (old.tells s low);
    }
effect_told script kept h (Load t) lawful old = let w = world_after script h in loads_told script (finish_of (w.switches t)) t w old
effect_told script kept h (Restart t) lawful old =
    let w = world_after script h in
    record {
      size = length-set w.fabric.stations t _ ∙ old.size;
      tells = λ s low. set_both (TellsAt script w.fabric.tick s) w.fabric.stations w.switches t s _ _ (let e = old.size in omega (arith, e, low))
          (λ is. tells_move script w.fabric.tick s t _ _ is (record { hands = (old.tells t (omega (arith, is, low))).hands; heard = λ p. inr tt; timed = λ j wk. inl (omega arith) })) (old.tells s low);
    }
effect_told script kept h e lawful old = record { size = old.size; tells = old.tells }

pub index_of : (P : StationOf → Type 0) (f : ℕ → StationOf) (xs : List ℕ) (s : ℕ) → ((n : ℕ) → P (f n)) → P vacant → P (slice_index_or (map f xs) s vacant)
index_of P f [] s each none = none
index_of P f (x ∷ xs) Rattle.std.specs.Prelude.zero each none = each x
index_of P f (x ∷ xs) (Rattle.std.specs.Prelude.suc s) each none = index_of P f xs s each none

first_told : (script : ScriptOf) → IsTold script (world.begun script)
unfolding hand_port is_clock
first_told script = record {
  size = length-map-range_with_len (world.first_station script) 0 (places script);
  tells = λ s low. index_of (λ x. TellsAt script 0 s x (world.started_at script s 1)) (world.first_station script) (range_with_len 0 (places script)) s
      (λ n. record { hands = λ p e. absurd (none_some e); heard = λ p. inr tt; timed = λ j wk. inl (omega arith) })
      (record { hands = λ p e. absurd (none_some e); heard = λ p. inr tt; timed = λ j wk. inl (omega arith) });
}

told : (script : ScriptOf) → IsScript script → (h : List Event) → IsTold script (world_after script h)
told script kept h = always script (IsTold script) (first_told script) (effect_told script kept) h

-- where no hand is full
none_kept : (q : StationOf → Bool) (xs : List StationOf) (s : ℕ) → length (filter q xs) ≡ 0 → q vacant ≡ false → q (slice_index_or xs s vacant) ≡ false
none_kept q [] s none out = out
none_kept q (x ∷ xs) s none out = by (q x) refl none s (λ n e. none_kept q xs n e out)
  where
    by : (b : Bool) → q x ≡ b → length (cond b (x ∷ filter q xs) (filter q xs)) ≡ 0 → (n : ℕ) → ((n : ℕ) → length (filter q xs) ≡ 0 → q (slice_index_or xs n vacant) ≡ false) → q (slice_index_or (x ∷ xs) n vacant) ≡ false
    by true is e n rest = absurd (omega (arith, e))
    by false is e Rattle.std.specs.Prelude.zero rest = is
    by false is e (Rattle.std.specs.Prelude.suc n) rest = rest n e

clock_full : (x : Hand) → is_clock x ≡ true → not (is_empty x) ≡ true
unfolding is_clock
clock_full hand.Empty e = absurd (false≢true e)
clock_full (hand.Clock now samples) e = refl
clock_full (hand.Frame p) e = refl

-- so of each history
pub has_ports : (script : ScriptOf) → IsScript script → (h : List Event) → HasPorts script (world_after script h)
has_ports script kept h = record { link = links; clock = clocks }
  where
    f : FabricOf
    f = (world_after script h).fabric

    links : (s p : ℕ) (e : EndId) → s < places script → good_peer ((world_after script h).switches s) p ≡ Some e → HasLinkAt script s p
    links s p e low good = elim (((told script kept h).tells s low).heard p) [ inl link ↦ link | inr all ↦ absurd (none_some (sym (not_good ((world_after script h).switches s) p all) ∙ good)) ]

    clocks : (s : ℕ) → s < places script → ((world_after script h).switches s).joined ≡ false → ((world_after script h).switches s).spent ≡ false → full_hands f ≡ 0 → is_some_clock_due f ≡ true
    clocks s low j wk none =
        elim (((told script kept h).tells s low).timed j wk) [
          | inl due ↦ list_any_at (is_clock_due f) f.stations s vacant (let e = (told script kept h).size in omega (arith, e, low)) (le-leb _ _ due)
          | inr clock ↦ absurd (true≢false (sym (clock_full (station f s).hand clock) ∙ none_kept (λ x. not (is_empty x.hand)) f.stations s (length-filter (λ x. not (is_empty x.hand)) f.stations ∙ none) refl))
        ]

pub has_size : (script : ScriptOf) (h : List Event) → length (world_after script h).fabric.stations ≡ places script
has_size script h = world_size script h

-- the port of a frame in hand is external
pub external : (script : ScriptOf) → IsScript script → (h : List Event) (s p : ℕ) → s < places script → (station (world_after script h).fabric s).hand ≡ hand.Frame p → (1 ≤ p) × (p ≤ 12)
external script kept h s p low is =
    let w = world_after script h in
    let at = (world_is_sound script kept h).places s low in
    let fits = subst (HandFits w.fabric.tick (station w.fabric s).clock (w.switches s)) is at.fits in
    (fits.0, fits.1)
