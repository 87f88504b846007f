-- What is under way after an event was so before, or went out by it, or is no frame.

use Rattle.std.specs.Prelude.{◌≡◌, ◌⊎◌, ◌+◌, ◌*◌, ◌<◌, ◌≤◌, ℕ, List, [], ◌∷◌, length, slice_index_or, slice_set, Option, Some, None, true, false, refl}
use Rattle.std.proofs.Common.{true≢false, sym, ◌∙◌, ap, subst, inl, inr, arith}
use Rattle.std.proofs.lemmas.Bool.{cases_eq}
use Rattle.std.proofs.lemmas.List.{get_or-set_same}
use Rattle.an_base.specs.Values.{TopoOf}
use Rattle.an_base.specs.declared.event.Event.{Event}
use Rattle.an_base.specs.declared.event.Event.TheVariants.{Tick, Clock, Take, Handle, Load, Fail, Repair, Lose, Again, Swap, Noise, Send, Move, Restart}
use Rattle.net_graph.specs.declared.wiring.Far.{Far}
use Rattle.net_graph.specs.declared.wiring.Far.TheVariants.{Switch, HostAt}
use Rattle.net_graph.specs.Wires.{far_at}
use Rattle.net_script.specs.Scripts.{ScriptOf, IsScript}
use Rattle.frame_codec.specs.Reading.{frame_of}
use Rattle.frame_codec.specs.Spelling.{spelling}
use Rattle.wire_set.specs.WireState.{place, side_at, wire_at, hand_of, is_link, far_place, wire_out, take_from, held_from, taken_frame}
use Rattle.topo_report.proofs.Members.{In}
use Rattle.epoch_game.proofs.Basics.{some_same}
use Rattle.switch_core.specs.Switch.{finish_of}
use Rattle.switch_core.specs.Steps.{Sent}
use Rattle.switch_core.specs.Bytes.{spelled_out, all_spelled}
use Rattle.net_state.specs.declared.hand.Hand.{Hand}
use Rattle.net_state.specs.declared.hand.Hand.TheVariants as hand
use Rattle.net_state.specs.Fabric.{StationOf, station, vacant, switch_behind}
use Rattle.net_state.specs.Lawful.{is_lawful}
use Rattle.net_state.specs.Effects.{noise, released}
use Rattle.net_state.proofs.LawfulLemmas.{lawful_is}
use Rattle.net_state.proofs.ReadyLemmas.{empty_at, handle_ready, take_ready}
use Rattle.net_state.proofs.HoldLemmas.{empty_hand, held_is, released_fars}
use Rattle.net_state.proofs.QueueLemmas.{copied_elsewhere, port_is_no_hand}
use Rattle.net_world.specs.Histories.{owner_of}
use Rattle.net_world.specs.World.{WorldOf, effect, handled, loads_with, world_after}
use Rattle.net_world.proofs.ElsewhereLemmas.{step_elsewhere}
use Rattle.net_world.proofs.FabricLemmas.{world_fits}
use Rattle.net_world.proofs.HandLemmas.{hand_elsewhere, lawful_port, world_ports}
use Rattle.net_world.proofs.InductionLemmas.{world_script}
use Rattle.net_world.proofs.PlaceLemmas.{handled_station}
use Rattle.net_world.proofs.WorldLemmas.{step-lawful}
use Rattle.net_game.proofs.Firm.{places}
use Rattle.net_game.proofs.BytesLemmas.{InQueues, GoesTo, put_queue, take_queue, released_queue, all_out_queue, repair_queue, fail_queue}
use Rattle.net_game.proofs.DeliveredLemmas.{far_is}
use Rattle.net_game.proofs.EachLemmas.{Each, each_in}
use Rattle.net_game.proofs.KnownLemmas.{empty_none, noise_none}
use Rattle.net_game.proofs.RangedFrames.{AreFrames}
use Rattle.net_settling.specs.Views.{LinkOf, came_by, under_way_to}
use Rattle.net_settling.proofs.Flights.{On}
use Rattle.net_settling.proofs.Linked.{IsLinkOf, link_of, same_places}
use Rattle.net_settling.proofs.Passing.{below, clock_station, holds_at, set_hand, within}
use Rattle.net_settling.proofs.Senders.{each_of, taken_is}
use Rattle.net_settling.proofs.Sents.{handled_frames}
use Rattle.net_settling.proofs.Under.{came_port, way_held, way_on, way_parts}

-- it went out by the port of this end
pub record WentOut (w : WorldOf) (e : Event) (l : LinkOf) (b : List ℕ) : Type 0 where
  pub event : e ≡ Handle l.place
  pub sent : Sent
  pub among : In sent (handled l.place w).frames
  pub port : sent.port ≡ l.port
  pub bytes : b ≡ spelling sent.frame

abbrev pub IsNew : WorldOf → Event → LinkOf → List ℕ → Type 0
IsNew w e l b = (frame_of b ≡ None) ⊎ WentOut w e l b

abbrev WasOn : WorldOf → Event → LinkOf → ℕ → List ℕ → Type 0
WasOn w e l queue b = queue ≡ place l.far_place l.far_port → On (place l.far_place l.far_port) b w.fabric.wires ⊎ IsNew w e l b

was_none : (w : WorldOf) (e : Event) (l : LinkOf) (queue : ℕ) (b : List ℕ) → frame_of b ≡ None → WasOn w e l queue b
was_none w e l queue b none at = inr (inl none)

was_all : (w : WorldOf) (e : Event) (l : LinkOf) → InQueues (WasOn w e l) w.fabric.wires
was_all w e l queue = each_of (WasOn w e l queue) (wire_at w.fabric.wires queue) (λ b i at. inl (subst (λ n. In b (wire_at w.fabric.wires n)) at i))

hand_is_no_wire : (script : ScriptOf) (l : LinkOf) (s : ℕ) → IsLinkOf script l → place s 0 ≡ place l.far_place l.far_port → ⊥
hand_is_no_wire script l s is at = port_is_no_hand s l.far_place l.far_port is.there.own_port_least is.there.own_port_most at

-- what a switch sends goes on the wire of its port
goes_out : (script : ScriptOf) → IsScript script → (h : List Event) (s : ℕ) (l : LinkOf) → IsLinkOf script l → (x : Sent) → s < places script → (1 ≤ x.port) × (x.port ≤ 12) → In x (handled s (world_after script h)).frames → GoesTo (WasOn (world_after script h) (Handle s) l) (world_after script h).fabric.wires s (spelled_out x)
goes_out script kept h s l is x low port i = by (side_at w.fabric.wires (place s x.port)).far refl
  where
    w : WorldOf
    w = world_after script h

    most : x.port ≤ 12
    most = port.1

    arrives : (t q : ℕ) → far_at script.wires s x.port ≡ Some (Switch t q) → WasOn w (Handle s) l (place t q) (spelling x.frame)
    arrives t q far at =
        let k = link_of script kept s x.port t q far in
        let same = same_places t q l.far_place l.far_port k.there.own_port_most is.there.own_port_most at in
        let back : ◌≡◌ {A = Option Far} (Some (Switch s x.port)) (Some (Switch l.place l.port)) = sym k.back ∙ (λ j. far_at script.wires (same.0 j) (same.1 j)) ∙ is.back in
        let pair : ◌≡◌ {A = ℕ × ℕ} (s, x.port) (l.place, l.port) = some_same (s, x.port) (l.place, l.port) (ap (λ (o : Option Far). switch_behind o) back) in
        let here : s ≡ l.place = ap (λ (z : ℕ × ℕ). z.0) pair in
        inr (inr (record { event = ap Handle here; sent = x; among = subst (λ n. In x (handled n w).frames) here i; port = ap (λ (z : ℕ × ℕ). z.1) pair; bytes = refl }))

    by : (o : Option Far) → (side_at w.fabric.wires (place s x.port)).far ≡ o → is_link (side_at w.fabric.wires (place s x.port)).far ≡ true → WasOn w (Handle s) l (far_place (side_at w.fabric.wires (place s x.port)).far) (spelling x.frame)
    by None far link = absurd (true≢false (sym link ∙ ap is_link far))
    by (Some (HostAt n)) far link = absurd (true≢false (sym link ∙ ap is_link far))
    by (Some (Switch t q)) far link =
        subst (λ (o : Option Far). WasOn w (Handle s) l (far_place o) (spelling x.frame)) (sym far)
        (arrives t q (sym (far_is script kept h s x.port low (omega (arith, most))) ∙ far))

all_go_out : (script : ScriptOf) → IsScript script → (h : List Event) (s : ℕ) (l : LinkOf) → IsLinkOf script l → s < places script → (xs : List Sent) → AreFrames xs → ((x : Sent) → In x xs → In x (handled s (world_after script h)).frames) → Each (GoesTo (WasOn (world_after script h) (Handle s) l) (world_after script h).fabric.wires s) (all_spelled xs)
all_go_out script kept h s l is low [] out among = tt
all_go_out script kept h s l is low (x ∷ xs) out among = (goes_out script kept h s l is x low (out.0.port_is.0, out.0.port_is.1) (among x (inl refl)), all_go_out script kept h s l is low xs out.1 (λ y i. among y (inr i)))

loads_was : (P : ℕ → List ℕ → Type 0) (o : Option TopoOf) (s : ℕ) (w : WorldOf) → InQueues P w.fabric.wires → InQueues P (loads_with o s w).fabric.wires
loads_was P None s w all = all
loads_was P (Some topo) s w all = all

-- the wires
wires_were : (script : ScriptOf) → IsScript script → (h : List Event) (e : Event) (l : LinkOf) → IsLinkOf script l → is_lawful (world_after script h).fabric e ≡ true → InQueues (WasOn (world_after script h) e l) (effect e (world_after script h)).fabric.wires
unfolding effect
wires_were script kept h Tick l is lawful = was_all (world_after script h) Tick l
wires_were script kept h (Clock s) l is lawful = was_all (world_after script h) (Clock s) l
wires_were script kept h (Take s p) l is lawful =
    let w = world_after script h in
    take_queue (WasOn w (Take s p) l) (place s p) (place s 0) w.fabric.wires (was_none w (Take s p) l (place s p) [] empty_none) (λ b _ at. absurd (hand_is_no_wire script l s is at)) (was_all w (Take s p) l)
wires_were script kept h (Handle s) l is lawful =
    let w = world_after script h in
    let P = WasOn w (Handle s) l in
    let low = below script h s (handle_ready w.fabric s (lawful_is w.fabric (Handle s) lawful).ready).0 in
    let k = (station w.fabric s).hand in
    all_out_queue P w.fabric.wires s (all_spelled (handled s w).frames) (released k s w.fabric.wires) (released_fars k s w.fabric.wires) (released_queue P k s w.fabric.wires (was_all w (Handle s) l))
    (all_go_out script kept h s l is low (handled s w).frames (handled_frames script kept h s low lawful) (λ x i. i))
wires_were script kept h (Load s) l is lawful = let w = world_after script h in loads_was (WasOn w (Load s) l) (finish_of (w.switches s)) s w (was_all w (Load s) l)
wires_were script kept h (Fail s p) l is lawful = let w = world_after script h in fail_queue (WasOn w (Fail s p) l) (place s p) w.fabric.wires (was_all w (Fail s p) l)
wires_were script kept h (Repair s p) l is lawful = let w = world_after script h in repair_queue (WasOn w (Repair s p) l) (place s p) w.fabric.wires (was_all w (Repair s p) l)
wires_were script kept h (Lose s p n) l is lawful = was_all (world_after script h) (Lose s p n) l
wires_were script kept h (Again s p n) l is lawful = was_all (world_after script h) (Again s p n) l
wires_were script kept h (Swap s p n) l is lawful = was_all (world_after script h) (Swap s p n) l
wires_were script kept h (Noise s p n) l is lawful =
    let w = world_after script h in
    put_queue (WasOn w (Noise s p n) l) (place s p) (wire_out w.fabric.wires s p) (noise n) w.fabric.wires (was_all w (Noise s p n) l) (was_none w (Noise s p n) l (wire_out w.fabric.wires s p) (noise n) (noise_none n))
wires_were script kept h (Send a b) l is lawful = was_all (world_after script h) (Send a b) l
wires_were script kept h (Move n) l is lawful = was_all (world_after script h) (Move n) l
wires_were script kept h (Restart s) l is lawful = was_all (world_after script h) (Restart s) l

-- the hands
HandWas : WorldOf → LinkOf → StationOf → List (List ℕ) → Type 0
HandWas w l x bytes = (b : List ℕ) → came_by l.far_port x.hand ≡ true → In b bytes → In b (under_way_to w.fabric l.far_place l.far_port) ⊎ (frame_of b ≡ None)

take_hand_was : (script : ScriptOf) → IsScript script → (h : List Event) (t p : ℕ) (l : LinkOf) → IsLinkOf script l → t ≡ l.far_place → is_lawful (world_after script h).fabric (Take t p) ≡ true → HandWas (world_after script h) l (station (effect (Take t p) (world_after script h)).fabric l.far_place) (hand_of (effect (Take t p) (world_after script h)).fabric.wires l.far_place)
unfolding effect HandWas
take_hand_was script kept h t p l is same lawful b came i =
    let w = world_after script h in
    let ready = take_ready w.fabric t p (lawful_is w.fabric (Take t p) lawful).ready in
    let low = below script h t ready.switch in
    let size : length w.fabric.wires.frames.queues ≡ 13 * places script = (world_fits script kept h).wires_sound.frames.queues ∙ ap (λ z. 13 * places z) (world_script script h) in
    let none = empty_hand (station w.fabric t).hand (hand_of w.fabric.wires t) (empty_at w.fabric t ready.empty) (holds_at script kept h t low) in
    let other = port_is_no_hand t t p ready.least ready.most in
    let now : hand_of (take_from (place t p) (place t 0) w.fabric.wires) t ≡ taken_frame (place t p) w.fabric.wires ∷ [] =
    copied_elsewhere (place t p) (place t 0) (taken_frame (place t p) w.fabric.wires) (held_from (place t p) (place t 0) w.fabric.wires) other ∙ held_is (place t p) (place t 0) w.fabric.wires other (omega (arith, size, low)) none
    in
    let hand_now : (station (effect (Take t p) w).fabric l.far_place).hand ≡ hand.Frame p = ap (λ n. (slice_index_or (slice_set w.fabric.stations t (record (station w.fabric t) { hand = hand.Frame p })) n vacant).hand) (sym same) ∙ ap (λ (x : StationOf). x.hand) (get_or-set_same w.fabric.stations t (record (station w.fabric t) { hand = hand.Frame p }) vacant (within script kept h t low)) in
    let port : p ≡ l.far_port = same_port (sym hand_now ∙ came_port l.far_port (station (effect (Take t p) w).fabric l.far_place).hand came) in
    let taken : b ≡ taken_frame (place t p) w.fabric.wires = only (subst (In b) (ap (λ n. hand_of (take_from (place t p) (place t 0) w.fabric.wires) n) (sym same) ∙ now) i) in
    found (subst (λ c. On (place t p) c w.fabric.wires ⊎ (frame_of c ≡ None)) (sym taken)
    (taken_is (λ c. On (place t p) c w.fabric.wires ⊎ (frame_of c ≡ None)) (place t p) w.fabric.wires (inr empty_none) (each_of (λ c. On (place t p) c w.fabric.wires ⊎ (frame_of c ≡ None)) (wire_at w.fabric.wires (place t p)) (λ c j. inl j)))) port
  where
    port_in : Hand → ℕ
    port_in hand.Empty = 0
    port_in (hand.Clock n samples) = 0
    port_in (hand.Frame k) = k

    same_port : hand.Frame p ≡ hand.Frame l.far_port → p ≡ l.far_port
    same_port e = ap port_in e

    only : {c : List ℕ} → In b (c ∷ []) → b ≡ c
    only (inl e) = e
    only (inr j) = absurd j

    found : On (place t p) b (world_after script h).fabric.wires ⊎ (frame_of b ≡ None) → p ≡ l.far_port → In b (under_way_to (world_after script h).fabric l.far_place l.far_port) ⊎ (frame_of b ≡ None)
    found (inl on) port = inl (way_on (world_after script h).fabric l.far_place l.far_port b (subst (λ (z : ℕ × ℕ). On (place z.0 z.1) b (world_after script h).fabric.wires) (λ j. (same j, port j)) on))
    found (inr none) port = inr none

came_not : (w : WorldOf) (l : LinkOf) (x : StationOf) (bytes : List (List ℕ)) → came_by l.far_port x.hand ≡ false → HandWas w l x bytes
unfolding HandWas
came_not w l x bytes none b came i = absurd (true≢false (sym came ∙ none))

same_hand_was : (w : WorldOf) (l : LinkOf) (x : StationOf) (bytes : List (List ℕ)) → x.hand ≡ (station w.fabric l.far_place).hand → bytes ≡ hand_of w.fabric.wires l.far_place → HandWas w l x bytes
unfolding HandWas
same_hand_was w l x bytes hands held b came i = inl (way_held w.fabric l.far_place l.far_port b (sym (ap (came_by l.far_port) hands) ∙ came) (subst (In b) held i))

loads_hand_was : (o : Option TopoOf) (s : ℕ) (w : WorldOf) (l : LinkOf) → HandWas w l (station (loads_with o s w).fabric l.far_place) (hand_of (loads_with o s w).fabric.wires l.far_place)
loads_hand_was None s w l = same_hand_was w l (station w.fabric l.far_place) (hand_of w.fabric.wires l.far_place) refl refl
loads_hand_was (Some topo) s w l = same_hand_was w l (station (loads_with (Some topo) s w).fabric l.far_place) (hand_of w.fabric.wires l.far_place) (set_hand w.fabric.stations s l.far_place _ refl) refl

own_hand_was : (script : ScriptOf) → IsScript script → (h : List Event) (e : Event) (l : LinkOf) → IsLinkOf script l → owner_of e ≡ l.far_place + 1 → is_lawful (world_after script h).fabric e ≡ true → HandWas (world_after script h) l (station (effect e (world_after script h)).fabric l.far_place) (hand_of (effect e (world_after script h)).fabric.wires l.far_place)
unfolding effect
own_hand_was script kept h (Clock s) l is own lawful =
    let w = world_after script h in
    let same : s ≡ l.far_place = omega (arith, own) in
    let x = clock_station w.fabric s in
    came_not w l (station (effect (Clock s) w).fabric l.far_place) _ (ap (λ n. came_by l.far_port (slice_index_or (slice_set w.fabric.stations n x) l.far_place vacant).hand) same ∙ ap (λ (y : StationOf). came_by l.far_port y.hand) (get_or-set_same w.fabric.stations l.far_place x vacant (within script kept h l.far_place is.there.node_below)))
own_hand_was script kept h (Take s p) l is own lawful = take_hand_was script kept h s p l is (omega (arith, own)) lawful
own_hand_was script kept h (Handle s) l is own lawful =
    let w = world_after script h in
    let same : s ≡ l.far_place = omega (arith, own) in
    let x = handled_station s w in
    came_not w l (station (effect (Handle s) w).fabric l.far_place) _ (ap (λ n. came_by l.far_port (slice_index_or (slice_set w.fabric.stations n x) l.far_place vacant).hand) same ∙ ap (λ (y : StationOf). came_by l.far_port y.hand) (get_or-set_same w.fabric.stations l.far_place x vacant (within script kept h l.far_place is.there.node_below)))
own_hand_was script kept h (Load s) l is own lawful = let w = world_after script h in loads_hand_was (finish_of (w.switches s)) s w l
own_hand_was script kept h (Restart s) l is own lawful =
    let w = world_after script h in
    same_hand_was w l (station (effect (Restart s) w).fabric l.far_place) (hand_of w.fabric.wires l.far_place) (set_hand w.fabric.stations s l.far_place _ refl) refl
own_hand_was script kept h e l is own lawful = absurd (omega (arith, own))

hand_was : (script : ScriptOf) → IsScript script → (h : List Event) (e : Event) (l : LinkOf) → IsLinkOf script l → is_lawful (world_after script h).fabric e ≡ true → HandWas (world_after script h) l (station (effect e (world_after script h)).fabric l.far_place) (hand_of (effect e (world_after script h)).fabric.wires l.far_place)
hand_was script kept h e l is lawful = by (cases_eq (owner_of e) (l.far_place + 1))
  where
    w : WorldOf
    w = world_after script h

    by : (owner_of e ≡ l.far_place + 1) ⊎ (owner_of e ≡ l.far_place + 1 → ⊥) → HandWas w l (station (effect e w).fabric l.far_place) (hand_of (effect e w).fabric.wires l.far_place)
    by (inl own) = own_hand_was script kept h e l is own lawful
    by (inr other) =
        same_hand_was w l (station (effect e w).fabric l.far_place) (hand_of (effect e w).fabric.wires l.far_place)
        (ap (λ (v : WorldOf). (station v.fabric l.far_place).hand) (sym (step-lawful w e lawful)) ∙ ap (λ (x : StationOf). x.hand) (step_elsewhere e l.far_place w other).place)
        (hand_elsewhere e l.far_place w (world_ports script kept h) (lawful_port script kept h e lawful) other)

-- So whatever is under way
pub way_from : (script : ScriptOf) → IsScript script → (h : List Event) (e : Event) (l : LinkOf) (b : List ℕ) → IsLinkOf script l → is_lawful (world_after script h).fabric e ≡ true → In b (under_way_to (effect e (world_after script h)).fabric l.far_place l.far_port)
    → In b (under_way_to (world_after script h).fabric l.far_place l.far_port) ⊎ IsNew (world_after script h) e l b
unfolding HandWas
way_from script kept h e l b is lawful i = by (way_parts (effect e w).fabric l.far_place l.far_port b i)
  where
    w : WorldOf
    w = world_after script h

    on_wire : On (place l.far_place l.far_port) b w.fabric.wires ⊎ IsNew w e l b → In b (under_way_to w.fabric l.far_place l.far_port) ⊎ IsNew w e l b
    on_wire (inl on) = inl (way_on w.fabric l.far_place l.far_port b on)
    on_wire (inr new) = inr new

    in_hand : In b (under_way_to w.fabric l.far_place l.far_port) ⊎ (frame_of b ≡ None) → In b (under_way_to w.fabric l.far_place l.far_port) ⊎ IsNew w e l b
    in_hand (inl old) = inl old
    in_hand (inr none) = inr (inl none)

    by : On (place l.far_place l.far_port) b (effect e w).fabric.wires ⊎ ((came_by l.far_port (station (effect e w).fabric l.far_place).hand ≡ true) × In b (hand_of (effect e w).fabric.wires l.far_place)) → In b (under_way_to w.fabric l.far_place l.far_port) ⊎ IsNew w e l b
    by (inl on) = on_wire (each_in (WasOn w e l (place l.far_place l.far_port)) (wire_at (effect e w).fabric.wires (place l.far_place l.far_port)) b (wires_were script kept h e l is lawful (place l.far_place l.far_port)) on refl)
    by (inr held) = in_hand (hand_was script kept h e l is lawful b held.0 held.1)
