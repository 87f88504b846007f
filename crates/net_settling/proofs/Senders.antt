-- From the first tick after the last disturbance on, each frame under way is from the present far end.

use Rattle.std.specs.Prelude.{◌≡◌, ◌⊎◌, ◌+◌, ◌*◌, ◌<◌, ◌≤◌, ◌&&◌, ℕ, not, nat_lt, List, [], ◌∷◌, length, slice_index_or, slice_set, cond, Option, Some, None, is_some, Bool, true, false, refl}
use Rattle.std.specs.List.{list_any}
use Rattle.std.proofs.Common.{true≢false, sym, ◌∙◌, ap, subst, inl, inr, arith, eq-eqb}
use Rattle.std.proofs.lemmas.Bool.{false≢true, cases_eq, and_parts, ltb-false, lt-ltb, not-true}
use Rattle.std.proofs.lemmas.List.{get_or-set_same}
use Rattle.std.proofs.lemmas.List.FromFn.{get_or-range_with_len, length-range_with_len}
use Rattle.std.proofs.lemmas.List.Folds.{list_any_at}
use Rattle.an_base.specs.Values.{LifeId, TopoOf}
use Rattle.an_base.specs.declared.event.Event.{Event}
use Rattle.an_base.specs.declared.event.Event.TheVariants.{Tick, Clock, Take, Handle, Load, Fail, Repair, Lose, Again, Swap, Noise, Send, Move, Restart}
use Rattle.an_base.specs.declared.frame.Frame.{Frame}
use Rattle.net_graph.specs.declared.wiring.Far.{Far}
use Rattle.net_graph.specs.declared.wiring.Far.TheVariants.{Switch, HostAt}
use Rattle.net_graph.specs.Wires.{far_at}
use Rattle.net_script.specs.Scripts.{ScriptOf, IsScript}
use Rattle.frame_codec.specs.Reading.{frame_of}
use Rattle.frame_codec.specs.Spelling.{spelling}
use Rattle.frame_codec.proofs.Decoding.{frame_again}
use Rattle.wire_set.specs.WireState.{WiresOf, place, side_at, wire_at, hand_of, is_link, far_place, take_from, held_from, is_second, taken_frame}
use Rattle.wire_set.specs.Frames.{frame}
use Rattle.topo_report.proofs.Members.{In}
use Rattle.epoch_game.proofs.Basics.{none_some, some_same}
use Rattle.switch_core.specs.Switch.{finish_of}
use Rattle.switch_core.specs.Steps.{Sent}
use Rattle.switch_core.specs.Bytes.{spelled_out, all_spelled}
use Rattle.link_settling.specs.Moves.{IsFrom, from_of}
use Rattle.net_state.specs.declared.hand.Hand.{Hand}
use Rattle.net_state.specs.declared.hand.Hand.TheVariants as hand
use Rattle.net_state.specs.Fabric.{FabricOf, StationOf, station, vacant, count, is_full_at, has_frame, has_frame_for, are_wires_empty, full_hands}
use Rattle.net_state.specs.Fabric as fabric
use Rattle.net_state.specs.Agree.{is_idle}
use Rattle.net_state.specs.Lawful.{is_lawful}
use Rattle.net_state.specs.Effects.{released}
use Rattle.net_state.proofs.LawfulLemmas.{lawful_is}
use Rattle.net_state.proofs.ReadyLemmas.{all_empty, handle_ready, take_ready, empty_at}
use Rattle.net_state.proofs.EmptyLemmas.{none_external}
use Rattle.net_state.proofs.HoldLemmas.{empty_hand, held_is, released_fars}
use Rattle.net_state.proofs.QueueLemmas.{port_is_no_hand, copied_elsewhere}
use Rattle.net_world.specs.Histories.{owner_of}
use Rattle.net_world.specs.World.{WorldOf, effect, handled, loads_with, world_after}
use Rattle.net_world.proofs.ElsewhereLemmas.{step_elsewhere}
use Rattle.net_world.proofs.FabricLemmas.{world_fits}
use Rattle.net_world.proofs.HandLemmas.{hand_elsewhere, lawful_port, world_ports}
use Rattle.net_world.proofs.InductionLemmas.{world_script}
use Rattle.net_world.proofs.PlaceLemmas.{handled_station}
use Rattle.net_world.proofs.StaysLemmas.{handles_stay}
use Rattle.net_world.proofs.WorldLemmas.{step-lawful}
use Rattle.net_game.proofs.Firm.{places}
use Rattle.net_game.proofs.EachLemmas.{Each, each_index, each_map, each_from}
use Rattle.net_game.proofs.BytesLemmas.{InQueues, GoesTo, take_queue, released_queue, all_out_queue}
use Rattle.net_game.proofs.DeliveredLemmas.{far_is}
use Rattle.net_game.proofs.KnownLemmas.{empty_none}
use Rattle.net_game.proofs.RangedFrames.{IsOut, AreFrames}
use Rattle.net_settling.specs.Settling.{is_still}
use Rattle.net_settling.specs.Views.{LinkOf, end_here}
use Rattle.net_settling.proofs.Calm.{IsCalm, calmly, last}
use Rattle.net_settling.proofs.Claims.{tick_still}
use Rattle.net_settling.proofs.Linked.{IsLinkOf, link_of, same_places, side_link}
use Rattle.net_settling.proofs.Passing.{below, within, holds_at, calm_parts, clock_station}
use Rattle.net_settling.proofs.Sents.{handled_frames, handled_out}

-- a frame on the wire into a port is from its far end, by the lives of the places
abbrev pub lives_of : WorldOf → ℕ → LifeId
lives_of w s = (w.switches s).life

abbrev pub IsFromEnd : ScriptOf → (ℕ → LifeId) → ℕ → List ℕ → Type 0
IsFromEnd script lives queue b = (l : LinkOf) → IsLinkOf script l → queue ≡ place l.far_place l.far_port → (f : Frame) → frame_of b ≡ Some f → from_of f ≡ record { life = lives l.place; port = l.port }

pub record AreFromEnds (script : ScriptOf) (lives : ℕ → LifeId) (w : WorldOf) : Type 0 where
  pub wires : InQueues (IsFromEnd script lives) w.fabric.wires
  pub hands : (t q : ℕ) → t < places script → (station w.fabric t).hand ≡ hand.Frame q → Each (IsFromEnd script lives (place t q)) (hand_of w.fabric.wires t)

-- calm events leave the lives
loads_lives : (o : Option TopoOf) (t s : ℕ) (w : WorldOf) → lives_of (loads_with o t w) s ≡ lives_of w s
loads_lives None t s w = refl
loads_lives (Some topo) t s w = by (cases_eq s t)
  where
    by : (s ≡ t) ⊎ (s ≡ t → ⊥) → lives_of (loads_with (Some topo) t w) s ≡ lives_of w s
    by (inl same) = ap (λ b. (cond b (Rattle.switch_core.specs.Steps.loaded (Rattle.table_build.specs.Made.number_in topo (w.switches t).life) (w.switches t)) (w.switches s)).life) (eq-eqb s t same) ∙ ap (lives_of w) (sym same)
    by (inr other) = ap (λ b. (cond b (Rattle.switch_core.specs.Steps.loaded (Rattle.table_build.specs.Made.number_in topo (w.switches t).life) (w.switches t)) (w.switches s)).life) (Rattle.std.proofs.Common.ne_eqb s t other)

handled_lives : (t s : ℕ) (w : WorldOf) → lives_of (effect (Handle t) w) s ≡ lives_of w s
unfolding effect
handled_lives t s w = by (cases_eq s t)
  where
    by : (s ≡ t) ⊎ (s ≡ t → ⊥) → lives_of (effect (Handle t) w) s ≡ lives_of w s
    by (inl same) = ap (λ b. (cond b (handled t w).switch (w.switches s)).life) (eq-eqb s t same) ∙ (handles_stay (station w.fabric t).hand (fabric.held_bytes w.fabric t) (w.switches t)).life ∙ ap (lives_of w) (sym same)
    by (inr other) = ap (λ b. (cond b (handled t w).switch (w.switches s)).life) (Rattle.std.proofs.Common.ne_eqb s t other)

pub calm_lives : (script : ScriptOf) (h : List Event) (e : Event) → IsCalm script h e → (s : ℕ) → lives_of (effect e (world_after script h)) s ≡ lives_of (world_after script h) s
unfolding effect
calm_lives script h Tick calm s = refl
calm_lives script h (Clock t) calm s = refl
calm_lives script h (Take t p) calm s = refl
calm_lives script h (Handle t) calm s = handled_lives t s (world_after script h)
calm_lives script h (Load t) calm s = let w = world_after script h in loads_lives (finish_of (w.switches t)) t s w
calm_lives script h (Move k) calm s = refl
calm_lives script h (Fail t p) calm s = refl
calm_lives script h (Repair t p) calm s = refl
calm_lives script h (Lose t p n) calm s = refl
calm_lives script h (Again t p n) calm s = refl
calm_lives script h (Swap t p n) calm s = refl
calm_lives script h (Noise t p n) calm s = refl
calm_lives script h (Send x y) calm s = refl
calm_lives script h (Restart t) calm s = absurd (true≢false (calm_parts script h (Restart t) calm).0)

-- before a tick nothing is under way
wire_none : (script : ScriptOf) → IsScript script → (h : List Event) → are_wires_empty (world_after script h).fabric ≡ true → (l : LinkOf) → IsLinkOf script l → wire_at (world_after script h).fabric.wires (place l.far_place l.far_port) ≡ []
wire_none script kept h empty l is = by_any (has_frame_for f l.far_place) refl
  where
    f : FabricOf
    f = (world_after script h).fabric

    low : l.far_place < count f
    low = let same = ap places (world_script script h) in let k = is.there.node_below in omega (arith, same, k)

    at : slice_index_or (fabric.places f) l.far_place 0 ≡ l.far_place
    at = get_or-range_with_len 0 (count f) l.far_place 0 low ∙ omega arith

    no_wire : (xs : List (List ℕ)) → nat_lt 0 (length xs) ≡ false → xs ≡ []
    no_wire [] e = refl
    no_wire (x ∷ xs) e = absurd (true≢false (sym (lt-ltb 0 (length (x ∷ xs)) (omega arith)) ∙ e))

    by_link : (b : Bool) → b ≡ true → (b && nat_lt 0 (length (wire_at f.wires (place l.far_place l.far_port)))) ≡ false → wire_at f.wires (place l.far_place l.far_port) ≡ []
    by_link true e none = no_wire (wire_at f.wires (place l.far_place l.far_port)) none
    by_link false e none = absurd (false≢true e)

    by_any : (b : Bool) → has_frame_for f l.far_place ≡ b → wire_at f.wires (place l.far_place l.far_port) ≡ []
    by_any true some =
        let size = length-range_with_len 0 (count f) in
        absurd (true≢false (sym (list_any_at (has_frame_for f) (fabric.places f) l.far_place 0 (omega (arith, low, size)) (ap (has_frame_for f) at ∙ some)) ∙ not-true (list_any (has_frame_for f) (fabric.places f)) empty))
    by_any false none =
        by_link (is_link (side_at f.wires (place l.far_place l.far_port)).far) (side_link script kept h (Rattle.net_settling.specs.Views.turned l) (Rattle.net_settling.proofs.Linked.link_turned script l is))
        (none_external (has_frame f l.far_place) none l.far_port is.there.own_port_least is.there.own_port_most)

-- what a tick needs
pub record IsAtTick (script : ScriptOf) (h : List Event) : Type 0 where
  pub hands : (s : ℕ) → (station (world_after script h).fabric s).hand ≡ hand.Empty
  pub none_full : full_hands (world_after script h).fabric ≡ 0
  pub clocks : fabric.is_some_clock_due (world_after script h).fabric ≡ false
  pub wires : (l : LinkOf) → IsLinkOf script l → wire_at (world_after script h).fabric.wires (place l.far_place l.far_port) ≡ []

-- so it is where nothing is left to do
pub at_still : (script : ScriptOf) → IsScript script → (h : List Event) → is_still (world_after script h).fabric ≡ true → IsAtTick script h
at_still script kept h still =
    let f = (world_after script h).fabric in
    let parts = and_parts (not (is_some (fabric.due_command f)) && not (nat_lt 0 (full_hands f))) (is_idle f) still in
    let hands = (and_parts (not (is_some (fabric.due_command f))) (not (nat_lt 0 (full_hands f))) parts.0).1 in
    let low : full_hands f ≤ 0 = ltb-false 0 (full_hands f) (not-true (nat_lt 0 (full_hands f)) hands) in
    let none : full_hands f ≡ 0 = omega (arith, low) in
    let idle = and_parts (not (fabric.is_some_packet f) && not (fabric.is_some_clock_due f) && not (fabric.is_some_load_due f)) (are_wires_empty f) parts.1 in
    let loads = and_parts (not (fabric.is_some_packet f) && not (fabric.is_some_clock_due f)) (not (fabric.is_some_load_due f)) idle.0 in
    record {
      hands = all_empty f none;
      none_full = none;
      clocks = not-true (fabric.is_some_clock_due f) (and_parts (not (fabric.is_some_packet f)) (not (fabric.is_some_clock_due f)) loads.0).1;
      wires = wire_none script kept h idle.1;
    }

pub at_tick : (script : ScriptOf) → IsScript script → script.pace ≡ None → (h : List Event) → is_lawful (world_after script h).fabric Tick ≡ true → IsAtTick script h
at_tick script kept unpaced h lawful =
    let f = (world_after script h).fabric in
    at_still script kept h (tick_still f (ap (λ (x : ScriptOf). x.pace) (world_script script h) ∙ unpaced) lawful)

pub each_of : {A : Type 0} (P : A → Type 0) (xs : List A) → ((x : A) → In x xs → P x) → Each P xs
each_of P [] all = tt
each_of P (x ∷ xs) all = (all x (inl refl), each_of P xs (λ y i. all y (inr i)))

empty_frame : (x : Hand) (q : ℕ) → x ≡ hand.Empty → x ≡ hand.Frame q → ⊥
empty_frame x q is at = none_some (ap port_in (sym is ∙ at))
  where
    port_in : Hand → Option ℕ
    port_in hand.Empty = None
    port_in (hand.Clock n samples) = None
    port_in (hand.Frame p) = Some p

tick_from : (script : ScriptOf) → IsScript script → script.pace ≡ None → (h : List Event) → is_lawful (world_after script h).fabric Tick ≡ true → AreFromEnds script (lives_of (effect Tick (world_after script h))) (effect Tick (world_after script h))
unfolding effect
tick_from script kept unpaced h lawful =
    let w = world_after script h in
    let at = at_tick script kept unpaced h lawful in
    record {
      wires = λ queue. each_of (IsFromEnd script (lives_of w) queue) (wire_at w.fabric.wires queue)
          (λ b i l is where_is f read. absurd (subst (In b) (ap (wire_at w.fabric.wires) where_is ∙ at.wires l is) i));
      hands = λ t q low is. absurd (empty_frame (station w.fabric t).hand q (at.hands t) is);
    }

-- what a switch sends comes from it
from_here : (script : ScriptOf) → IsScript script → (h : List Event) (s : ℕ) (x : Sent) → s < places script → IsOut x → IsFrom (lives_of (world_after script h) s) x → GoesTo (IsFromEnd script (lives_of (world_after script h))) (world_after script h).fabric.wires s (spelled_out x)
from_here script kept h s x low out from = by (side_at w.fabric.wires (place s x.port)).far refl
  where
    w : WorldOf
    w = world_after script h

    most : x.port ≤ 12
    most = out.port_is.1

    arrives : (t q : ℕ) → far_at script.wires s x.port ≡ Some (Switch t q) → IsFromEnd script (lives_of w) (place t q) (spelling x.frame)
    arrives t q far l is at f read =
        let k = link_of script kept s x.port t q far in
        let same = same_places t q l.far_place l.far_port k.there.own_port_most is.there.own_port_most at in
        let back : ◌≡◌ {A = Option Far} (Some (Switch s x.port)) (Some (Switch l.place l.port)) = sym k.back ∙ ap (λ n. far_at script.wires n q) same.0 ∙ ap (far_at script.wires l.far_place) same.1 ∙ is.back in
        let pair : ◌≡◌ {A = ℕ × ℕ} (s, x.port) (l.place, l.port) = some_same (s, x.port) (l.place, l.port) (ap (λ (o : Option Far). Rattle.net_state.specs.Fabric.switch_behind o) back) in
        let frame : x.frame ≡ f = some_same x.frame f (sym (frame_again x.frame out.frame_is) ∙ read) in
        sym (ap from_of frame) ∙ from ∙ ap (λ (z : ℕ × ℕ). record { life = lives_of w z.0; port = z.1 }) pair

    by : (o : Option Far) → (side_at w.fabric.wires (place s x.port)).far ≡ o → is_link (side_at w.fabric.wires (place s x.port)).far ≡ true → IsFromEnd script (lives_of w) (far_place (side_at w.fabric.wires (place s x.port)).far) (spelling x.frame)
    by None is link = absurd (true≢false (sym link ∙ ap is_link is))
    by (Some (HostAt n)) is link = absurd (true≢false (sym link ∙ ap is_link is))
    by (Some (Switch t q)) is link =
        subst (λ (o : Option Far). IsFromEnd script (lives_of w) (far_place o) (spelling x.frame)) (sym is)
        (arrives t q (sym (far_is script kept h s x.port low (omega (arith, most))) ∙ is))

all_from_here : (script : ScriptOf) → IsScript script → (h : List Event) (s : ℕ) → s < places script → (xs : List Sent) → AreFrames xs → Each (IsFrom (lives_of (world_after script h) s)) xs → Each (GoesTo (IsFromEnd script (lives_of (world_after script h))) (world_after script h).fabric.wires s) (all_spelled xs)
all_from_here script kept h s low [] out from = tt
all_from_here script kept h s low (x ∷ xs) out from = (from_here script kept h s x low out.0 from.0, all_from_here script kept h s low xs out.1 from.1)

-- an empty byte string is no frame, and a hand is no wire
empty_from : (script : ScriptOf) (lives : ℕ → LifeId) (queue : ℕ) → IsFromEnd script lives queue []
empty_from script lives queue l is at f read = absurd (none_some (sym empty_none ∙ read))

hand_from : (script : ScriptOf) (lives : ℕ → LifeId) (s : ℕ) (b : List ℕ) → IsFromEnd script lives (place s 0) b
hand_from script lives s b l is at f read = let k = is.there.own_port_least in let m = is.there.own_port_most in let e : 13 * s + 0 ≡ 13 * l.far_place + l.far_port = at in absurd (omega (arith, e, k, m))

-- the wires
loads_wires : (o : Option TopoOf) (s : ℕ) (w : WorldOf) (P : WiresOf → Type 0) → P w.fabric.wires → P (loads_with o s w).fabric.wires
loads_wires None s w P p = p
loads_wires (Some topo) s w P p = p

wires_next : (script : ScriptOf) → IsScript script → (h : List Event) (e : Event) → IsCalm script h e → AreFromEnds script (lives_of (world_after script h)) (world_after script h) → InQueues (IsFromEnd script (lives_of (world_after script h))) (effect e (world_after script h)).fabric.wires
unfolding effect
wires_next script kept h Tick calm old = old.wires
wires_next script kept h (Clock s) calm old = old.wires
wires_next script kept h (Take s p) calm old = let w = world_after script h in take_queue (IsFromEnd script (lives_of w)) (place s p) (place s 0) w.fabric.wires (empty_from script (lives_of w) (place s p)) (λ b is. hand_from script (lives_of w) s b) old.wires
wires_next script kept h (Handle s) calm old =
    let w = world_after script h in
    let P = IsFromEnd script (lives_of w) in
    let low = below script h s (handle_ready w.fabric s (lawful_is w.fabric (Handle s) calm.lawful).ready).0 in
    let k = (station w.fabric s).hand in
    all_out_queue P w.fabric.wires s (all_spelled (handled s w).frames) (released k s w.fabric.wires) (released_fars k s w.fabric.wires) (released_queue P k s w.fabric.wires old.wires)
    (all_from_here script kept h s low (handled s w).frames (handled_frames script kept h s low calm.lawful) (each_from (IsFrom (lives_of w s)) (handled s w).frames (handled_out s w)))
wires_next script kept h (Load s) calm old = let w = world_after script h in loads_wires (finish_of (w.switches s)) s w (InQueues (IsFromEnd script (lives_of w))) old.wires
wires_next script kept h (Move k) calm old = old.wires
wires_next script kept h (Fail s p) calm old = absurd (true≢false (calm_parts script h (Fail s p) calm).0)
wires_next script kept h (Repair s p) calm old = absurd (true≢false (calm_parts script h (Repair s p) calm).0)
wires_next script kept h (Lose s p n) calm old = absurd (true≢false (calm_parts script h (Lose s p n) calm).0)
wires_next script kept h (Again s p n) calm old = absurd (true≢false (calm_parts script h (Again s p n) calm).0)
wires_next script kept h (Swap s p n) calm old = absurd (true≢false (calm_parts script h (Swap s p n) calm).0)
wires_next script kept h (Noise s p n) calm old = absurd (true≢false (calm_parts script h (Noise s p n) calm).0)
wires_next script kept h (Send x y) calm old = absurd (true≢false (calm_parts script h (Send x y) calm).0)
wires_next script kept h (Restart s) calm old = absurd (true≢false (calm_parts script h (Restart s) calm).0)

-- the hands
abbrev HandsAt : ScriptOf → (ℕ → LifeId) → ℕ → StationOf → List (List ℕ) → Type 0
HandsAt script lives t x bytes = (q : ℕ) → x.hand ≡ hand.Frame q → Each (IsFromEnd script lives (place t q)) bytes

pub taken_is : (P : List ℕ → Type 0) (wire : ℕ) (w : WiresOf) → P [] → Each P (wire_at w wire) → P (taken_frame wire w)
taken_is P wire w none all = by (is_second wire w)
  where
    by : (b : Bool) → P (cond b (frame w.frames wire 1) (frame w.frames wire 0))
    by true = each_index P (wire_at w wire) 1 [] none all
    by false = each_index P (wire_at w wire) 0 [] none all

take_hand : (script : ScriptOf) → IsScript script → (h : List Event) (t p : ℕ) → is_lawful (world_after script h).fabric (Take t p) ≡ true → AreFromEnds script (lives_of (world_after script h)) (world_after script h)
    → HandsAt script (lives_of (world_after script h)) t (station (effect (Take t p) (world_after script h)).fabric t) (hand_of (effect (Take t p) (world_after script h)).fabric.wires t)
unfolding effect
take_hand script kept h t p lawful old q is =
    let w = world_after script h in
    let ready = take_ready w.fabric t p (lawful_is w.fabric (Take t p) lawful).ready in
    let low = below script h t ready.switch in
    let size : length w.fabric.wires.frames.queues ≡ 13 * places script = (world_fits script kept h).wires_sound.frames.queues ∙ ap (λ z. 13 * places z) (world_script script h) in
    let none = empty_hand (station w.fabric t).hand (hand_of w.fabric.wires t) (empty_at w.fabric t ready.empty) (holds_at script kept h t low) in
    let other = port_is_no_hand t t p ready.least ready.most in
    let now : hand_of (take_from (place t p) (place t 0) w.fabric.wires) t ≡ taken_frame (place t p) w.fabric.wires ∷ [] =
    copied_elsewhere (place t p) (place t 0) (taken_frame (place t p) w.fabric.wires) (held_from (place t p) (place t 0) w.fabric.wires) other ∙ held_is (place t p) (place t 0) w.fabric.wires other (omega (arith, size, low)) none
    in
    let port : p ≡ q = same_port p q (sym (ap (λ (x : StationOf). x.hand) (get_or-set_same w.fabric.stations t _ vacant (within script kept h t low))) ∙ is) in
    subst (Each (IsFromEnd script (lives_of w) (place t q))) (sym now)
    (subst (λ n. IsFromEnd script (lives_of w) (place t n) (taken_frame (place t p) w.fabric.wires)) port (taken_is (IsFromEnd script (lives_of w) (place t p)) (place t p) w.fabric.wires (empty_from script (lives_of w) (place t p)) (old.wires (place t p))), tt)
  where
    port_in : Hand → ℕ
    port_in hand.Empty = 0
    port_in (hand.Clock n samples) = 0
    port_in (hand.Frame p) = p

    same_port : (p q : ℕ) → hand.Frame p ≡ hand.Frame q → p ≡ q
    same_port p q e = ap port_in e

clock_frame : (x : Hand) (n : ℕ) (samples : _) (q : ℕ) → x ≡ hand.Clock n samples → x ≡ hand.Frame q → ⊥
clock_frame x n samples q is at = none_some (ap port_in (sym is ∙ at))
  where
    port_in : Hand → Option ℕ
    port_in hand.Empty = None
    port_in (hand.Clock n samples) = None
    port_in (hand.Frame p) = Some p

own_hand : (script : ScriptOf) → IsScript script → (h : List Event) (e : Event) (t : ℕ) → t < places script → owner_of e ≡ t + 1 → IsCalm script h e → AreFromEnds script (lives_of (world_after script h)) (world_after script h)
    → HandsAt script (lives_of (world_after script h)) t (station (effect e (world_after script h)).fabric t) (hand_of (effect e (world_after script h)).fabric.wires t)
unfolding effect
own_hand script kept h (Clock s) t low own calm old =
    let w = world_after script h in
    let same : s ≡ t = omega (arith, own) in
    let x = clock_station w.fabric s in
    λ q is. absurd (clock_frame (station (effect (Clock s) w).fabric t).hand w.fabric.tick (fabric.samples_of w.fabric s) q (ap (λ n. (slice_index_or (slice_set w.fabric.stations n x) t vacant).hand) same ∙ ap (λ (y : StationOf). y.hand) (get_or-set_same w.fabric.stations t x vacant (within script kept h t low))) is)
own_hand script kept h (Take s p) t low own calm old =
    let same : s ≡ t = omega (arith, own) in
    let w = world_after script h in
    subst (λ n. HandsAt script (lives_of w) n (station (effect (Take s p) w).fabric n) (hand_of (effect (Take s p) w).fabric.wires n)) same (take_hand script kept h s p calm.lawful old)
own_hand script kept h (Handle s) t low own calm old =
    let w = world_after script h in
    let same : s ≡ t = omega (arith, own) in
    let x = handled_station s w in
    λ q is. absurd (empty_frame (station (effect (Handle s) w).fabric t).hand q (ap (λ n. (slice_index_or (slice_set w.fabric.stations n x) t vacant).hand) same ∙ ap (λ (y : StationOf). y.hand) (get_or-set_same w.fabric.stations t x vacant (within script kept h t low))) is)
own_hand script kept h (Load s) t low own calm old = let w = world_after script h in loads_hands script (lives_of w) (finish_of (w.switches s)) s t w (λ q is. old.hands t q low is)
  where
    loads_hands : (script : ScriptOf) (lives : ℕ → LifeId) (o : Option TopoOf) (s t : ℕ) (w : WorldOf) → HandsAt script lives t (station w.fabric t) (hand_of w.fabric.wires t) → HandsAt script lives t (station (loads_with o s w).fabric t) (hand_of (loads_with o s w).fabric.wires t)
    loads_hands script lives None s t w now = now
    loads_hands script lives (Some topo) s t w now = λ q is. now q (sym (Rattle.net_settling.proofs.Passing.set_hand w.fabric.stations s t _ refl) ∙ is)
own_hand script kept h (Restart s) t low own calm old = absurd (true≢false (calm_parts script h (Restart s) calm).0)
own_hand script kept h e t low own calm old = absurd (omega (arith, own))

hands_next : (script : ScriptOf) → IsScript script → (h : List Event) (e : Event) → IsCalm script h e → AreFromEnds script (lives_of (world_after script h)) (world_after script h) → (t : ℕ) → t < places script
    → HandsAt script (lives_of (world_after script h)) t (station (effect e (world_after script h)).fabric t) (hand_of (effect e (world_after script h)).fabric.wires t)
hands_next script kept h e calm old t low = by (cases_eq (owner_of e) (t + 1))
  where
    w : WorldOf
    w = world_after script h

    by : (owner_of e ≡ t + 1) ⊎ (owner_of e ≡ t + 1 → ⊥) → HandsAt script (lives_of w) t (station (effect e w).fabric t) (hand_of (effect e w).fabric.wires t)
    by (inl own) = own_hand script kept h e t low own calm old
    by (inr other) =
        let place_is : station (effect e w).fabric t ≡ station w.fabric t = ap (λ (v : WorldOf). station v.fabric t) (sym (step-lawful w e calm.lawful)) ∙ (step_elsewhere e t w other).place in
        let hand_is : hand_of (effect e w).fabric.wires t ≡ hand_of w.fabric.wires t = hand_elsewhere e t w (world_ports script kept h) (lawful_port script kept h e calm.lawful) other in
        λ q is. subst (Each (IsFromEnd script (lives_of w) (place t q))) (sym hand_is) (old.hands t q low (sym (ap (λ (x : StationOf). x.hand) place_is) ∙ is))

-- with other lives that are the same
from_moved : (script : ScriptOf) (one other : ℕ → LifeId) → ((s : ℕ) → other s ≡ one s) → (queue : ℕ) (b : List ℕ) → IsFromEnd script one queue b → IsFromEnd script other queue b
from_moved script one other same queue b is l at where_is f read = is l at where_is f read ∙ ap (λ x. record { life = x; port = l.port }) (sym (same l.place))

abbrev pub Froms : ScriptOf → ℕ → WorldOf → Type 0
Froms script c w = AreFromEnds script (lives_of w) w

froms_next : (script : ScriptOf) → IsScript script → (h : List Event) (e : Event) → IsCalm script h e → Froms script (last script h) (world_after script h) → Froms script (last script h) (effect e (world_after script h))
froms_next script kept h e calm old =
    let w = world_after script h in
    let same = calm_lives script h e calm in
    record {
      wires = λ queue. each_map (IsFromEnd script (lives_of w) queue) (IsFromEnd script (lives_of (effect e w)) queue) (wire_at (effect e w).fabric.wires queue) (from_moved script (lives_of w) (lives_of (effect e w)) same queue) (wires_next script kept h e calm old queue);
      hands = λ t q low is. each_map (IsFromEnd script (lives_of w) (place t q)) (IsFromEnd script (lives_of (effect e w)) (place t q)) (hand_of (effect e w).fabric.wires t) (from_moved script (lives_of w) (lives_of (effect e w)) same (place t q)) (hands_next script kept h e calm old t low q is);
    }

-- from the first tick after the last disturbance on
pub all_from_ends : (script : ScriptOf) → IsScript script → script.pace ≡ None → (h : List Event) → fabric.is_some_spent (world_after script h).fabric ≡ false → last script h < (world_after script h).fabric.tick → AreFromEnds script (lives_of (world_after script h)) (world_after script h)
all_from_ends script kept unpaced h works later =
    calmly script (Froms script) (λ g lawful works now. tick_from script kept unpaced g lawful) (froms_next script kept) h works later
