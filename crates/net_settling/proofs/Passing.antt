-- What each event makes of what is under way to a port.

use Rattle.std.specs.Prelude.{◌≡◌, ◌⊎◌, ◌+◌, ◌*◌, ◌<◌, ◌≤◌, ◌||◌, ◌&&◌, ℕ, not, List, [], ◌∷◌, ◌++◌, length, slice_index_or, slice_set, cond, Option, Some, None, Bool, true, false, refl}
use Rattle.std.specs.List.{list_any, flat_map}
use Rattle.std.proofs.Common.{true≢false, sym, ◌∙◌, ap, subst, inl, inr, arith, eq-eqb}
use Rattle.std.proofs.lemmas.Bool.{false≢true, cases_eq, cases_lt, or_parts}
use Rattle.std.proofs.lemmas.List.{get_or-set_other, get_or-set_same, get_or_past, length-set}
use Rattle.std.proofs.lemmas.List.Folds.{list_any-append}
use Rattle.an_base.specs.Values.{TopoOf}
use Rattle.an_base.specs.declared.event.Event.{Event}
use Rattle.an_base.specs.declared.event.Event.TheVariants.{Tick, Clock, Take, Handle, Load, Fail, Repair, Lose, Again, Swap, Noise, Send, Move, Restart}
use Rattle.net_script.specs.Scripts.{ScriptOf, IsScript}
use Rattle.port_monitor.specs.Histories.{externals}
use Rattle.frame_codec.specs.Spelling.{spelling}
use Rattle.wire_set.specs.WireState.{WiresOf, place, side_at, wire_at, hand_of, is_link, wire_out, take_from}
use Rattle.topo_report.proofs.Members.{In}
use Rattle.switch_core.specs.Switch.{finish_of, note_of}
use Rattle.switch_core.specs.Steps.{Sent}
use Rattle.switch_core.specs.Bytes.{BytesOut, spelled_out, all_spelled}
use Rattle.net_state.specs.declared.hand.Hand.{Hand}
use Rattle.net_state.specs.declared.hand.Hand.TheVariants as hand
use Rattle.net_state.specs.Fabric.{FabricOf, StationOf, station, vacant, held_bytes, is_full_at, is_up, samples_of}
use Rattle.net_state.specs.Fits.{HoldsFor}
use Rattle.net_state.specs.Lawful.{is_lawful}
use Rattle.net_state.specs.Effects.{released, all_put_out}
use Rattle.net_state.proofs.LawfulLemmas.{lawful_is}
use Rattle.net_state.proofs.ReadyLemmas.{clock_ready, take_ready, empty_at}
use Rattle.net_state.proofs.FitsLemmas.{switch_below}
use Rattle.net_state.proofs.HoldLemmas.{empty_hand}
use Rattle.net_state.proofs.QueueLemmas.{hands_differ, port_is_no_hand, take_elsewhere}
use Rattle.net_state.specs.Lines.{lost_lines}
use Rattle.net_world.specs.Lines.{lines_of, port_line, no_frame_lines, join_lines, no_epoch_lines, finish_lines}
use Rattle.net_world.specs.World.{WorldOf, effect, handled, loads_with, world_after}
use Rattle.net_world.proofs.FabricLemmas.{world_fits}
use Rattle.net_world.proofs.InductionLemmas.{world_script}
use Rattle.net_game.proofs.Firm.{places}
use Rattle.net_settling.specs.Views.{LinkOf, came_by, under_way_to}
use Rattle.net_settling.specs.Disturbances.{is_either, is_lost_by, is_of_script, loses}
use Rattle.net_settling.proofs.Calm.{IsCalm}
use Rattle.net_settling.proofs.Flights.{On, all_out_keeps, all_out_comes, released_keeps, released_links, released_size, taken_or}
use Rattle.net_settling.proofs.Under.{way_parts, way_on, way_held, came_port, held_one}
use Rattle.net_settling.proofs.Linked.{IsLinkOf, same_places, side_link, out_is, wire_low}

-- the switches of a world
pub below : (script : ScriptOf) (h : List Event) (s : ℕ) → Rattle.net_state.specs.Fabric.is_switch (world_after script h).fabric s ≡ true → s < places script
below script h s is = let low = switch_below (world_after script h).fabric s is in let same = ap places (world_script script h) in omega (arith, low, same)

pub within : (script : ScriptOf) → IsScript script → (h : List Event) (s : ℕ) → s < places script → s < length (world_after script h).fabric.stations
within script kept h s low = let size = (world_fits script kept h).size in let same = ap places (world_script script h) in omega (arith, size, low, same)

pub holds_at : (script : ScriptOf) → IsScript script → (h : List Event) (s : ℕ) → s < places script → HoldsFor (station (world_after script h).fabric s).hand (hand_of (world_after script h).fabric.wires s)
holds_at script kept h s low = let same = ap places (world_script script h) in ((world_fits script kept h).hands s (omega (arith, low, same))).holds

-- only the hand and the wires count
pub way_same : (f g : FabricOf) (t q : ℕ) (b : List ℕ) → (station g t).hand ≡ (station f t).hand → g.wires ≡ f.wires → In b (under_way_to f t q) → In b (under_way_to g t q)
way_same f g t q b hands wires i =
    subst (λ (x : Hand). In b (wire_at g.wires (place t q) ++ cond (came_by q x) (hand_of g.wires t) [])) (sym hands)
    (subst (λ (w : WiresOf). In b (wire_at w (place t q) ++ cond (came_by q (station f t).hand) (hand_of w t) [])) (sym wires) i)

-- an event that is lawful and does not disturb is no command, and loses nothing
pub calm_parts : (script : ScriptOf) (h : List Event) (e : Event) → IsCalm script h e → (is_of_script e ≡ false) × (loses is_either (world_after script h) e ≡ false)
calm_parts script h e calm =
    let w = world_after script h in
    or_parts (is_of_script e) (loses is_either w e) (sym (ap (λ b. b && (is_of_script e || loses is_either w e)) calm.lawful) ∙ calm.quiet)

-- the frame that was in hand
pub record WasHeld (w : WorldOf) (e : Event) (l : LinkOf) (b : List ℕ) : Type 0 where
  pub event : e ≡ Handle l.far_place
  pub hand_is : (station w.fabric l.far_place).hand ≡ hand.Frame l.far_port
  pub held : b ≡ held_bytes w.fabric l.far_place

abbrev pub Passes : WorldOf → Event → LinkOf → List ℕ → Type 0
Passes w e l b = In b (under_way_to (effect e w).fabric l.far_place l.far_port) ⊎ WasHeld w e l b

empty_came : (q : ℕ) (x : Hand) → x ≡ hand.Empty → came_by q x ≡ true → ⊥
empty_came q x is came = false≢true (sym (ap (came_by q) is) ∙ came)

clock_passes : (script : ScriptOf) (h : List Event) (s : ℕ) (l : LinkOf) (b : List ℕ) → is_lawful (world_after script h).fabric (Clock s) ≡ true → In b (under_way_to (world_after script h).fabric l.far_place l.far_port) → In b (under_way_to (effect (Clock s) (world_after script h)).fabric l.far_place l.far_port)
unfolding effect
clock_passes script h s l b lawful i = by (way_parts f l.far_place l.far_port b i) (cases_eq l.far_place s)
  where
    f : FabricOf
    f = (world_after script h).fabric

    g : FabricOf
    g = (effect (Clock s) (world_after script h)).fabric

    by : On (place l.far_place l.far_port) b f.wires ⊎ ((came_by l.far_port (station f l.far_place).hand ≡ true) × In b (hand_of f.wires l.far_place)) → (l.far_place ≡ s) ⊎ (l.far_place ≡ s → ⊥) → In b (under_way_to g l.far_place l.far_port)
    by (inl on) at = way_on g l.far_place l.far_port b on
    by (inr k) (inl same) = absurd (empty_came l.far_port (station f l.far_place).hand (ap (λ n. (station f n).hand) same ∙ empty_at f s (clock_ready f s (lawful_is f (Clock s) lawful).ready).1) k.0)
    by (inr k) (inr other) = way_held g l.far_place l.far_port b (ap (λ (x : StationOf). came_by l.far_port x.hand) (get_or-set_other f.stations s l.far_place _ vacant other) ∙ k.0) k.1

take_passes : (script : ScriptOf) → IsScript script → (h : List Event) (s p : ℕ) (l : LinkOf) (b : List ℕ) → IsLinkOf script l → is_lawful (world_after script h).fabric (Take s p) ≡ true → In b (under_way_to (world_after script h).fabric l.far_place l.far_port) → In b (under_way_to (effect (Take s p) (world_after script h)).fabric l.far_place l.far_port)
unfolding effect
take_passes script kept h s p l b is lawful i = by (way_parts f l.far_place l.far_port b i) (cases_eq l.far_place s) (cases_eq l.far_port p)
  where
    f : FabricOf
    f = (world_after script h).fabric

    g : FabricOf
    g = (effect (Take s p) (world_after script h)).fabric

    s_low : s < places script
    s_low = below script h s (take_ready f s p (lawful_is f (Take s p) lawful).ready).switch

    empty : (station f s).hand ≡ hand.Empty
    empty = empty_at f s (take_ready f s p (lawful_is f (Take s p) lawful).ready).empty

    apart : (l.far_place ≡ s) ⊎ (l.far_place ≡ s → ⊥) → (l.far_port ≡ p) ⊎ (l.far_port ≡ p → ⊥) → ((l.far_place ≡ s → l.far_port ≡ p → ⊥) ⊎ ((l.far_place ≡ s) × (l.far_port ≡ p)))
    apart (inl t) (inl q) = inr (t, q)
    apart (inl t) (inr q) = inl (λ _ e. q e)
    apart (inr t) q = inl (λ e _. t e)

    p_most : p ≤ 12
    p_most = (take_ready f s p (lawful_is f (Take s p) lawful).ready).most

    p_least : 1 ≤ p
    p_least = (take_ready f s p (lawful_is f (Take s p) lawful).ready).least

    same_hand : (l.far_place ≡ s → ⊥) → (station g l.far_place).hand ≡ (station f l.far_place).hand
    same_hand other = ap (λ (x : StationOf). x.hand) (get_or-set_other f.stations s l.far_place _ vacant other)

    taken_hand : (station g s).hand ≡ hand.Frame p
    taken_hand = ap (λ (x : StationOf). x.hand) (get_or-set_same f.stations s _ vacant (within script kept h s s_low))

    size : length f.wires.frames.queues ≡ 13 * places script
    size = (world_fits script kept h).wires_sound.frames.queues ∙ ap (λ z. 13 * places z) (world_script script h)

    here : (l.far_place ≡ s) × (l.far_port ≡ p) → On (place l.far_place l.far_port) b f.wires → In b (under_way_to g l.far_place l.far_port)
    here at on =
        let q_is = at.1 in
        let none = empty_hand (station f s).hand (hand_of f.wires s) empty (holds_at script kept h s s_low) in
        let low = wire_low script kept h l is in
        let z = size in
        subst (λ (n : ℕ × ℕ). In b (under_way_to g n.0 n.1)) (λ j. (sym at.0 j, sym at.1 j))
        (came (taken_or (place s p) (place s 0) f.wires b (port_is_no_hand s s p p_least p_most) (omega (arith, z, s_low)) (omega (arith, z, s_low, p_most)) none
        (subst (λ (n : ℕ × ℕ). On (place n.0 n.1) b f.wires) (λ j. (at.0 j, at.1 j)) on)))
      where
        came : On (place s p) b g.wires ⊎ On (place s 0) b g.wires → In b (under_way_to g s p)
        came (inl o) = way_on g s p b o
        came (inr o) = way_held g s p b (ap (came_by p) taken_hand ∙ eq-eqb p p refl) o

    by : On (place l.far_place l.far_port) b f.wires ⊎ ((came_by l.far_port (station f l.far_place).hand ≡ true) × In b (hand_of f.wires l.far_place)) → (l.far_place ≡ s) ⊎ (l.far_place ≡ s → ⊥) → (l.far_port ≡ p) ⊎ (l.far_port ≡ p → ⊥) → In b (under_way_to g l.far_place l.far_port)
    by (inl on) t q = by_apart (apart t q)
      where
        q_least : 1 ≤ l.far_port
        q_least = is.there.own_port_least

        by_apart : ((l.far_place ≡ s → l.far_port ≡ p → ⊥) ⊎ ((l.far_place ≡ s) × (l.far_port ≡ p))) → In b (under_way_to g l.far_place l.far_port)
        by_apart (inr at) = here at on
        by_apart (inl not) =
            way_on g l.far_place l.far_port b (subst (In b) (sym (take_elsewhere (place s p) (place s 0) (place l.far_place l.far_port) f.wires
            (λ e. let at = same_places l.far_place l.far_port s p is.there.own_port_most p_most e in not at.0 at.1)
            (λ e. port_is_no_hand s l.far_place l.far_port is.there.own_port_least is.there.own_port_most (sym e)))) on)
    by (inr k) (inl same) q = absurd (empty_came l.far_port (station f l.far_place).hand (ap (λ n. (station f n).hand) same ∙ empty) k.0)
    by (inr k) (inr other) q =
        way_held g l.far_place l.far_port b (ap (came_by l.far_port) (same_hand other) ∙ k.0)
        (subst (In b) (sym (take_elsewhere (place s p) (place s 0) (place l.far_place 0) f.wires (port_is_no_hand l.far_place s p p_least p_most) (hands_differ l.far_place s other))) k.1)

handle_passes : (script : ScriptOf) → IsScript script → (h : List Event) (s : ℕ) (l : LinkOf) (b : List ℕ) → IsLinkOf script l → is_lawful (world_after script h).fabric (Handle s) ≡ true → In b (under_way_to (world_after script h).fabric l.far_place l.far_port) → Passes (world_after script h) (Handle s) l b
unfolding effect
handle_passes script kept h s l b is lawful i = by (way_parts w.fabric l.far_place l.far_port b i) (cases_eq l.far_place s)
  where
    w : WorldOf
    w = world_after script h

    g : FabricOf
    g = (effect (Handle s) w).fabric

    out : List BytesOut
    out = all_spelled (handled s w).frames

    by : On (place l.far_place l.far_port) b w.fabric.wires ⊎ ((came_by l.far_port (station w.fabric l.far_place).hand ≡ true) × In b (hand_of w.fabric.wires l.far_place)) → (l.far_place ≡ s) ⊎ (l.far_place ≡ s → ⊥) → Passes w (Handle s) l b
    by (inl on) at = inl (way_on g l.far_place l.far_port b (all_out_keeps s (place l.far_place l.far_port) out b (released (station w.fabric s).hand s w.fabric.wires)
        (released_keeps (station w.fabric s).hand s (place l.far_place l.far_port) b w.fabric.wires (λ e. port_is_no_hand s l.far_place l.far_port is.there.own_port_least is.there.own_port_most (sym e)) on)))
    by (inr k) (inl same) =
        let at = came_port l.far_port (station w.fabric l.far_place).hand k.0 in
        inr (record {
          event = ap Handle (sym same);
          hand_is = at;
          held = held_one (station w.fabric l.far_place).hand l.far_port (hand_of w.fabric.wires l.far_place) b at (holds_at script kept h l.far_place is.there.node_below) k.1;
        })
    by (inr k) (inr other) = inl (way_held g l.far_place l.far_port b (ap (λ (x : StationOf). came_by l.far_port x.hand) (get_or-set_other w.fabric.stations s l.far_place _ vacant other) ∙ k.0)
        (all_out_keeps s (place l.far_place 0) out b (released (station w.fabric s).hand s w.fabric.wires)
        (released_keeps (station w.fabric s).hand s (place l.far_place 0) b w.fabric.wires (hands_differ l.far_place s other) k.1)))

-- a station changes
pub set_cases : (stations : List StationOf) (s t : ℕ) (x : StationOf) → ((t ≡ s) × (slice_index_or (slice_set stations s x) t vacant ≡ x)) ⊎ (slice_index_or (slice_set stations s x) t vacant ≡ slice_index_or stations t vacant)
set_cases stations s t x = by (cases_eq t s) (cases_lt t (length stations))
  where
    by : (t ≡ s) ⊎ (t ≡ s → ⊥) → (t < length stations) ⊎ (length stations ≤ t) → ((t ≡ s) × (slice_index_or (slice_set stations s x) t vacant ≡ x)) ⊎ (slice_index_or (slice_set stations s x) t vacant ≡ slice_index_or stations t vacant)
    by (inl is) (inl low) = inl (is, ap (λ n. slice_index_or (slice_set stations n x) t vacant) (sym is) ∙ get_or-set_same stations t x vacant low)
    by (inl is) (inr past) = inr (get_or_past (slice_set stations s x) t vacant (omega (arith, past, length-set stations s x)) ∙ sym (get_or_past stations t vacant past))
    by (inr other) low = inr (get_or-set_other stations s t x vacant other)

-- what stands at a place after a clock, and after a frame, was taken in hand
abbrev pub clock_station : FabricOf → ℕ → StationOf
clock_station f s = record (station f s) { hand = hand.Clock f.tick (samples_of f s); clock = f.tick + 1 }

abbrev pub take_station : FabricOf → ℕ → ℕ → StationOf
take_station f s p = record (station f s) { hand = hand.Frame p }

-- and has in hand what it had
pub set_hand : (stations : List StationOf) (s t : ℕ) (x : StationOf) → x.hand ≡ (slice_index_or stations s vacant).hand → (slice_index_or (slice_set stations s x) t vacant).hand ≡ (slice_index_or stations t vacant).hand
set_hand stations s t x same = by (set_cases stations s t x)
  where
    by : ((t ≡ s) × (slice_index_or (slice_set stations s x) t vacant ≡ x)) ⊎ (slice_index_or (slice_set stations s x) t vacant ≡ slice_index_or stations t vacant) → (slice_index_or (slice_set stations s x) t vacant).hand ≡ (slice_index_or stations t vacant).hand
    by (inl k) = ap (λ (y : StationOf). y.hand) k.1 ∙ same ∙ ap (λ n. (slice_index_or stations n vacant).hand) (sym k.0)
    by (inr k) = ap (λ (y : StationOf). y.hand) k

-- a load, and a packet
loads_passes : (o : Option TopoOf) (s : ℕ) (w : WorldOf) (t q : ℕ) (b : List ℕ) → In b (under_way_to w.fabric t q) → In b (under_way_to (loads_with o s w).fabric t q)
loads_passes None s w t q b i = i
loads_passes (Some topo) s w t q b i = way_same w.fabric (loads_with (Some topo) s w).fabric t q b (set_hand w.fabric.stations s t _ refl) refl i

-- So what is under way stays so, but for the frame that is handled.
pub way_stays : (script : ScriptOf) → IsScript script → (h : List Event) (e : Event) (l : LinkOf) (b : List ℕ) → IsLinkOf script l → is_lawful (world_after script h).fabric e ≡ true → is_of_script e ≡ false → (e ≡ Tick → ⊥) → In b (under_way_to (world_after script h).fabric l.far_place l.far_port) → Passes (world_after script h) e l b
unfolding effect
way_stays script kept h Tick l b is lawful quiet no_tick i = absurd (no_tick refl)
way_stays script kept h (Clock s) l b is lawful quiet no_tick i = inl (clock_passes script h s l b lawful i)
way_stays script kept h (Take s p) l b is lawful quiet no_tick i = inl (take_passes script kept h s p l b is lawful i)
way_stays script kept h (Handle s) l b is lawful quiet no_tick i = handle_passes script kept h s l b is lawful i
way_stays script kept h (Load s) l b is lawful quiet no_tick i = let w = world_after script h in inl (loads_passes (finish_of (w.switches s)) s w l.far_place l.far_port b i)
way_stays script kept h (Move k) l b is lawful quiet no_tick i = inl i
way_stays script kept h (Fail s p) l b is lawful quiet no_tick i = absurd (true≢false quiet)
way_stays script kept h (Repair s p) l b is lawful quiet no_tick i = absurd (true≢false quiet)
way_stays script kept h (Lose s p n) l b is lawful quiet no_tick i = absurd (true≢false quiet)
way_stays script kept h (Again s p n) l b is lawful quiet no_tick i = absurd (true≢false quiet)
way_stays script kept h (Swap s p n) l b is lawful quiet no_tick i = absurd (true≢false quiet)
way_stays script kept h (Noise s p n) l b is lawful quiet no_tick i = absurd (true≢false quiet)
way_stays script kept h (Send x y) l b is lawful quiet no_tick i = absurd (true≢false quiet)
way_stays script kept h (Restart s) l b is lawful quiet no_tick i = absurd (true≢false quiet)

pub way_passes : (script : ScriptOf) → IsScript script → (h : List Event) (e : Event) (l : LinkOf) (b : List ℕ) → IsLinkOf script l → IsCalm script h e → (e ≡ Tick → ⊥) → In b (under_way_to (world_after script h).fabric l.far_place l.far_port) → Passes (world_after script h) e l b
way_passes script kept h e l b is calm no_tick i = way_stays script kept h e l b is calm.lawful (calm_parts script h e calm).0 no_tick i

-- the losses are the last lines of a handling
last_any : {A : Type 0} (q : A → Bool) (a b c d e f : List A) → list_any q (a ++ b ++ c ++ d ++ e ++ f) ≡ false → list_any q f ≡ false
last_any q a b c d e f none = (or_parts (list_any q (a ++ b ++ c ++ d ++ e)) (list_any q f) (sym (list_any-append q (a ++ b ++ c ++ d ++ e) f) ∙ none)).1

handle_lost : (w : WorldOf) (s : ℕ) → loses is_either w (Handle s) ≡ false → list_any (is_lost_by is_either) (lost_lines s (all_spelled (handled s w).frames) (released (station w.fabric s).hand s w.fabric.wires)) ≡ false
unfolding lines_of
handle_lost w s none = last_any (is_lost_by is_either)
    (flat_map (port_line s (note_of (w.switches s)) (note_of (handled s w).switch)) externals)
    (no_frame_lines s (station w.fabric s).hand (held_bytes w.fabric s)) (join_lines s (w.switches s) (handled s w).switch) (no_epoch_lines s (handled s w).switch) (finish_lines s (w.switches s) (handled s w).switch)
    (lost_lines s (all_spelled (handled s w).frames) (released (station w.fabric s).hand s w.fabric.wires)) none

spelled_in : (x : Sent) (xs : List Sent) → In x xs → In (spelled_out x) (all_spelled xs)
spelled_in x [] i = absurd i
spelled_in x (y ∷ ys) (inl is) = inl (ap spelled_out is)
spelled_in x (y ∷ ys) (inr i) = inr (spelled_in x ys i)

-- And what a switch sends on a link that is up comes to be under way.
pub sent_comes : (script : ScriptOf) → IsScript script → (h : List Event) (l : LinkOf) (x : Sent) → IsLinkOf script l → IsCalm script h (Handle l.place) → is_up (world_after script h).fabric l.place l.port ≡ true
    → In x (handled l.place (world_after script h)).frames → x.port ≡ l.port → In (spelling x.frame) (under_way_to (effect (Handle l.place) (world_after script h)).fabric l.far_place l.far_port)
unfolding effect
sent_comes script kept h l x is calm up i port =
    let w = world_after script h in
    let v = released (station w.fabric l.place).hand l.place w.fabric.wires in
    let same = released_links (station w.fabric l.place).hand l.place w.fabric.wires in
    let lost = handle_lost w l.place (calm_parts script h (Handle l.place) calm).1 in
    let size = released_size (station w.fabric l.place).hand l.place w.fabric.wires in
    let at : wire_out v l.place x.port ≡ place l.far_place l.far_port = ap (λ n. wire_out v l.place n) port ∙ ap Rattle.wire_set.specs.WireState.far_place (same.far (place l.place l.port)) ∙ out_is script kept h l is in
    let low = wire_low script kept h l is in
    way_on (effect (Handle l.place) w).fabric l.far_place l.far_port (spelling x.frame)
    (subst (λ n. On n (spelling x.frame) (all_put_out l.place (all_spelled (handled l.place w).frames) v)) at
    (all_out_comes l.place (all_spelled (handled l.place w).frames) (spelled_out x) v (spelled_in x (handled l.place w).frames i)
    (ap (λ n. is_link (side_at v (place l.place n)).far) port ∙ ap is_link (same.far (place l.place l.port)) ∙ side_link script kept h l is)
    (ap (λ n. (side_at v (place l.place n)).is_up) port ∙ same.up (place l.place l.port) ∙ up)
    lost (omega (arith, at, low, size))))
