-- Where no end has come some event may come next.

use Rattle.std.specs.Prelude.{◌≡◌, ◌==◌, ◌&&◌, ◌||◌, ◌<◌, ℕ, nat_lt, not, List, [], ◌∷◌, length, cond, slice_index_or, Option, Some, None, is_some, Bool, true, false, refl}
use Rattle.std.specs.List.{list_any, sum_by}
use Rattle.std.specs.List.{AllByRecursion as ByRecursion}
use Rattle.std.proofs.Common.{sym, ◌∙◌, ap, subst, arith, true≢false}
use Rattle.std.proofs.lemmas.Bool.{and_from, or_parts, not-false, ltb-true, lt-ltb, eqb-false}
use Rattle.std.proofs.lemmas.List.Folds.{list_any_at}
use Rattle.std.proofs.lemmas.List.Sums.{sum_by-cons}
use Rattle.std.proofs.lemmas.List.FromFn.{get_or-range_with_len, length-range_with_len}
use Rattle.an_base.specs.declared.event.Event.{Event}
use Rattle.an_base.specs.declared.event.Event.TheVariants.{Tick, Clock, Take, Handle, Load, Move}
use Rattle.net_script.specs.Scripts.{ScriptOf, IsScript}
use Rattle.port_monitor.specs.Histories.{externals}
use Rattle.net_state.specs.declared.hand.Hand.{Hand}
use Rattle.host_traffic.specs.Packets.{PacketOf, first_packet}
use Rattle.net_state.specs.Fabric.{FabricOf, StationOf, vacant, count, places, is_external, full_hands, due_command, are_wires_empty, is_clock_due, has_frame, has_frame_for, is_empty, is_full_at, is_some_clock_due, is_some_load_due, is_some_packet}
use Rattle.net_state.specs.Agree.{ending_of, is_unsettled}
use Rattle.net_state.specs.Lawful.{is_tick_due, is_paced}
use Rattle.net_world.specs.World.{world_after}
use Rattle.net_world.proofs.InductionLemmas.{world_script}
use Rattle.net_world.proofs.CommandLemmas.{command_fits}
use Rattle.net_state.proofs.LawfulLemmas.{open_unbarred, command_is}
use Rattle.net_state.proofs.ReadyLemmas.{all_empty}
use Rattle.net_world.proofs.PlaceLemmas.{world_size}
use Rattle.net_world.specs.Sound.{HasNext}
use Rattle.net_world.proofs.FabricLemmas.{world_fits}
use Rattle.net_state.proofs.EndLemmas.{any_at, IsGoingOn, going_on, due_is_command}
use Rattle.net_world.proofs.NextLemmas.{open_next, handle_is_lawful, load_is_lawful, clock_is_lawful, take_is_lawful, externals_are, packet_here, command_ready}

none_at : {X : Type 0} (p : X → Bool) (xs : List X) (i : ℕ) (d : X) → list_any p xs ≡ false → i < length xs → p (slice_index_or xs i d) ≡ false
none_at p xs i d none below = by (p (slice_index_or xs i d)) refl where
  by : (b : Bool) → p (slice_index_or xs i d) ≡ b → p (slice_index_or xs i d) ≡ false
  by false is = is
  by true is = absurd (true≢false (sym (list_any_at p xs i d below is) ∙ none))

pub record IsFound {X : Type 0} (P : X → Type 0) (p : X → Bool) : Type 0 where
  pub it : X
  pub has : P it
  pub passes : p it ≡ true

any_in : {X : Type 0} (P : X → Type 0) (p : X → Bool) (xs : List X) → ByRecursion P xs → list_any p xs ≡ true → IsFound P p
any_in P p [] all some = absurd (true≢false (sym some))
any_in P p (x ∷ xs) all some = by (p x) refl (any_in P p xs all.1) where
  by : (b : Bool) → p x ≡ b → (list_any p xs ≡ true → IsFound P p) → IsFound P p
  by true is rest = record { it = x; has = all.0; passes = is }
  by false is rest = rest (sym (ap (λ b. b || list_any p xs) is) ∙ some)

abbrev one : Bool → ℕ
one b = cond b 1 0

none_full : (xs : List StationOf) → list_any (λ (x : StationOf). not (is_empty x.hand)) xs ≡ false → sum_by (λ (x : StationOf). cond (not (is_empty x.hand)) 1 0) xs ≡ 0
none_full [] none = refl
none_full (x ∷ xs) none =
    let parts = or_parts (not (is_empty x.hand)) (list_any (λ (y : StationOf). not (is_empty y.hand)) xs) none in
    let here : one (not (is_empty x.hand)) ≡ 0 = ap one parts.0 in
    let there = none_full xs parts.1 in
    sum_by-cons (λ (y : StationOf). one (not (is_empty y.hand))) x xs ∙ omega (arith, here, there)

-- Where no hand is full the first of these may come: a clock, a load, a frame, a packet, a command, a tick
station_below : (script : ScriptOf) (h : List Event) (s : ℕ) → s < length (world_after script h).fabric.stations → s < length script.wires.switches
station_below script h s below = subst (λ (n : ℕ). s < n) (world_size script h) below

tick_due : (script : ScriptOf) → IsScript script → (h : List Event) → full_hands (world_after script h).fabric ≡ 0 → is_unsettled (world_after script h).fabric ≡ false → is_some (due_command (world_after script h).fabric) ≡ false
    → is_some_packet (world_after script h).fabric ≡ false → is_some_clock_due (world_after script h).fabric ≡ false → is_some_load_due (world_after script h).fabric ≡ false → are_wires_empty (world_after script h).fabric ≡ true
    → is_tick_due (world_after script h).fabric ≡ true
tick_due script kept h none unsettled due packet clock load empty =
    let f = (world_after script h).fabric in
    let ticks = (world_fits script kept h).time.ticks in
    let other : (f.tick == f.script.limits.ticks) ≡ false = unsettled_at (f.tick == f.script.limits.ticks) (is_some (due_command f)) (is_some_packet f) (is_some_clock_due f) (is_some_load_due f) (are_wires_empty f) due packet clock load empty unsettled in
    let differ = eqb-false f.tick f.script.limits.ticks other in
    let later : nat_lt f.tick f.script.limits.ticks ≡ true = lt-ltb f.tick f.script.limits.ticks (omega (arith, ticks, differ)) in
    let no_hand : nat_lt 0 (full_hands f) ≡ false = ap (nat_lt 0) none in
    all_of (is_some (due_command f)) (is_some_packet f) (nat_lt 0 (full_hands f)) (is_some_clock_due f) (nat_lt f.tick f.script.limits.ticks) (are_wires_empty f) (is_some_load_due f) (is_paced f.script.pace f.since) due packet no_hand clock later empty load
  where
    unsettled_at : (a due packet clock load wires : Bool) → due ≡ false → packet ≡ false → clock ≡ false → load ≡ false → wires ≡ true → (a && not due && (not packet && not clock && not load && wires)) ≡ false → a ≡ false
    unsettled_at false due packet clock load wires i1 i2 i3 i4 i5 is = refl
    unsettled_at true due packet clock load wires i1 i2 i3 i4 i5 is =
        absurd (true≢false (sym (and_from (not due) (not packet && not clock && not load && wires) (ap not i1) (and_from (not packet && not clock && not load) wires (and_from (not packet && not clock) (not load) (and_from (not packet) (not clock) (ap not i2) (ap not i3)) (ap not i4)) i5)) ∙ is))

    all_of : (due packet hand clock later wires load paced : Bool) → due ≡ false → packet ≡ false → hand ≡ false → clock ≡ false → later ≡ true → wires ≡ true → load ≡ false
        → (not due && not packet && not hand && not clock && later && ((wires && not load) || paced)) ≡ true
    all_of due packet hand clock later wires load paced i1 i2 i3 i4 i5 i6 i7 =
        and_from (not due && not packet && not hand && not clock && later) ((wires && not load) || paced)
        (and_from (not due && not packet && not hand && not clock) later (and_from (not due && not packet && not hand) (not clock) (and_from (not due && not packet) (not hand) (and_from (not due) (not packet) (ap not i1) (ap not i2)) (ap not i3)) (ap not i4)) i5)
        (ap (λ b. b || paced) (and_from wires (not load) i6 (ap not i7)))

packets_first : (xs : List PacketOf) → nat_lt 0 (length xs) ≡ true → IsFound (λ (k : ℕ). first_packet xs ≡ Some k) (λ k. true)
packets_first [] some = absurd (let lt = ltb-true 0 0 some in omega (arith, lt))
packets_first (x ∷ xs) some = record { it = x.packet; has = refl; passes = refl }

empty_all : (f : FabricOf) → full_hands f ≡ 0 → (s : ℕ) → is_full_at f s ≡ false
empty_all f none s = ap (λ (x : Hand). not (is_empty x)) (all_empty f none s)

no_packet : (script : ScriptOf) → IsScript script → (h : List Event) → full_hands (world_after script h).fabric ≡ 0 → is_some (ending_of (world_after script h).fabric) ≡ false → IsGoingOn (world_after script h).fabric
    → is_some_clock_due (world_after script h).fabric ≡ false → is_some_load_due (world_after script h).fabric ≡ false → are_wires_empty (world_after script h).fabric ≡ true → is_some_packet (world_after script h).fabric ≡ false
    → HasNext (world_after script h).fabric
no_packet script kept h none goes g clock load wires packet = by (due_command (world_after script h).fabric) refl where
  by : (o : Option Event) → due_command (world_after script h).fabric ≡ o → HasNext (world_after script h).fabric
  by (Some e) is =
      let f = (world_after script h).fabric in
      let command = due_is_command f e is in
      record { event = e; lawful = open_next f e g.open_for goes (command_ready script f e (command_fits script h e kept (command_is f e command)) (λ restart s. empty_all f none s) command) }
  by None is =
      let f = (world_after script h).fabric in
      record { event = Tick; lawful = open_next f Tick g.open_for goes (tick_due script kept h none g.unsettled (ap is_some is) packet clock load wires) }

no_frame : (script : ScriptOf) → IsScript script → (h : List Event) → full_hands (world_after script h).fabric ≡ 0 → is_some (ending_of (world_after script h).fabric) ≡ false → IsGoingOn (world_after script h).fabric
    → is_some_clock_due (world_after script h).fabric ≡ false → is_some_load_due (world_after script h).fabric ≡ false → are_wires_empty (world_after script h).fabric ≡ true → HasNext (world_after script h).fabric
no_frame script kept h none goes g clock load wires = by (is_some_packet (world_after script h).fabric) refl where
  by : (b : Bool) → is_some_packet (world_after script h).fabric ≡ b → HasNext (world_after script h).fabric
  by true is =
      let f = (world_after script h).fabric in
      let first = packets_first f.packets is in
      record { event = Move first.it; lawful = open_next f (Move first.it) g.open_for goes (packet_here f.packets first.it first.has) }
  by false is = no_packet script kept h none goes g clock load wires is

no_load : (script : ScriptOf) → IsScript script → (h : List Event) → full_hands (world_after script h).fabric ≡ 0 → is_some (ending_of (world_after script h).fabric) ≡ false → IsGoingOn (world_after script h).fabric
    → is_some_clock_due (world_after script h).fabric ≡ false → is_some_load_due (world_after script h).fabric ≡ false → HasNext (world_after script h).fabric
no_load script kept h none goes g clock load = by (are_wires_empty (world_after script h).fabric) refl where
  by : (b : Bool) → are_wires_empty (world_after script h).fabric ≡ b → HasNext (world_after script h).fabric
  by true is = no_frame script kept h none goes g clock load is
  by false is =
      let f = (world_after script h).fabric in
      let found = any_at (has_frame_for f) (places f) 0 (not-false (list_any (has_frame_for f) (places f)) is) in
      let s = found.at in
      let found_below = found.below in
      let length_is : length (places f) ≡ count f = length-range_with_len 0 (count f) in
      let size : count f ≡ length script.wires.switches = ap (λ (x : ScriptOf). length x.wires.switches) (world_script script h) in
      let is_below : s < count f = omega (arith, found_below, length_is) in
      let below : s < length script.wires.switches = omega (arith, is_below, size) in
      let at : slice_index_or (places f) s 0 ≡ s = get_or-range_with_len 0 (count f) s 0 is_below ∙ omega arith in
      let some : has_frame_for f s ≡ true = ap (has_frame_for f) (sym at) ∙ found.passes in
      let port = any_in (λ p. is_external p ≡ true) (has_frame f s) externals externals_are some in
      let stations = world_size script h in
      record {
        event = Take s port.it;
        lawful = take_is_lawful script h s port.it below g.open_for (empty_all f none s) (none_at (is_clock_due f) f.stations s vacant clock (omega (arith, below, stations))) port.has port.passes some;
      }

no_clock : (script : ScriptOf) → IsScript script → (h : List Event) → full_hands (world_after script h).fabric ≡ 0 → is_some (ending_of (world_after script h).fabric) ≡ false → IsGoingOn (world_after script h).fabric
    → is_some_clock_due (world_after script h).fabric ≡ false → HasNext (world_after script h).fabric
no_clock script kept h none goes g clock = by (is_some_load_due (world_after script h).fabric) refl where
  by : (b : Bool) → is_some_load_due (world_after script h).fabric ≡ b → HasNext (world_after script h).fabric
  by true is =
      let f = (world_after script h).fabric in
      let found = any_at (λ (x : StationOf). x.note.load_due) f.stations vacant is in
      record { event = Load found.at; lawful = load_is_lawful script h found.at (station_below script h found.at found.below) (open_unbarred f g.open_for) (empty_all f none found.at) found.passes }
  by false is = no_load script kept h none goes g clock is

no_hand : (script : ScriptOf) → IsScript script → (h : List Event) → full_hands (world_after script h).fabric ≡ 0 → is_some (ending_of (world_after script h).fabric) ≡ false → HasNext (world_after script h).fabric
no_hand script kept h none goes = by (is_some_clock_due (world_after script h).fabric) refl (going_on (world_after script h).fabric none goes) where
  by : (b : Bool) → is_some_clock_due (world_after script h).fabric ≡ b → IsGoingOn (world_after script h).fabric → HasNext (world_after script h).fabric
  by true is g =
      let f = (world_after script h).fabric in
      let found = any_at (is_clock_due f) f.stations vacant is in
      record { event = Clock found.at; lawful = clock_is_lawful script h found.at (station_below script h found.at found.below) g.open_for (empty_all f none found.at) found.passes }
  by false is g = no_clock script kept h none goes g is

-- Where no end has come some event may come next
pub progress : (script : ScriptOf) → IsScript script → (h : List Event) → is_some (ending_of (world_after script h).fabric) ≡ false → HasNext (world_after script h).fabric
progress script kept h goes = by (list_any (λ (x : StationOf). not (is_empty x.hand)) (world_after script h).fabric.stations) refl where
  by : (b : Bool) → list_any (λ (x : StationOf). not (is_empty x.hand)) (world_after script h).fabric.stations ≡ b → HasNext (world_after script h).fabric
  by true is =
      let f = (world_after script h).fabric in
      let found = any_at (λ (x : StationOf). not (is_empty x.hand)) f.stations vacant is in
      record { event = Handle found.at; lawful = handle_is_lawful script h found.at (station_below script h found.at found.below) found.passes }
  by false is = no_hand script kept h (none_full (world_after script h).fabric.stations is) goes
