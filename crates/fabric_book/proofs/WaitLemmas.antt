-- Where no worker has anything to do, the driver does not wait.

use Rattle.std.specs.Prelude.{◌≡◌, ◌-◌, ◌&&◌, ◌<◌, ◌≤◌, ℕ, zero, suc, nat_lt, nat_le, not, List, [], ◌∷◌, find, length, cond, slice_index_or, Option, Some, None, is_some, Bool, true, false, refl}
use Rattle.std.specs.List.{range_with_len}
use Rattle.std.specs.Option.{option_or}
use Rattle.std.proofs.Common.{sym, ◌∙◌, ap, subst, arith, true≢false}
use Rattle.std.proofs.lemmas.Bool.{and_parts, and_from, or_parts, leb-true, lt-ltb, ltb-true}
use Rattle.std.proofs.lemmas.List.FromFn.{get_or-range_with_len}
use Rattle.an_base.specs.declared.event.Event.{Event}
use Rattle.an_base.specs.declared.event.Event.TheVariants.{Tick, Clock, Take, Handle, Load, Fail, Repair, Lose, Again, Swap, Noise, Send, Move, Restart}
use Rattle.net_script.specs.Commands.{is_restart}
use Rattle.net_script.specs.Scripts.{ScriptOf, IsScript}
use Rattle.port_monitor.specs.Histories.{externals}
use Rattle.host_traffic.specs.Packets.{PacketOf, first_packet, packet_of}
use Rattle.net_state.specs.declared.ending.Ending.{Ending}
use Rattle.net_state.specs.declared.work.Work.TheVariants as work
use Rattle.net_state.specs.declared.work.Why.TheVariants as why
use Rattle.net_state.specs.declared.work.Drive.TheVariants as drive
use Rattle.net_state.specs.Fabric.{FabricOf, clock_due_at, due_command, has_frame, is_external, is_full_at, is_some_spent, is_switch, load_due_at, room, samples_of}
use Rattle.net_state.specs.Agree.{ending_of}
use Rattle.net_state.specs.Lawful.{is_barred, is_command, is_handle, is_lawful, is_tick_due}
use Rattle.net_state.specs.Starts.{next_life_at}
use Rattle.net_state.specs.Choices.{command_or_move, drive_by, event_of_work, frame_work, move_or_tick, next_drive, next_port, next_work, port_above, tick_or_wait}
use Rattle.net_world.specs.World.{WorldOf, world_after}
use Rattle.net_world.specs.Solo.{worker_event}
use Rattle.fabric_book.proofs.WorldFacts.{world_script, command_fits, is_due, may_go_on, ready_is, unbarred_is}

-- a list with something is not the empty one
filled : (x : Event) (xs : List Event) → x ∷ xs ≡ [] → ⊥
filled x xs is = let no : length (x ∷ xs) ≡ 0 = ap (length {A = Event}) is in omega (arith, no)

-- What a worker that has nothing to do may not do.
record IsIdle (f : FabricOf) (s last : ℕ) : Type 0 where
  hand : is_full_at f s ≡ false
  rest : is_barred f ≡ false → (load_due_at f s ≡ false) × (event_of_work s (next_work f s last) ≡ [])

idle_is : (w : WorldOf) (s last : ℕ) → worker_event w s last ≡ [] → IsIdle w.fabric s last
idle_is w s last is = by (is_full_at w.fabric s) refl is where
  loads : (b : Bool) → load_due_at w.fabric s ≡ b → cond b (Load s ∷ []) (event_of_work s (next_work w.fabric s last)) ≡ [] → (load_due_at w.fabric s ≡ false) × (event_of_work s (next_work w.fabric s last) ≡ [])
  loads true due none = absurd (filled (Load s) [] none)
  loads false due none = (due, none)

  unbarred : (b : Bool) → b ≡ false → cond b [] (cond (load_due_at w.fabric s) (Load s ∷ []) (event_of_work s (next_work w.fabric s last))) ≡ []
      → (load_due_at w.fabric s ≡ false) × (event_of_work s (next_work w.fabric s last) ≡ [])
  unbarred true free none = absurd (true≢false free)
  unbarred false free none = loads (load_due_at w.fabric s) refl none

  by : (b : Bool) → is_full_at w.fabric s ≡ b → cond b (Handle s ∷ []) (cond (is_barred w.fabric) [] (cond (load_due_at w.fabric s) (Load s ∷ []) (event_of_work s (next_work w.fabric s last)))) ≡ [] → IsIdle w.fabric s last
  by true full none = absurd (filled (Handle s) [] none)
  by false empty none = record { hand = empty; rest = λ free. unbarred (is_barred w.fabric) free none }

-- and its next work is nothing: no restart, no clock and no frame
record HasNoWork (f : FabricOf) (s last : ℕ) : Type 0 where
  restart : is_command f (Restart s) ≡ false
  clock : clock_due_at f s ≡ false
  frame : next_port f s last ≡ None

framed : (f : FabricOf) (s last : ℕ) (o : Option ℕ) → next_port f s last ≡ o → event_of_work s (frame_work o) ≡ [] → next_port f s last ≡ None
framed f s last None is none = is
framed f s last (Some port) is none = absurd (filled (Take s port) [] none)

no_work : (f : FabricOf) (s last : ℕ) → is_barred f ≡ false → event_of_work s (next_work f s last) ≡ [] → HasNoWork f s last
no_work f s last free none = by (is_some_spent f) (nat_lt (room f) 2) (is_command f (Restart s)) (clock_due_at f s) (or_parts (is_some_spent f) (nat_lt (room f) 2) free).0 (or_parts (is_some_spent f) (nat_lt (room f) 2) free).1 refl refl none where
  by : (spent full restart due : Bool) → spent ≡ false → full ≡ false → is_command f (Restart s) ≡ restart → clock_due_at f s ≡ due
      → event_of_work s (cond spent (work.Nothing why.Spent) (cond full (work.Nothing why.Full) (cond restart (work.Restart (next_life_at f s)) (cond due (work.Clock f.tick (samples_of f s)) (frame_work (next_port f s last)))))) ≡ []
      → HasNoWork f s last
  by true full restart due unspent roomy ri di is = absurd (true≢false unspent)
  by false true restart due unspent roomy ri di is = absurd (true≢false roomy)
  by false false true due unspent roomy ri di is = absurd (filled (Restart s) [] is)
  by false false false true unspent roomy ri di is = absurd (filled (Clock s) [] is)
  by false false false false unspent roomy ri di is = record { restart = ri; clock = di; frame = framed f s last (next_port f s last) refl is }

-- no port has a frame
not_found : {X : Type 0} (p : X → Bool) (xs : List X) (d : X) → find p xs ≡ None → (i : ℕ) → i < length xs → p (slice_index_or xs i d) ≡ false
not_found p [] d none i below = absurd (omega (arith, below))
not_found p (x ∷ xs) d none i below = by (p x) refl none (not_found p xs d) i below where
  by : (b : Bool) → p x ≡ b → cond b (Some x) (find p xs) ≡ None → (find p xs ≡ None → (j : ℕ) → j < length xs → p (slice_index_or xs j d) ≡ false) → (j : ℕ) → j < length (x ∷ xs) → p (slice_index_or (x ∷ xs) j d) ≡ false
  by true passes found rest j low = cc
  by false fails gone rest zero low = fails
  by false fails gone rest (suc j) low = rest gone j (omega (arith, low))

or_none : (a b : Option ℕ) → option_or a b ≡ None → b ≡ None
or_none None b is = is
or_none (Some x) b is = absurd (true≢false (ap (λ (o : Option ℕ). is_some o) is))

no_frame : (f : FabricOf) (s last port : ℕ) → next_port f s last ≡ None → is_external port ≡ true → has_frame f s port ≡ true → ⊥
no_frame f s last port none external frame =
    let parts = and_parts (nat_le 1 port) (nat_le port 12) external in
    let least : 1 ≤ port = leb-true 1 port parts.0 in
    let most : port ≤ 12 = leb-true port 12 parts.1 in
    let at : slice_index_or (range_with_len 1 12) (port - 1) 0 ≡ port = get_or-range_with_len 1 12 (port - 1) 0 (omega (arith, least, most)) ∙ omega (arith, least) in
    let here : slice_index_or externals (port - 1) 0 ≡ port = at in
    let fails : (nat_lt 0 (slice_index_or externals (port - 1) 0) && has_frame f s (slice_index_or externals (port - 1) 0)) ≡ false =
    not_found (λ p. nat_lt 0 p && has_frame f s p) externals 0 (or_none (port_above f s last) (port_above f s 0) none) (port - 1) (omega (arith, least, most)) in
    true≢false (sym (and_from (nat_lt 0 port) (has_frame f s port) (lt-ltb 0 port (omega (arith, least))) frame) ∙ sym (ap (λ p. nat_lt 0 p && has_frame f s p) here) ∙ fails)

-- What the driver may not do where it waits.
record IsWaiting (f : FabricOf) : Type 0 where
  tick : is_tick_due f ≡ false
  packet : first_packet f.packets ≡ None
  command : (e : Event) → due_command f ≡ Some e → is_restart e ≡ true

tick_waits : (b : Bool) → tick_or_wait b ≡ drive.Waits → b ≡ false
tick_waits true is = cc
tick_waits false is = refl

move_waits : (f : FabricOf) (o : Option ℕ) → first_packet f.packets ≡ o → move_or_tick o f ≡ drive.Waits → (is_tick_due f ≡ false) × (first_packet f.packets ≡ None)
move_waits f None none is = (tick_waits (is_tick_due f) is, none)
move_waits f (Some k) some is = cc

record IsNone (f : FabricOf) (o : Option Event) : Type 0 where
  tick : is_tick_due f ≡ false
  packet : first_packet f.packets ≡ None
  command : (e : Event) → o ≡ Some e → is_restart e ≡ true

command_waits : (f : FabricOf) (o : Option Event) → command_or_move o f ≡ drive.Waits → IsNone f o
command_waits f None is =
    let rest = move_waits f (first_packet f.packets) refl is in
    record { tick = rest.0; packet = rest.1; command = λ e (no : None ≡ Some e). absurd (true≢false (sym (ap (λ (o : Option Event). is_some o) no))) }
command_waits f (Some event) is = by (is_restart event) refl is where
  by : (b : Bool) → is_restart event ≡ b → cond b (move_or_tick (first_packet f.packets) f) (drive.Did event) ≡ drive.Waits → IsNone f (Some event)
  by true restart waits =
      let rest = move_waits f (first_packet f.packets) refl waits in
      record { tick = rest.0; packet = rest.1; command = λ e (same : Some event ≡ Some e). let eq : event ≡ e = cc in ap is_restart (sym eq) ∙ restart }
  by false other waits = cc

waits_is : (f : FabricOf) → is_barred f ≡ false → ending_of f ≡ None → next_drive f ≡ drive.Waits → IsWaiting f
waits_is f free goes is =
    let on : drive_by None f ≡ drive.Waits = ap (λ o. drive_by o f) (sym goes) ∙ is in
    let none = command_waits f (due_command f) (ap (λ b. cond b drive.Waits (command_or_move (due_command f) f)) (sym free) ∙ on) in
    record { tick = none.tick; packet = none.packet; command = none.command }

goes_is : (f : FabricOf) → next_drive f ≡ drive.Waits → ending_of f ≡ None
goes_is f is = by (ending_of f) refl is where
  by : (o : Option Ending) → ending_of f ≡ o → drive_by o f ≡ drive.Waits → ending_of f ≡ None
  by None none waits = none
  by (Some end) some waits = cc

no_packets : (xs : List PacketOf) (k : ℕ) → first_packet xs ≡ None → is_some (packet_of k xs) ≡ true → ⊥
no_packets [] k none some = true≢false (sym some)
no_packets (x ∷ xs) k none some = true≢false (ap (λ (o : Option ℕ). is_some o) none)

-- No event may come then
module _ (script : ScriptOf) (kept : IsScript script) (h : List Event) (last : ℕ → ℕ)
    (idle : (s : ℕ) → s < length script.wires.switches → worker_event (world_after script h) s (last s) ≡ [])
    (waits : next_drive (world_after script h).fabric ≡ drive.Waits) where
  here_below : (s : ℕ) → is_switch (world_after script h).fabric s ≡ true → s < length script.wires.switches
  here_below s is = subst (λ (x : ScriptOf). s < length x.wires.switches) (world_script script h) (ltb-true s (length (world_after script h).fabric.script.wires.switches) is)

  idle_at : (s : ℕ) → s < length script.wires.switches → IsIdle (world_after script h).fabric s (last s)
  idle_at s below = idle_is (world_after script h) s (last s) (idle s below)

  resting : (e : Event) → is_lawful (world_after script h).fabric e ≡ true → is_handle e ≡ false → IsWaiting (world_after script h).fabric
  resting e lawful other = let f = (world_after script h).fabric in waits_is f (unbarred_is f e lawful other) (goes_is f waits) waits

  workless : (e : Event) → is_lawful (world_after script h).fabric e ≡ true → is_handle e ≡ false → (s : ℕ) → s < length script.wires.switches → HasNoWork (world_after script h).fabric s (last s)
  workless e lawful other s below =
      let f = (world_after script h).fabric in
      let free = unbarred_is f e lawful other in
      no_work f s (last s) free ((idle_at s below).rest free).1

  commanded : (e : Event) → is_lawful (world_after script h).fabric e ≡ true → is_handle e ≡ false → is_restart e ≡ false → is_command (world_after script h).fabric e ≡ true → ⊥
  commanded e lawful other plain command = true≢false (sym ((resting e lawful other).command e (is_due (world_after script h).fabric e command)) ∙ plain)

  none_may_come : (e : Event) → is_lawful (world_after script h).fabric e ≡ true → ⊥
  none_may_come Tick lawful = true≢false (sym (ready_is (world_after script h).fabric Tick lawful) ∙ (resting Tick lawful refl).tick)
  none_may_come (Move k) lawful = no_packets (world_after script h).fabric.packets k (resting (Move k) lawful refl).packet (ready_is (world_after script h).fabric (Move k) lawful)
  none_may_come (Handle s) lawful =
      let f = (world_after script h).fabric in
      let ready = and_parts (is_switch f s) (is_full_at f s) (ready_is f (Handle s) lawful) in
      true≢false (sym ready.1 ∙ (idle_at s (here_below s ready.0)).hand)
  none_may_come (Clock s) lawful =
      let f = (world_after script h).fabric in
      let ready = and_parts (is_switch f s && not (is_full_at f s)) (clock_due_at f s) (ready_is f (Clock s) lawful) in
      let place = and_parts (is_switch f s) (not (is_full_at f s)) ready.0 in
      true≢false (sym ready.1 ∙ (workless (Clock s) lawful refl s (here_below s place.0)).clock)
  none_may_come (Load s) lawful =
      let f = (world_after script h).fabric in
      let ready = and_parts (is_switch f s && not (is_full_at f s)) (load_due_at f s) (ready_is f (Load s) lawful) in
      let place = and_parts (is_switch f s) (not (is_full_at f s)) ready.0 in
      true≢false (sym ready.1 ∙ ((idle_at s (here_below s place.0)).rest (unbarred_is f (Load s) lawful refl)).0)
  none_may_come (Take s p) lawful =
      let f = (world_after script h).fabric in
      let p1 = and_parts (is_switch f s && is_external p && not (is_full_at f s) && not (clock_due_at f s)) (has_frame f s p) (ready_is f (Take s p) lawful) in
      let p2 = and_parts (is_switch f s && is_external p && not (is_full_at f s)) (not (clock_due_at f s)) p1.0 in
      let p3 = and_parts (is_switch f s && is_external p) (not (is_full_at f s)) p2.0 in
      let p4 = and_parts (is_switch f s) (is_external p) p3.0 in
      no_frame f s (last s) p (workless (Take s p) lawful refl s (here_below s p4.0)).frame p4.1 p1.1
  none_may_come (Restart s) lawful =
      let f = (world_after script h).fabric in
      let command = (and_parts (is_command f (Restart s)) (not (is_full_at f s)) (ready_is f (Restart s) lawful)).0 in
      let below : s < length script.wires.switches = subst (λ (x : ScriptOf). s < length x.wires.switches) (world_script script h) (command_fits f (Restart s) (subst IsScript (sym (world_script script h)) kept) command) in
      true≢false (sym command ∙ (workless (Restart s) lawful refl s below).restart)
  none_may_come (Fail s p) lawful = commanded (Fail s p) lawful refl refl (ready_is (world_after script h).fabric (Fail s p) lawful)
  none_may_come (Repair s p) lawful = commanded (Repair s p) lawful refl refl (ready_is (world_after script h).fabric (Repair s p) lawful)
  none_may_come (Lose s p n) lawful = commanded (Lose s p n) lawful refl refl (ready_is (world_after script h).fabric (Lose s p n) lawful)
  none_may_come (Again s p n) lawful = commanded (Again s p n) lawful refl refl (ready_is (world_after script h).fabric (Again s p n) lawful)
  none_may_come (Swap s p n) lawful = commanded (Swap s p n) lawful refl refl (ready_is (world_after script h).fabric (Swap s p n) lawful)
  none_may_come (Noise s p n) lawful = commanded (Noise s p n) lawful refl refl (ready_is (world_after script h).fabric (Noise s p n) lawful)
  none_may_come (Send a b) lawful = commanded (Send a b) lawful refl refl (ready_is (world_after script h).fabric (Send a b) lawful)

  pub stuck : ⊥
  stuck =
      let f = (world_after script h).fabric in
      let next = may_go_on script kept h (ap (λ (o : Option Ending). is_some o) (goes_is f waits)) in
      none_may_come next.event next.lawful
