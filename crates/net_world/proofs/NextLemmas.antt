-- What a turn appends is lawful.

use Rattle.std.specs.Prelude.{◌≡◌, ◌&&◌, ◌||◌, ◌<◌, ℕ, nat_lt, not, List, [], ◌∷◌, All, length, cond, find, slice_index_or, Option, Some, None, is_some, unwrap_or, Bool, true, false, refl}
use Rattle.std.specs.List.{list_any}
use Rattle.std.specs.List.{AllByRecursion as ByRecursion}
use Rattle.std.specs.Option.{option_or}
use Rattle.std.proofs.Common.{sym, ◌∙◌, ap, subst, arith, true≢false, eq-eqb}
use Rattle.std.proofs.lemmas.Bool.{and_parts, and_from, ltb-false, lt-ltb, not_from_false}
use Rattle.std.proofs.lemmas.List.Folds.{list_any_at}
use Rattle.std.proofs.lemmas.List.FromFn.{get_or-range_with_len, length-range_with_len}
use Rattle.std.proofs.lemmas.List.Elements.{All-nil, All-cons}
use Rattle.an_base.specs.declared.event.Event.{Event}
use Rattle.an_base.specs.declared.event.Event.TheVariants.{Tick, Clock, Take, Handle, Load, Fail, Repair, Lose, Again, Swap, Noise, Send, Move, Restart}
use Rattle.net_script.specs.Commands.{IsCommandEvent, is_restart}
use Rattle.net_script.specs.Scripts.{ScriptOf, IsScript}
use Rattle.port_monitor.specs.Histories.{externals}
use Rattle.net_state.specs.declared.ending.Ending.{Ending}
use Rattle.net_state.specs.declared.work.Work.{Work}
use Rattle.net_state.specs.declared.work.Work.TheVariants as work
use Rattle.net_state.specs.declared.work.Why.TheVariants as why
use Rattle.net_state.specs.declared.work.Drive.TheVariants as drive
use Rattle.host_traffic.specs.Packets.{PacketOf, packet_of, first_packet}
use Rattle.net_state.specs.Fabric.{FabricOf, StationOf, vacant, count, places, is_switch, is_external, room, due_command, are_wires_empty, is_clock_due, clock_due_at, load_due_at, has_frame, has_frame_for, is_full_at, is_some_spent, samples_of}
use Rattle.net_state.specs.Agree.{ending_of}
use Rattle.net_state.specs.Lawful.{is_lawful, is_handle, is_barred, is_ready, is_command, is_tick_due}
use Rattle.net_state.specs.Starts.{next_life_at}
use Rattle.net_world.specs.World.{world_after}
use Rattle.net_state.specs.Choices.{port_above, next_port, frame_work, next_work, event_of_work, tick_or_wait, move_or_tick, command_or_move, drive_by, next_drive, event_of_drive}
use Rattle.net_world.proofs.InductionLemmas.{world_script}
use Rattle.net_world.proofs.CommandLemmas.{command_fits}
use Rattle.net_state.proofs.LawfulLemmas.{next_is_lawful, IsOpen, unbarred_is, open_unbarred, command_is}
use Rattle.net_world.proofs.PlaceLemmas.{below_station}
use Rattle.net_state.proofs.EndLemmas.{busy_no_end, clock_busy, load_busy, wires_busy, due_no_end, full_some, full_no_end, due_is_command, command_is_due}

-- what may come next
pub open_next : (f : FabricOf) (e : Event) → IsOpen f → is_some (ending_of f) ≡ false → is_ready f e ≡ true → is_lawful f e ≡ true
open_next f e o goes ready = next_is_lawful f e (record { goes_on = goes; allowed = by (is_handle e) (is_barred f) (open_unbarred f o); ready = ready }) where
  by : (b c : Bool) → c ≡ false → (b || not c) ≡ true
  by true true is = refl
  by true false is = refl
  by false true is = absurd (true≢false is)
  by false false is = refl

switch_is : (script : ScriptOf) (h : List Event) (s : ℕ) → s < length script.wires.switches → is_switch (world_after script h).fabric s ≡ true
switch_is script h s below = ap (λ (x : ScriptOf). nat_lt s (length x.wires.switches)) (world_script script h) ∙ lt-ltb s (length script.wires.switches) below

-- what is in hand may be handled
pub handle_is_lawful : (script : ScriptOf) (h : List Event) (s : ℕ) → s < length script.wires.switches → is_full_at (world_after script h).fabric s ≡ true → is_lawful (world_after script h).fabric (Handle s) ≡ true
handle_is_lawful script h s below full =
    let f = (world_after script h).fabric in
    next_is_lawful f (Handle s) (record { goes_on = full_no_end f (full_some f s (below_station script h s below) full); allowed = refl; ready = and_from (is_switch f s) (is_full_at f s) (switch_is script h s below) full })

-- a table that is due may be loaded
pub load_is_lawful : (script : ScriptOf) (h : List Event) (s : ℕ) → s < length script.wires.switches → is_barred (world_after script h).fabric ≡ false → is_full_at (world_after script h).fabric s ≡ false
    → load_due_at (world_after script h).fabric s ≡ true → is_lawful (world_after script h).fabric (Load s) ≡ true
load_is_lawful script h s below unbarred empty due =
    let f = (world_after script h).fabric in
    let o = unbarred_is f unbarred in
    open_next f (Load s) o (busy_no_end f o (load_busy f (list_any_at (λ (x : StationOf). x.note.load_due) f.stations s vacant (below_station script h s below) due)))
    (and_from (is_switch f s && not (is_full_at f s)) (load_due_at f s) (and_from (is_switch f s) (not (is_full_at f s)) (switch_is script h s below) (not_from_false (is_full_at f s) empty)) due)

-- so may a clock that is due be taken
pub clock_is_lawful : (script : ScriptOf) (h : List Event) (s : ℕ) → s < length script.wires.switches → IsOpen (world_after script h).fabric → is_full_at (world_after script h).fabric s ≡ false
    → clock_due_at (world_after script h).fabric s ≡ true → is_lawful (world_after script h).fabric (Clock s) ≡ true
clock_is_lawful script h s below o empty due =
    let f = (world_after script h).fabric in
    open_next f (Clock s) o (busy_no_end f o (clock_busy f (list_any_at (is_clock_due f) f.stations s vacant (below_station script h s below) due)))
    (and_from (is_switch f s && not (is_full_at f s)) (clock_due_at f s) (and_from (is_switch f s) (not (is_full_at f s)) (switch_is script h s below) (not_from_false (is_full_at f s) empty)) due)

-- and a frame
pub externals_are : ByRecursion (λ p. is_external p ≡ true) externals
externals_are = (refl, (refl, (refl, (refl, (refl, (refl, (refl, (refl, (refl, (refl, (refl, (refl, tt))))))))))))

pub found_in : {X : Type 0} (P : X → Type 0) (p : X → Bool) (xs : List X) (x : X) → ByRecursion P xs → find p xs ≡ Some x → P x × (p x ≡ true) × (list_any p xs ≡ true)
found_in P p [] x all is = absurd (true≢false (sym (ap is_some is)))
found_in P p (y ∷ ys) x all is = by (p y) refl (found_in P p ys x all.1) where
  by : (b : Bool) → p y ≡ b → (find p ys ≡ Some x → P x × (p x ≡ true) × (list_any p ys ≡ true)) → P x × (p x ≡ true) × (list_any p (y ∷ ys) ≡ true)
  by true passes rest =
      let same : y ≡ x = ap (λ o. unwrap_or o y) (sym (ap (λ c. cond c (Some y) (find p ys)) passes) ∙ is) in
      (subst P same all.0, ap p (sym same) ∙ passes, ap (λ c. c || list_any p ys) passes)
  by false fails rest =
      let r = rest (sym (ap (λ c. cond c (Some y) (find p ys)) fails) ∙ is) in
      (r.0, r.1, ap (λ c. c || list_any p ys) fails ∙ r.2)

record IsPort (f : FabricOf) (s p : ℕ) : Type 0 where
  external : is_external p ≡ true
  frame : has_frame f s p ≡ true
  some : has_frame_for f s ≡ true

weaker : (f : FabricOf) (s last : ℕ) (xs : List ℕ) → list_any (λ p. nat_lt last p && has_frame f s p) xs ≡ true → list_any (has_frame f s) xs ≡ true
weaker f s last [] is = is
weaker f s last (x ∷ xs) is = by (nat_lt last x) (has_frame f s x) (list_any (λ p. nat_lt last p && has_frame f s p) xs) (list_any (has_frame f s) xs) (weaker f s last xs) is where
  by : (a b c d : Bool) → (c ≡ true → d ≡ true) → ((a && b) || c) ≡ true → (b || d) ≡ true
  by a true c d rest some = refl
  by true false c d rest some = rest some
  by false false c d rest some = rest some

above_is : (f : FabricOf) (s last port : ℕ) → port_above f s last ≡ Some port → IsPort f s port
above_is f s last port is =
    let r = found_in (λ p. is_external p ≡ true) (λ p. nat_lt last p && has_frame f s p) externals port externals_are is in
    record { external = r.0; frame = (and_parts (nat_lt last port) (has_frame f s port) r.1).1; some = weaker f s last externals r.2 }

port_is : (f : FabricOf) (s last port : ℕ) → next_port f s last ≡ Some port → IsPort f s port
port_is f s last port is = by (port_above f s last) refl is where
  by : (o : Option ℕ) → port_above f s last ≡ o → option_or o (port_above f s 0) ≡ Some port → IsPort f s port
  by (Some q) first same = above_is f s last port (first ∙ same)
  by None first same = above_is f s 0 port same

-- a frame that is on a wire
wires_full : (script : ScriptOf) (h : List Event) (s : ℕ) → s < length script.wires.switches → has_frame_for (world_after script h).fabric s ≡ true → are_wires_empty (world_after script h).fabric ≡ false
wires_full script h s below some =
    let f = (world_after script h).fabric in
    let size : count f ≡ length script.wires.switches = ap (λ (x : ScriptOf). length x.wires.switches) (world_script script h) in
    let is_below : s < count f = subst (λ (n : ℕ). s < n) (sym size) below in
    let at : slice_index_or (places f) s 0 ≡ s = get_or-range_with_len 0 (count f) s 0 is_below ∙ omega arith in
    let length_is : length (places f) ≡ count f = length-range_with_len 0 (count f) in
    ap not (list_any_at (has_frame_for f) (places f) s 0 (omega (arith, is_below, length_is)) (ap (has_frame_for f) at ∙ some))

pub take_is_lawful : (script : ScriptOf) (h : List Event) (s p : ℕ) → s < length script.wires.switches → IsOpen (world_after script h).fabric → is_full_at (world_after script h).fabric s ≡ false
    → clock_due_at (world_after script h).fabric s ≡ false → is_external p ≡ true → has_frame (world_after script h).fabric s p ≡ true → has_frame_for (world_after script h).fabric s ≡ true → is_lawful (world_after script h).fabric (Take s p) ≡ true
take_is_lawful script h s p below o empty not_due external frame some =
    let f = (world_after script h).fabric in
    open_next f (Take s p) o (busy_no_end f o (wires_busy f (wires_full script h s below some)))
    (and_from (is_switch f s && is_external p && not (is_full_at f s) && not (clock_due_at f s)) (has_frame f s p)
    (and_from (is_switch f s && is_external p && not (is_full_at f s)) (not (clock_due_at f s))
    (and_from (is_switch f s && is_external p) (not (is_full_at f s)) (and_from (is_switch f s) (is_external p) (switch_is script h s below) external) (not_from_false (is_full_at f s) empty))
    (not_from_false (clock_due_at f s) not_due)) frame)

-- each event of the next work of a switch whose hand is empty is lawful
abbrev work_by : Bool → Bool → Bool → Bool → FabricOf → ℕ → ℕ → Work
work_by spent full restart due f s last =
    cond spent (work.Nothing why.Spent) (cond full (work.Nothing why.Full) (cond restart (work.Restart (next_life_at f s))
    (cond due (work.Clock f.tick (samples_of f s)) (frame_work (next_port f s last)))))

abbrev Lawful : FabricOf → Event → Type 0
Lawful f e = is_lawful f e ≡ true

frame_lawful : (script : ScriptOf) (h : List Event) (s last : ℕ) (o : Option ℕ) → s < length script.wires.switches → IsOpen (world_after script h).fabric → is_full_at (world_after script h).fabric s ≡ false
    → clock_due_at (world_after script h).fabric s ≡ false → next_port (world_after script h).fabric s last ≡ o → All (Lawful (world_after script h).fabric) (event_of_work s (frame_work o))
frame_lawful script h s last None below open_for empty not_due is = All-nil (Lawful (world_after script h).fabric)
frame_lawful script h s last (Some port) below open_for empty not_due is =
    let f = (world_after script h).fabric in
    let found = port_is f s last port is in
    All-cons (Lawful f) (Take s port) [] (take_is_lawful script h s port below open_for empty not_due found.external found.frame found.some) (All-nil (Lawful f))

pub work_is_lawful : (script : ScriptOf) (h : List Event) (s last : ℕ) → s < length script.wires.switches → is_full_at (world_after script h).fabric s ≡ false
    → All (Lawful (world_after script h).fabric) (event_of_work s (next_work (world_after script h).fabric s last))
work_is_lawful script h s last below empty =
    by (is_some_spent (world_after script h).fabric) (nat_lt (room (world_after script h).fabric) 2) (is_command (world_after script h).fabric (Restart s)) (clock_due_at (world_after script h).fabric s) refl refl refl refl where
      by : (a b c d : Bool) → is_some_spent (world_after script h).fabric ≡ a → nat_lt (room (world_after script h).fabric) 2 ≡ b → is_command (world_after script h).fabric (Restart s) ≡ c → clock_due_at (world_after script h).fabric s ≡ d
          → All (Lawful (world_after script h).fabric) (event_of_work s (work_by a b c d (world_after script h).fabric s last))
      by true b c d ai bi ci di = All-nil (Lawful (world_after script h).fabric)
      by false true c d ai bi ci di = All-nil (Lawful (world_after script h).fabric)
      by false false true d ai bi ci di =
          let g = (world_after script h).fabric in
          let o : IsOpen g = record { unspent = ai; roomy = ltb-false (room g) 2 bi } in
          All-cons (Lawful g) (Restart s) [] (open_next g (Restart s) o (due_no_end g o (command_is_due g (Restart s) ci)) (and_from (is_command g (Restart s)) (not (is_full_at g s)) ci (not_from_false (is_full_at g s) empty))) (All-nil (Lawful g))
      by false false false true ai bi ci di =
          let g = (world_after script h).fabric in
          All-cons (Lawful g) (Clock s) [] (clock_is_lawful script h s below (record { unspent = ai; roomy = ltb-false (room g) 2 bi }) empty di) (All-nil (Lawful g))
      by false false false false ai bi ci di =
          let g = (world_after script h).fabric in
          frame_lawful script h s last (next_port g s last) below (record { unspent = ai; roomy = ltb-false (room g) 2 bi }) empty di refl

-- each event of the next thing of the driver is lawful
pub packet_here : (xs : List PacketOf) (k : ℕ) → first_packet xs ≡ Some k → is_some (packet_of k xs) ≡ true
packet_here [] k is = absurd (true≢false (sym (ap is_some is)))
packet_here (x ∷ xs) k is =
    let same : x.packet ≡ k = ap (λ o. unwrap_or o 0) is in
    ap (λ b. is_some (cond b (Some x) (packet_of k xs))) (eq-eqb x.packet k same)

pub command_ready : (script : ScriptOf) (f : FabricOf) (e : Event) → IsCommandEvent script.wires e → (is_restart e ≡ true → (s : ℕ) → is_full_at f s ≡ false) → is_command f e ≡ true → is_ready f e ≡ true
command_ready script f (Fail t p) fits empty is = is
command_ready script f (Repair t p) fits empty is = is
command_ready script f (Lose t p n) fits empty is = is
command_ready script f (Again t p n) fits empty is = is
command_ready script f (Swap t p n) fits empty is = is
command_ready script f (Noise t p n) fits empty is = is
command_ready script f (Send a b) fits empty is = is
command_ready script f (Restart t) fits empty is = and_from (is_command f (Restart t)) (not (is_full_at f t)) is (not_from_false (is_full_at f t) (empty refl t))
command_ready script f e fits empty is = absurd fits

tick_lawful : (f : FabricOf) (b : Bool) → is_tick_due f ≡ b → IsOpen f → is_some (ending_of f) ≡ false → All (Lawful f) (event_of_drive (tick_or_wait b))
tick_lawful f true due o goes = All-cons (Lawful f) Tick [] (open_next f Tick o goes due) (All-nil (Lawful f))
tick_lawful f false due o goes = All-nil (Lawful f)

move_lawful : (f : FabricOf) (k : Option ℕ) → first_packet f.packets ≡ k → IsOpen f → is_some (ending_of f) ≡ false → All (Lawful f) (event_of_drive (move_or_tick k f))
move_lawful f (Some k) is o goes = All-cons (Lawful f) (Move k) [] (open_next f (Move k) o goes (packet_here f.packets k is)) (All-nil (Lawful f))
move_lawful f None is o goes = tick_lawful f (is_tick_due f) refl o goes

due_lawful : (script : ScriptOf) → IsScript script → (h : List Event) (d : Option Event) → due_command (world_after script h).fabric ≡ d → IsOpen (world_after script h).fabric → is_some (ending_of (world_after script h).fabric) ≡ false
    → All (Lawful (world_after script h).fabric) (event_of_drive (command_or_move d (world_after script h).fabric))
due_lawful script kept h None is o goes = let f = (world_after script h).fabric in move_lawful f (first_packet f.packets) refl o goes
due_lawful script kept h (Some e) is o goes = by (is_restart e) refl where
  by : (b : Bool) → is_restart e ≡ b → All (Lawful (world_after script h).fabric) (event_of_drive (cond b (move_or_tick (first_packet (world_after script h).fabric.packets) (world_after script h).fabric) (drive.Did e)))
  by true restart = let f = (world_after script h).fabric in move_lawful f (first_packet f.packets) refl o goes
  by false other =
      let f = (world_after script h).fabric in
      let command = due_is_command f e is in
      let fits = command_fits script h e kept (command_is f e command) in
      All-cons (Lawful f) e [] (open_next f e o goes (command_ready script f e fits (λ restart s. absurd (true≢false (sym restart ∙ other))) command)) (All-nil (Lawful f))

pub drive_is_lawful : (script : ScriptOf) → IsScript script → (h : List Event) → All (Lawful (world_after script h).fabric) (event_of_drive (next_drive (world_after script h).fabric))
drive_is_lawful script kept h = by (ending_of (world_after script h).fabric) refl where
  barred : (b : Bool) → is_barred (world_after script h).fabric ≡ b → ending_of (world_after script h).fabric ≡ None
      → All (Lawful (world_after script h).fabric) (event_of_drive (cond b drive.Waits (command_or_move (due_command (world_after script h).fabric) (world_after script h).fabric)))
  barred true is goes = All-nil (Lawful (world_after script h).fabric)
  barred false is goes = let f = (world_after script h).fabric in due_lawful script kept h (due_command f) refl (unbarred_is f is) (ap is_some goes)

  by : (o : Option Ending) → ending_of (world_after script h).fabric ≡ o → All (Lawful (world_after script h).fabric) (event_of_drive (drive_by o (world_after script h).fabric))
  by (Some end) is = All-nil (Lawful (world_after script h).fabric)
  by None is = barred (is_barred (world_after script h).fabric) refl is
