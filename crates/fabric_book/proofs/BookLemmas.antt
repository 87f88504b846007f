-- Each call of a book is one event of the world.

use Rattle.std.specs.Prelude.{◌≡◌, ◌⊎◌, ◌+◌, ◌-◌, ◌^◌, ◌&&◌, not, ◌==◌, ◌<◌, ◌≤◌, ℕ, List, [], ◌∷◌, ◌++◌, map, length, nat_lt, slice_index_or, slice_set, cond, Option, Some, None, option_to_list, Bool, true, false, refl}
use Rattle.std.specs.List.{range_with_len}
use Rattle.std.proofs.Common.{sym, ◌∙◌, ap, subst, arith, true≢false, length-append, eq-eqb, ne_eqb, inl, inr}
use Rattle.net_state.proofs.FitsLemmas.{switch_below}
use Rattle.std.proofs.lemmas.Bool.{and_parts, cases_eq}
use Rattle.std.proofs.lemmas.List.{append-nil, get_or-set_other, get_or-set_same, length-set}
use Rattle.std.proofs.lemmas.List.FromFn.{fill_by_all, get_or-map-range_with_len, length-map-range_with_len}
use Rattle.an_base.specs.Ports.{NoteOf}
use Rattle.an_base.specs.Values.{LifeId, TopoOf}
use Rattle.an_base.specs.declared.event.Event.{Event}
use Rattle.an_base.specs.declared.event.Event.TheVariants.{Tick, Clock, Take, Handle, Load, Move, Restart}
use Rattle.net_script.specs.Commands.{IsCommandEvent, is_restart}
use Rattle.net_script.specs.Scripts.{ScriptOf, IsScript}
use Rattle.table_build.proofs.MadeTables.{only_table}
use Rattle.table_build.specs.Made.{table_of, number_in}
use Rattle.table_build.specs.Tables.{TableOf}
use Rattle.switch_core.specs.Bytes.{BytesOut}
use Rattle.switch_core.specs.Steps.{loaded}
use Rattle.switch_core.specs.Switch.{finish_of, note_of}
use Rattle.switch_core.specs.declared.switch.TableFor.{TableFor}
use Rattle.net_state.specs.Fabric.{FabricOf, clock_due_at, count, full_hands, has_frame, is_external, is_full_at, is_some_spent, is_switch, places, samples_of, station, life_of}
use Rattle.net_state.specs.Fabric.{room as room_of}
use Rattle.net_state.specs.declared.hand.Hand.{Hand}
use Rattle.net_state.specs.declared.hand.Hand.TheVariants as hand
use Rattle.net_state.specs.declared.work.Work.{Work}
use Rattle.net_state.specs.declared.work.Work.TheVariants as work
use Rattle.net_state.specs.declared.work.Why.TheVariants as why
use Rattle.net_state.specs.Choices.{event_of_work, frame_work, next_port, next_work}
use Rattle.net_state.specs.Lawful.{is_lawful, is_command}
use Rattle.net_state.specs.Effects.{after_clock, after_command, after_handle, after_load, after_move, after_restart, after_take, after_tick}
use Rattle.net_state.specs.Effects.{ShowsOnly, all_put_out, emptied, shows}
use Rattle.net_state.specs.Starts.{begun_fabric, next_life_at, next_note_at, started_note}
use Rattle.net_state.specs.Fits.{Fits, IsHandPort}
use Rattle.net_world.specs.World.{WorldOf, effect, handled, loads_with, next_life, step, table_for, world_after}
use Rattle.net_world.specs.Histories.{HistoryOf, IsLawful, fabric_of, last_port, last_taken, with_event, world_of}
use Rattle.net_world.specs.Sound.{AllMayCome}
use Rattle.net_world.specs.Turns.{Handled, HasBytes, IsToLoad, IsTold, TakesWork}
use Rattle.net_world.specs.Turns.{Drives}
use Rattle.net_state.specs.declared.work.Drive.{Drive}
use Rattle.net_state.specs.declared.work.Drive.TheVariants as drive
use Rattle.net_state.specs.Choices.{next_drive}
use Rattle.net_state.specs.declared.line.Line.{Line}
use Rattle.net_state.specs.declared.line.PlacedLine.{PlacedLine}
use Rattle.net_world.specs.Accounts.{placed, placed_lines}
use Rattle.net_state.specs.Lines.{command_lines, move_lines, take_lines}
use Rattle.host_traffic.specs.Packets.{packet_of}
use Rattle.net_world.specs.Lines.{all_lines, lines_of}
use Rattle.fabric_book.specs.Kept.{HasSamples, IsKept, history_with}
use Rattle.fabric_book.proofs.HandLemmas.{hand_port, shows_only}
use Rattle.fabric_book.proofs.TellLemmas.{command_told}
use Rattle.fabric_book.proofs.WorldFacts.{event_more, step_makes, begun_is, fits_after, work_may_come, world_script, place_sound, boot_most, command_fits, emptied_note, emptied_room, handle_may_come, lawful_more, ready_is, room_is, handled_parts}

-- the fabric is as fabrics are
pub fabric_fits : (f : FabricOf) (h : List Event) (taken : List ℕ) (room : ℕ) → IsKept f h taken room → Fits f
fabric_fits f h taken room kept = subst Fits (sym kept.fabric_is) (fits_after f.script kept.script h)

-- a lawful event at the end
pub is_lawful-more : (script : ScriptOf) (h : List Event) (e : Event) → IsLawful script h → is_lawful (world_after script h).fabric e ≡ true → IsLawful script (h ++ e ∷ [])
is_lawful-more = lawful_more

-- the world after one more lawful event
pub world_more : (script : ScriptOf) (h : List Event) (e : Event) → is_lawful (world_after script h).fabric e ≡ true → world_after script (h ++ e ∷ []) ≡ effect e (world_after script h)
world_more script h e lawful = event_more script h e ∙ step_makes (world_after script h) e lawful

-- the port last taken, after more events
pub last_port-append : (place port : ℕ) (h more : List Event) → last_port place port (h ++ more) ≡ last_port place (last_port place port h) more
last_port-append place port [] more = refl
last_port-append place port (Take other entry ∷ h) more = last_port-append place (cond (other == place) entry port) h more
last_port-append place port (event ∷ h) more = last_port-append place port h more

-- What is kept after one more event.
pub kept_by : (f g : FabricOf) (h : List Event) (e : Event) (taken more : List ℕ) (room : ℕ) → IsKept f h taken room → is_lawful f e ≡ true
    → (effect e (world_after f.script h)).fabric ≡ g → g.script ≡ f.script → g.events ≡ f.events + 1 → more ≡ map (λ place. last_taken place (h ++ e ∷ [])) (places f) → IsKept g (h ++ e ∷ []) more room
kept_by f g h e taken more room kept lawful makes stays counts takes =
    let here : is_lawful (world_after f.script h).fabric e ≡ true = subst (λ (x : FabricOf). is_lawful x e ≡ true) kept.fabric_is lawful in
    let lawful_more : IsLawful f.script (h ++ e ∷ []) = is_lawful-more f.script h e kept.lawful here in
    let is : (world_after f.script (h ++ e ∷ [])).fabric ≡ g = ap (λ (w : WorldOf). w.fabric) (world_more f.script h e here) ∙ makes in
    let long : length (h ++ e ∷ []) ≡ length h + 1 = length-append h (e ∷ []) in
    record {
      script = subst IsScript (sym stays) kept.script;
      lawful = subst (λ (s : ScriptOf). IsLawful s (h ++ e ∷ [])) (sym stays) lawful_more;
      fabric_is = sym (ap (λ (s : ScriptOf). (world_after s (h ++ e ∷ [])).fabric) stays ∙ is);
      counted = counts ∙ ap (λ n. n + 1) kept.counted ∙ sym long;
      taken_is = takes ∙ ap (λ (s : ScriptOf). map (λ place. last_taken place (h ++ e ∷ [])) (range_with_len 0 (length s.wires.switches))) (sym stays);
      room = subst (λ (s : ScriptOf). s.limits.events ≤ room) (sym stays) kept.room;
    }

-- the ports last taken stay under an event that takes no frame
stay : (f : FabricOf) (h : List Event) (e : Event) (taken : List ℕ) (room : ℕ) → IsKept f h taken room → ((place port : ℕ) → last_port place port (e ∷ []) ≡ port) → taken ≡ map (λ place. last_taken place (h ++ e ∷ [])) (places f)
stay f h e taken room kept same =
    kept.taken_is ∙ (λ i. map (λ place. sym (last_port-append place 0 h (e ∷ []) ∙ same place (last_taken place h)) i) (places f))

-- an event that changes the fabric by itself
kept_on : (change : FabricOf → FabricOf) (f : FabricOf) (h : List Event) (e : Event) (taken : List ℕ) (room : ℕ) → IsKept f h taken room → is_lawful f e ≡ true
    → ((w : WorldOf) → (effect e w).fabric ≡ change w.fabric) → (change f).script ≡ f.script → (change f).events ≡ f.events + 1 → ((place port : ℕ) → last_port place port (e ∷ []) ≡ port)
    → IsKept (change f) (h ++ e ∷ []) taken room
kept_on change f h e taken room kept lawful makes stays counts same =
    kept_by f (change f) h e taken taken room kept lawful (makes (world_after f.script h) ∙ ap change (sym kept.fabric_is)) stays counts (stay f h e taken room kept same)

pub tick_kept : (f : FabricOf) (h : List Event) (taken : List ℕ) (room : ℕ) → IsKept f h taken room → is_lawful f Tick ≡ true → IsKept (after_tick f) (h ++ Tick ∷ []) taken room
unfolding effect
tick_kept f h taken room kept lawful = kept_on after_tick f h Tick taken room kept lawful (λ w. refl) refl refl (λ place port. refl)

pub clock_kept : (f : FabricOf) (h : List Event) (s : ℕ) (taken : List ℕ) (room : ℕ) → IsKept f h taken room → is_lawful f (Clock s) ≡ true → IsKept (after_clock s f) (h ++ Clock s ∷ []) taken room
unfolding effect
clock_kept f h s taken room kept lawful = kept_on (after_clock s) f h (Clock s) taken room kept lawful (λ w. refl) refl refl (λ place port. refl)

pub move_kept : (f : FabricOf) (h : List Event) (packet : ℕ) (taken : List ℕ) (room : ℕ) → IsKept f h taken room → is_lawful f (Move packet) ≡ true → IsKept (after_move packet f) (h ++ Move packet ∷ []) taken room
unfolding effect
move_kept f h packet taken room kept lawful = kept_on (after_move packet) f h (Move packet) taken room kept lawful (λ w. refl) refl refl (λ place port. refl)

-- the place of the switch that takes a frame
taken_at : (h : List Event) (s port n : ℕ) (taken : List ℕ) → s < n → taken ≡ map (λ place. last_taken place h) (range_with_len 0 n)
    → slice_set taken s port ≡ map (λ place. last_taken place (h ++ Take s port ∷ [])) (range_with_len 0 n)
taken_at h s port n taken below is =
    fill_by_all (λ place. last_taken place (h ++ Take s port ∷ [])) (slice_set taken s port) n 0 (length-set taken s port ∙ long) each
  where
    long : length taken ≡ n
    long = ap (length {A = ℕ}) is ∙ length-map-range_with_len (λ place. last_taken place h) 0 n

    was : (k : ℕ) → k < n → slice_index_or taken k 0 ≡ last_taken k h
    was k low = ap (λ xs. slice_index_or xs k 0) is ∙ get_or-map-range_with_len (λ place. last_taken place h) 0 n k k 0 low (omega arith)

    now : (k : ℕ) → last_taken k (h ++ Take s port ∷ []) ≡ cond (s == k) port (last_taken k h)
    now k = last_port-append k 0 h (Take s port ∷ [])

    each : (k : ℕ) → k < n → slice_index_or (slice_set taken s port) k 0 ≡ last_taken k (h ++ Take s port ∷ [])
    each k low = by (cases_eq k s) where
      by : (k ≡ s) ⊎ (k ≡ s → ⊥) → slice_index_or (slice_set taken s port) k 0 ≡ last_taken k (h ++ Take s port ∷ [])
      by (inl same) =
          let at : s < length taken = omega (arith, below, long) in
          ap (λ j. slice_index_or (slice_set taken s port) j 0) same ∙ get_or-set_same taken s port 0 at
          ∙ sym (now k ∙ ap (λ b. cond b port (last_taken k h)) (eq-eqb s k (sym same)))
      by (inr other) =
          get_or-set_other taken s k port 0 other ∙ was k low
          ∙ sym (now k ∙ ap (λ b. cond b port (last_taken k h)) (ne_eqb s k (λ (e : s ≡ k). other (sym e))))

pub take_kept : (f : FabricOf) (h : List Event) (s port : ℕ) (taken : List ℕ) (room : ℕ) → IsKept f h taken room → s < count f → is_lawful f (Take s port) ≡ true
    → IsKept (after_take s port f) (h ++ Take s port ∷ []) (slice_set taken s port) room
unfolding effect
take_kept f h s port taken room kept below lawful =
    kept_by f (after_take s port f) h (Take s port) taken (slice_set taken s port) room kept lawful (ap (after_take s port) (sym kept.fabric_is)) refl refl
    (taken_at h s port (count f) taken below kept.taken_is)

-- what a switch shows in its next life
next_note_is : (script : ScriptOf) (h : List Event) (s : ℕ) → IsScript script → s < length script.wires.switches → note_of (next_life s (world_after script h)) ≡ next_note_at (world_after script h).fabric s
next_note_is script h s kept below =
    let w = world_after script h in
    let shown : (station w.fabric s).note.life ≡ (w.switches s).life = ap (λ (n : NoteOf). n.life) (place_sound script kept h s below).note in
    ap (λ (life : LifeId). started_note (life_of w.fabric.script s (life.boot + 1)) w.fabric.script.epoch) (sym shown)

pub restart_kept : (f : FabricOf) (h : List Event) (s : ℕ) (taken : List ℕ) (room : ℕ) → IsKept f h taken room → s < count f → is_lawful f (Restart s) ≡ true
    → IsKept (after_restart s (next_note_at f s) f) (h ++ Restart s ∷ []) taken room
unfolding effect
restart_kept f h s taken room kept below lawful =
    let is = kept.fabric_is in
    kept_by f (after_restart s (next_note_at f s) f) h (Restart s) taken taken room kept lawful
    (ap (λ (note : NoteOf). after_restart s note (world_after f.script h).fabric) (next_note_is f.script h s kept.script below)
    ∙ ap (λ (x : FabricOf). after_restart s (next_note_at x s) x) (sym is)) refl refl (stay f h (Restart s) taken room kept (λ place port. refl))

-- a command but a restart
command_makes : (script : ScriptOf) (e : Event) → IsCommandEvent script.wires e → is_restart e ≡ false → (w : WorldOf) → (effect e w).fabric ≡ after_command e w.fabric
unfolding effect
command_makes script (Restart s) fits other w = absurd (true≢false other)
command_makes script Tick fits other w = absurd fits
command_makes script (Clock s) fits other w = absurd fits
command_makes script (Take s p) fits other w = absurd fits
command_makes script (Handle s) fits other w = absurd fits
command_makes script (Load s) fits other w = absurd fits
command_makes script (Move k) fits other w = absurd fits
command_makes script e fits other w = refl

record IsPlain (f : FabricOf) (e : Event) : Type 0 where
  script : (after_command e f).script ≡ f.script
  events : (after_command e f).events ≡ f.events + 1
  takes : (place port : ℕ) → last_port place port (e ∷ []) ≡ port

command_plain : (f : FabricOf) (e : Event) → IsCommandEvent f.script.wires e → is_restart e ≡ false → IsPlain f e
command_plain f (Restart s) fits other = absurd (true≢false other)
command_plain f Tick fits other = absurd fits
command_plain f (Clock s) fits other = absurd fits
command_plain f (Take s p) fits other = absurd fits
command_plain f (Handle s) fits other = absurd fits
command_plain f (Load s) fits other = absurd fits
command_plain f (Move k) fits other = absurd fits
command_plain f e fits other = record { script = refl; events = refl; takes = λ place port. refl }

pub command_script : (f : FabricOf) (e : Event) → IsCommandEvent f.script.wires e → is_restart e ≡ false → (after_command e f).script ≡ f.script
command_script f e fits other = (command_plain f e fits other).script

pub command_kept : (f : FabricOf) (h : List Event) (e : Event) (taken : List ℕ) (room : ℕ) → IsKept f h taken room → is_lawful f e ≡ true → IsCommandEvent f.script.wires e → is_restart e ≡ false
    → IsKept (after_command e f) (h ++ e ∷ []) taken room
command_kept f h e taken room kept lawful fits other =
    let plain = command_plain f e fits other in
    kept_on (after_command e) f h e taken room kept lawful (command_makes f.script e fits other) plain.script plain.events plain.takes

-- what is in hand was handled
pub handle_kept : (f : FabricOf) (h : List Event) (s : ℕ) (frames : List BytesOut) (note : NoteOf) (spent : Bool) (taken : List ℕ) (room : ℕ) → IsKept f h taken room → is_lawful f (Handle s) ≡ true
    → Handled (world_after f.script h) s frames note spent → IsKept (after_handle s frames note spent f) (h ++ Handle s ∷ []) taken room
unfolding effect
handle_kept f h s frames note spent taken room kept lawful done =
    kept_by f (after_handle s frames note spent f) h (Handle s) taken taken room kept lawful
    (ap (λ (xs : List BytesOut). after_handle s xs (note_of (handled s (world_after f.script h)).switch) (handled s (world_after f.script h)).switch.spent (world_after f.script h).fabric) (sym done.frames_are)
    ∙ ap (λ (n : NoteOf). after_handle s frames n (handled s (world_after f.script h)).switch.spent (world_after f.script h).fabric) (sym done.note_is)
    ∙ ap (λ b. after_handle s frames note b (world_after f.script h).fabric) (sym done.spent_is)
    ∙ ap (after_handle s frames note spent) (sym kept.fabric_is)) refl refl (stay f h (Handle s) taken room kept (λ place port. refl))

pub parts_kept : (f : FabricOf) (h : List Event) (s : ℕ) (frames : List BytesOut) (note : NoteOf) (spent : Bool) (taken : List ℕ) (room : ℕ) → IsKept f h taken room → s < count f → is_lawful f (Handle s) ≡ true
    → Handled (world_after f.script h) s frames note spent
    → IsKept (shows s note spent (record (emptied s f) { wires = all_put_out s frames (emptied s f).wires })) (h ++ Handle s ∷ []) taken room
parts_kept f h s frames note spent taken room kept below lawful done =
    subst (λ (x : FabricOf). IsKept x (h ++ Handle s ∷ []) taken room) (sym (handled_parts s frames note spent f (subst (λ n. s < n) (sym (fabric_fits f h taken room kept).size) below)))
    (handle_kept f h s frames note spent taken room kept lawful done)

-- a table was loaded
number_made : (topo : TopoOf) (any : Bool) (life : LifeId) (t : TableOf) → t ≡ table_of topo any life → t.number ≡ number_in topo life
unfolding table_of
number_made topo any life t made = ap (λ (u : TableOf). u.number) made

loads_is : (w : WorldOf) (s : ℕ) (table : TableFor) (note : NoteOf) → IsToLoad w s table note → (loads_with (finish_of (w.switches s)) s w).fabric ≡ after_load s table note w.fabric
loads_is w s table note is =
    let y = w.switches s in
    let made = only_table is.topo y.any y.life table.table is.graph is.numbers is.as_many is.table in
    let same : table ≡ table_for is.topo y = λ i. record { epoch = is.epoch i; table = made i } in
    let number : table.table.number ≡ number_in is.topo y.life = number_made is.topo y.any y.life table.table made in
    ap (λ o. (loads_with o s w).fabric) is.finished
    ∙ ap (λ (t : TableFor). after_load s t (note_of (loaded (number_in is.topo y.life) y)) w.fabric) (sym same)
    ∙ ap (λ (n : NoteOf). after_load s table n w.fabric) (sym (is.note_is ∙ ap (λ k. note_of (loaded k y)) number))

pub load_kept : (f : FabricOf) (h : List Event) (s : ℕ) (table : TableFor) (note : NoteOf) (taken : List ℕ) (room : ℕ) → IsKept f h taken room → is_lawful f (Load s) ≡ true
    → IsToLoad (world_after f.script h) s table note → IsKept (after_load s table note f) (h ++ Load s ∷ []) taken room
unfolding effect
load_kept f h s table note taken room kept lawful is =
    kept_by f (after_load s table note f) h (Load s) taken taken room kept lawful
    (loads_is (world_after f.script h) s table note is ∙ ap (after_load s table note) (sym kept.fabric_is)) refl refl (stay f h (Load s) taken room kept (λ place port. refl))

-- at first
pub begun_kept : (script : ScriptOf) (taken : List ℕ) (room : ℕ) → IsScript script → taken ≡ map (λ place. 0) (range_with_len 0 (length script.wires.switches)) → script.limits.events ≤ room → IsKept (begun_fabric script) [] taken room
unfolding world_after
begun_kept script taken room kept zeros roomy =
    record { script = kept; lawful = tt; fabric_is = sym (begun_is script); counted = refl; taken_is = zeros; room = roomy }

-- Of a book that stands for a history
module _ (f : FabricOf) (es : List Event) (taken : List ℕ) (room : ℕ) (kept : IsKept f es taken room) (h : HistoryOf) (view_is : record { script = f.script; events = es } ≡ h) where
  pub fabric_at : f ≡ fabric_of h
  fabric_at = kept.fabric_is ∙ ap fabric_of view_is

  pub lawful_at : (e : Event) → is_lawful (fabric_of h) e ≡ true → is_lawful f e ≡ true
  lawful_at e lawful = subst (λ (x : FabricOf). is_lawful x e ≡ true) (sym fabric_at) lawful

  pub script_at : f.script ≡ h.script
  script_at = ap (λ (x : HistoryOf). x.script) view_is

  pub events_at : es ≡ h.events
  events_at = ap (λ (x : HistoryOf). x.events) view_is

  pub has_room : (e : Event) → is_lawful (fabric_of h) e ≡ true → length es < room
  has_room e lawful =
      let some = room_is f e (fabric_fits f es taken room kept) (lawful_at e lawful) in
      let counted = kept.counted in
      let roomy = kept.room in
      omega (arith, some, counted, roomy)

  pub shows_more : (g : FabricOf) (more : List Event) (e : Event) → g.script ≡ f.script → more ≡ es ++ e ∷ [] → record { script = g.script; events = more } ≡ with_event e h
  shows_more g more e scripts events = (λ i. record { script = scripts i; events = events i }) ∙ ap (with_event e) view_is

-- what is kept, of equal things
pub kept_as : (f g : FabricOf) (es more : List Event) (taken now : List ℕ) (room roomy : ℕ) → IsKept f es taken room → g ≡ f → more ≡ es → now ≡ taken → roomy ≡ room → IsKept g more now roomy
kept_as f g es more taken now room roomy kept fabrics events takes rooms =
    subst (λ (x : FabricOf). IsKept x more now roomy) (sym fabrics)
    (subst (λ (xs : List Event). IsKept f xs now roomy) (sym events)
    (subst (λ (xs : List ℕ). IsKept f es xs roomy) (sym takes)
    (subst (λ (n : ℕ). IsKept f es taken n) (sym rooms) kept)))

pub take_below : (f : FabricOf) (s p : ℕ) → is_lawful f (Take s p) ≡ true → s < count f
take_below f s p lawful =
    let p1 = and_parts (is_switch f s && is_external p && not (is_full_at f s) && not (clock_due_at f s)) (has_frame f s p) (ready_is f (Take s p) lawful) in
    let p2 = and_parts (is_switch f s && is_external p && not (is_full_at f s)) (not (clock_due_at f s)) p1.0 in
    let p3 = and_parts (is_switch f s && is_external p) (not (is_full_at f s)) p2.0 in
    switch_below f s (and_parts (is_switch f s) (is_external p) p3.0).0

pub restart_below : (f : FabricOf) (s : ℕ) → IsScript f.script → is_lawful f (Restart s) ≡ true → s < count f
restart_below f s kept lawful = command_fits f (Restart s) kept (and_parts (is_command f (Restart s)) (not (is_full_at f s)) (ready_is f (Restart s) lawful)).0

-- no switch has more lives than the script gives it
pub boot_fits : (f : FabricOf) (es : List Event) (taken : List ℕ) (room s : ℕ) → IsKept f es taken room → s < count f → (station f s).note.life.boot < 2 ^ 32 - 1
boot_fits f es taken room s kept below =
    let w = world_after f.script es in
    let shown : (station f s).note.life.boot ≡ (w.switches s).life.boot =
    ap (λ (x : FabricOf). (station x s).note.life.boot) kept.fabric_is ∙ ap (λ (n : NoteOf). n.life.boot) (place_sound f.script kept.script es s below).note in
    let most = boot_most f.script es s in
    let lives = kept.script.lives in
    omega (arith, shown, most, lives)

-- What a switch handles, of a book that stands for a history
module _ (f : FabricOf) (es : List Event) (taken : List ℕ) (room : ℕ) (kept : IsKept f es taken room) (h : HistoryOf) (view_is : record { script = f.script; events = es } ≡ h) (s : ℕ) (below : s < length h.script.wires.switches)
    (frames : List BytesOut) (note : NoteOf) (spent : Bool) (done : Handled (world_of h) s frames note spent) where
  pub handled_below : s < count f
  handled_below = subst (λ (x : ScriptOf). s < length x.wires.switches) (sym (script_at f es taken room kept h view_is)) below

  pub handled_full : is_full_at f s ≡ true
  handled_full = ap (λ (x : FabricOf). is_full_at x s) (fabric_at f es taken room kept h view_is) ∙ done.full

  pub handled_lawful : is_lawful (fabric_of h) (Handle s) ≡ true
  handled_lawful = handle_may_come h.script h.events s below done.full

  pub handled_here : Handled (world_after f.script es) s frames note spent
  handled_here = subst (λ (x : HistoryOf). Handled (world_of x) s frames note spent) (sym view_is) done

  pub handled_room : f.events + full_hands (emptied s f) < f.script.limits.events
  handled_room = emptied_room f s (fabric_fits f es taken room kept) handled_below handled_full

  handled_good : IsScript h.script
  handled_good = subst IsScript (script_at f es taken room kept h view_is) kept.script

  pub handled_port : (x : Hand) → x ≡ (station f s).hand → IsHandPort x
  handled_port x is =
      subst IsHandPort (sym (is ∙ ap (λ (g : FabricOf). (station g s).hand) (fabric_at f es taken room kept h view_is)))
      (hand_port h.script handled_good h.events s handled_lawful)

  pub handled_only : (x : Hand) (port : ℕ) → x ≡ (station f s).hand → x ≡ hand.Frame port → ShowsOnly port (station (emptied s f) s).note note
  handled_only x port is frame =
      let at = fabric_at f es taken room kept h view_is in
      let shown = emptied_note f s (fabric_fits f es taken room kept) handled_below ∙ ap (λ (g : FabricOf). (station g s).note) at in
      subst (λ (n : NoteOf). ShowsOnly port n note) (sym shown)
      (shows_only (world_of h) s port note (subst IsHandPort frame (handled_port x is)) (sym (is ∙ ap (λ (g : FabricOf). (station g s).hand) at) ∙ frame)
      (place_sound h.script handled_good h.events s below).note done.note_is)

  pub handled_kept : IsKept (shows s note spent (record (emptied s f) { wires = all_put_out s frames (emptied s f).wires })) (es ++ Handle s ∷ []) taken room
  handled_kept = parts_kept f es s frames note spent taken room kept handled_below (lawful_at f es taken room kept h view_is (Handle s) handled_lawful) handled_here

-- the fabric after the three parts
pub three_parts : (f released put shown : FabricOf) (s : ℕ) (frames : List BytesOut) (note : NoteOf) (spent : Bool) → released ≡ emptied s f → put ≡ record released { wires = all_put_out s frames released.wires } → shown ≡ shows s note spent put
    → shown ≡ shows s note spent (record (emptied s f) { wires = all_put_out s frames (emptied s f).wires })
three_parts f released put shown s frames note spent one two three =
    three ∙ ap (λ (x : FabricOf). shows s note spent x) (two ∙ ap (λ (x : FabricOf). record x { wires = all_put_out s frames x.wires }) one)

-- the ports last taken, by place
pub taken_long : (f : FabricOf) (es : List Event) (taken : List ℕ) (room : ℕ) → IsKept f es taken room → length taken ≡ count f
taken_long f es taken room kept = ap (length {A = ℕ}) kept.taken_is ∙ length-map-range_with_len (λ place. last_taken place es) 0 (count f)

pub taken_here : (f : FabricOf) (es : List Event) (taken : List ℕ) (room s d : ℕ) → IsKept f es taken room → s < count f → slice_index_or taken s d ≡ last_taken s es
taken_here f es taken room s d kept below =
    ap (λ (xs : List ℕ). slice_index_or xs s d) kept.taken_is ∙ get_or-map-range_with_len (λ place. last_taken place es) 0 (count f) s s d below (omega arith)

-- what is told of the event that came, with its place
one_told : (h : HistoryOf) (e : Event) (told : Option PlacedLine) (line : Option Line) → option_to_list told ≡ placed (fabric_of (history_with (e ∷ []) h)).events (option_to_list line) → option_to_list line ≡ lines_of (world_of h) e ++ []
    → option_to_list told ≡ placed_lines (world_of h) e ++ []
one_told h e told line placed_is line_is =
    let place : (fabric_of (history_with (e ∷ []) h)).events ≡ (step (world_of h) e).fabric.events = ap (λ (w : WorldOf). w.fabric.events) (event_more h.script h.events e) in
    placed_is ∙ ap (λ (n : ℕ). placed n (option_to_list line)) place ∙ ap (placed (step (world_of h) e).fabric.events) (line_is ∙ append-nil (lines_of (world_of h) e))
    ∙ sym (append-nil (placed_lines (world_of h) e))

pub work_told : (h : HistoryOf) (s : ℕ) (job : Work) (told : Option PlacedLine) (line : Option Line) → option_to_list told ≡ placed (fabric_of (history_with (event_of_work s job) h)).events (option_to_list line)
    → option_to_list line ≡ all_lines (world_of h) (event_of_work s job) → IsTold h.script h.events (event_of_work s job) told
work_told h s (work.Restart life) told line placed_is line_is = one_told h (Restart s) told line placed_is line_is
work_told h s (work.Clock now samples) told line placed_is line_is = one_told h (Clock s) told line placed_is line_is
work_told h s (work.Frame port) told line placed_is line_is = one_told h (Take s port) told line placed_is line_is
work_told h s (work.Nothing reason) told line placed_is line_is = placed_is ∙ ap (placed (fabric_of (history_with [] h)).events) line_is

pub drive_told : (h : HistoryOf) (e : Event) (told : Option PlacedLine) (line : Option Line) → option_to_list told ≡ placed (fabric_of (history_with (e ∷ []) h)).events (option_to_list line) → option_to_list line ≡ lines_of (world_of h) e
    → IsTold h.script h.events (e ∷ []) told
drive_told h e told line placed_is line_is = one_told h e told line placed_is (line_is ∙ sym (append-nil (lines_of (world_of h) e)))

pub drives_by : (h g : HistoryOf) (did : Drive) (e : Event) (told : Option PlacedLine) (line : Option Line) → did ≡ next_drive (fabric_of h) → did ≡ drive.Did e → g ≡ with_event e h
    → option_to_list told ≡ placed (fabric_of g).events (option_to_list line) → option_to_list line ≡ lines_of (world_of h) e → Drives h.script h.events did told g.events
drives_by h g did e told line is made after placed_is line_is = subst (λ (d : Drive). Drives h.script h.events d told g.events) (sym made) by_event
  where
    by_event : Drives h.script h.events (drive.Did e) told g.events
    by_event = record {
      drive_is = sym made ∙ is;
      event = ap (λ (x : HistoryOf). x.events) after;
      told_is = drive_told h e told line (placed_is ∙ ap (λ (x : HistoryOf). placed (fabric_of x).events (option_to_list line)) after) line_is;
    }

-- where the next work is a clock, it has the samples of this moment
next_samples : (f : FabricOf) (s last : ℕ) → HasSamples (next_work f s last) f s
next_samples f s last = by (is_some_spent f) (nat_lt (room_of f) 2) (is_command f (Restart s)) (clock_due_at f s) (next_port f s last) where
  by : (a b c d : Bool) (o : Option ℕ)
      → HasSamples (cond a (work.Nothing why.Spent) (cond b (work.Nothing why.Full) (cond c (work.Restart (next_life_at f s)) (cond d (work.Clock f.tick (samples_of f s)) (frame_work o))))) f s
  by true b c d o = tt
  by false true c d o = tt
  by false false true d o = tt
  by false false false true o = refl
  by false false false false None = tt
  by false false false false (Some port) = tt

-- Of the history of a book
module _ (f : FabricOf) (es : List Event) (taken : List ℕ) (room : ℕ) (kept : IsKept f es taken room) (h : HistoryOf) (view_is : record { script = f.script; events = es } ≡ h) where
  pub good_at : IsScript h.script
  good_at = subst IsScript (script_at f es taken room kept h view_is) kept.script

  pub history_at : IsLawful h.script h.events
  history_at = subst (λ (x : HistoryOf). IsLawful x.script x.events) view_is kept.lawful

  pub below_at : (s : ℕ) → s < length h.script.wires.switches → s < count f
  below_at s below = subst (λ (x : ScriptOf). s < length x.wires.switches) (sym (script_at f es taken room kept h view_is)) below

  pub room_at : length h.events + full_hands (fabric_of h) ≤ h.script.limits.events
  room_at =
      let fits = fits_after h.script good_at h.events in
      let most = fits.room in
      let counted = kept.counted in
      let same : (fabric_of h).events ≡ f.events = ap (λ (x : FabricOf). x.events) (sym (fabric_at f es taken room kept h view_is)) in
      let long : length es ≡ length h.events = ap (length {A = Event}) (events_at f es taken room kept h view_is) in
      let limit : (fabric_of h).script.limits.events ≡ h.script.limits.events = ap (λ (x : ScriptOf). x.limits.events) (world_script h.script h.events) in
      omega (arith, most, counted, same, long, limit)

  pub work_at : (s last : ℕ) (job : Work) → job ≡ next_work f s last → s < length h.script.wires.switches → is_full_at (fabric_of h) s ≡ false → AllMayCome (fabric_of h) (event_of_work s job)
  work_at s last job is below empty =
      subst (λ (j : Work). AllMayCome (fabric_of h) (event_of_work s j)) (sym (is ∙ ap (λ (x : FabricOf). next_work x s last) (fabric_at f es taken room kept h view_is))) (work_may_come h.script h.events s last below empty)

  pub takes_at : (s last : ℕ) (job : Work) (out : List ℕ) (told : Option PlacedLine) (line : Option Line) (new : HistoryOf) → job ≡ next_work f s last → last ≡ slice_index_or taken s last → s < length h.script.wires.switches → new ≡ history_with (event_of_work s job) h
      → HasBytes job (fabric_of new) s out → option_to_list told ≡ placed (fabric_of new).events (option_to_list line) → option_to_list line ≡ all_lines (world_of h) (event_of_work s job) → TakesWork h.script h.events s job out told new.events
  takes_at s last job out told line new is at below event bytes placed_is line_is =
      let last_is : last ≡ last_taken s h.events = at ∙ taken_here f es taken room s last kept (below_at s below) ∙ ap (last_taken s) (events_at f es taken room kept h view_is) in
      let scripts : new.script ≡ h.script = ap (λ (x : HistoryOf). x.script) event in
      record {
        work_is = is ∙ ap (λ (x : FabricOf). next_work x s last) (fabric_at f es taken room kept h view_is) ∙ ap (next_work (fabric_of h) s) last_is;
        event = ap (λ (x : HistoryOf). x.events) event;
        bytes = subst (λ (x : ScriptOf). HasBytes job (world_after x new.events).fabric s out) scripts bytes;
        told_is = work_told h s job told line (placed_is ∙ ap (λ (x : HistoryOf). placed (fabric_of x).events (option_to_list line)) event) line_is;
      }

  -- the samples of a clock are those of this moment
  pub samples_at : (s last : ℕ) (job : Work) → job ≡ next_work f s last → HasSamples job (fabric_of h) s
  samples_at s last job is =
      subst (λ (j : Work). HasSamples j (fabric_of h) s) (sym (is ∙ ap (λ (x : FabricOf). next_work x s last) (fabric_at f es taken room kept h view_is))) (next_samples (fabric_of h) s last)

  -- what is told of a frame that is taken, of a hop, and of a command but a restart
  pub taken_told : (s port : ℕ) (told : List Line) → told ≡ take_lines s port f → told ≡ lines_of (world_of h) (Take s port)
  unfolding lines_of
  taken_told s port told is = is ∙ ap (take_lines s port) (fabric_at f es taken room kept h view_is)

  pub moved_told : (packet : ℕ) (told : List Line) → told ≡ move_lines (packet_of packet f.packets) f → told ≡ lines_of (world_of h) (Move packet)
  unfolding lines_of
  moved_told packet told is = is ∙ ap (λ (x : FabricOf). move_lines (packet_of packet x.packets) x) (fabric_at f es taken room kept h view_is)

  pub commanded_told : (e : Event) (told : List Line) → is_command (fabric_of h) e ≡ true → is_restart e ≡ false → told ≡ command_lines e f → told ≡ lines_of (world_of h) e
  commanded_told e told command other is =
      let good : IsScript (fabric_of h).script = subst IsScript (sym (world_script h.script h.events)) good_at in
      is ∙ ap (command_lines e) (fabric_at f es taken room kept h view_is)
      ∙ command_told (fabric_of h).script.wires (world_of h) e (command_fits (fabric_of h) e good command) other
