-- What a switch does with what it has in hand, and with a table that is due.

use Rattle.std.specs.Prelude.{◌≡◌, ◌++◌, ◌∷◌, ◌==◌, ◌<◌, ◌≤◌, ◌^◌, ◌&&◌, ℕ, not, List, [], length, cond, Option, Some, None, is_some, option_copied, option_to_list, Bool, true, false, refl}
use Rattle.std.specs.List.{flat_map}
use Rattle.std.proofs.Common.{Bor, sym, ◌∙◌, ap, subst, arith, true≢false}
use Rattle.std.proofs.lemmas.Bool.{and_parts, ltb-true}
use Rattle.std.proofs.lemmas.Option.{none-some}
use Rattle.an_base.specs.Ports.{NoteOf}
use Rattle.an_base.specs.Values.{LifeId, TopoOf}
use Rattle.an_base.specs.declared.event.Event.TheVariants.{Handle, Load}
use Rattle.an_base.specs.declared.event.Event.{Event}
use Rattle.an_base.specs.declared.frame.Frame.{Frame}
use Rattle.an_base.specs.declared.port.Sample.{Sample}
use Rattle.net_script.specs.Scripts.{IsScript, ScriptOf}
use Rattle.frame_codec.proofs.Decoding.{frame_again, frame_takes}
use Rattle.frame_codec.proofs.Readers.{IsBytes}
use Rattle.frame_codec.specs.Reading.{frame_of}
use Rattle.port_monitor.specs.Histories.{externals}
use Rattle.table_build.proofs.MadeTables.{only_table}
use Rattle.table_build.specs.Made.{number_in, table_of}
use Rattle.table_build.specs.Tables.{TableOf}
use Rattle.switch_core.proofs.LawLemmas.{frame_came}
use Rattle.switch_core.specs.Bytes.{BytesOut, OutOf, all_spelled}
use Rattle.switch_core.specs.Kept.{Handles, IsLoadDue, IsWorking, KeptOf, Loads, StandsFor, Ticks}
use Rattle.switch_core.specs.Steps.{Step, loaded}
use Rattle.switch_core.specs.Switch.{CameBy, SwitchOf, finish_of, note_of}
use Rattle.switch_core.specs.declared.switch.TableFor.{TableFor}
use Rattle.net_state.specs.declared.hand.Hand.TheVariants as hand
use Rattle.net_state.specs.declared.hand.Hand.{Hand}
use Rattle.net_state.specs.Effects.{ShowsOnly, wires_at_hand}
use Rattle.net_state.specs.Fabric.{count, held_bytes, is_empty, is_full_at, is_switch, load_due_at, station}
use Rattle.net_state.specs.Fits.{IsHandPort}
use Rattle.net_state.specs.Lawful.{is_lawful}
use Rattle.net_state.specs.Lines.{lost_lines}
use Rattle.net_world.specs.Lines.{finish_line, finish_lines, has_joined, join_lines, lines_of, load_lines, no_frame_lines, port_line, no_epoch_lines}
use Rattle.net_world.specs.Turns.{AreTold, Handled, IsToLoad}
use Rattle.net_world.specs.World.{WorldOf, handled, handles, handles_bytes, world_after}
use Rattle.net_state.specs.declared.line.Line.TheVariants as line
use Rattle.net_state.specs.declared.line.Line.{Line}
use Rattle.fabric_book.specs.Nets.{HasFrame, IsHandled, IsSwitchKept}
use Rattle.fabric_book.specs.Told.{hand_lines, line_if}
use Rattle.fabric_book.proofs.TellLemmas.{handled_lines, same_shown}
use Rattle.fabric_book.proofs.WorldFacts.{fits_after, full_unspent, place_sound, ready_is, world_script}

-- what is lent is there where it is
pub copied_some : {T : Type 0} (r : Option (Bor T)) (o : Option T) → option_copied r ≡ o → is_some r ≡ is_some o
copied_some {T} None o is = ap (λ (x : Option T). is_some x) is
copied_some {T} (Some x) o is = ap (λ (x : Option T). is_some x) is

-- What comes of a clock
pub clock_handled : (now : ℕ) (samples : List Sample) (bytes : List ℕ) (x : SwitchOf) (new : KeptOf) (out : OutOf) (spent : Bool) → Ticks now samples x (StandsFor new) out spent → IsHandled x (hand.Clock now samples) bytes new out
unfolding handles
clock_handled now samples bytes x new out spent is = record {
  stands = is.stands;
  frames = ap (λ (o : OutOf). o.frames) is.frames;
  noframe = ap (λ (o : OutOf). o.noframe) is.frames;
}

-- and of bytes that came in by a port
frame_by : (port : ℕ) (bytes : List ℕ) (x : SwitchOf) (new : KeptOf) (out : OutOf) (o : Option Frame) → frame_of bytes ≡ o → StandsFor new (handles_bytes port o x).switch → out.frames ≡ all_spelled (handles_bytes port o x).frames → out.noframe ≡ not (is_some o)
    → IsHandled x (hand.Frame port) bytes new out
unfolding handles
frame_by port bytes x new out o read stands frames noframe = record {
  stands = subst (λ (p : Option Frame). StandsFor new (handles_bytes port p x).switch) (sym read) stands;
  frames = frames ∙ ap (λ (p : Option Frame). all_spelled (handles_bytes port p x).frames) (sym read);
  noframe = noframe ∙ ap (λ (p : Option Frame). not (is_some p)) (sym read);
}

pub frame_handled : (port : ℕ) (bytes : List ℕ) (x : SwitchOf) (new : KeptOf) (out : OutOf) → IsBytes bytes → Handles port bytes x (StandsFor new) out → IsHandled x (hand.Frame port) bytes new out
frame_handled port bytes x new out small is = by (frame_of bytes) refl where
  by : (o : Option Frame) → frame_of bytes ≡ o → IsHandled x (hand.Frame port) bytes new out
  by (Some f) read =
      let spells = frame_takes bytes f small read in
      let does = is.frame f spells.0 spells.1 in
      frame_by port bytes x new out (Some f) read does.0 (ap (λ (o : OutOf). o.frames) does.1) (ap (λ (o : OutOf). o.noframe) does.1)
  by None read =
      let does = is.no_frame (λ f frame same. none-some f (sym read ∙ ap frame_of (sym same) ∙ frame_again f frame)) in
      frame_by port bytes x new out None read does.0 (ap (λ (o : OutOf). o.frames) does.1) (ap (λ (o : OutOf). o.noframe) does.1)

-- which are all that came by this port
came_by : (port : ℕ) (frame : Option Frame) (x : SwitchOf) → CameBy port x (handles_bytes port frame x).switch
came_by port (Some f) x = frame_came port f x
came_by port None x = record { life = refl; others = λ q other. refl }

pub hand_came : (port : ℕ) (bytes : List ℕ) (x : SwitchOf) → CameBy port x (handles (hand.Frame port) bytes x).switch
unfolding handles
hand_came port bytes x = came_by port (frame_of bytes) x

-- and so can show this one alone as another than before
came_shows : (port : ℕ) (before after : SwitchOf) → 1 ≤ port → port ≤ 12 → CameBy port before after → ShowsOnly port (note_of before) (note_of after)
came_shows port before after least most came = record { life = came.life; others = λ q low other. same_shown port q before after least most came low other }

pub shows_only : (w : WorldOf) (s port : ℕ) (note : NoteOf) → IsHandPort (hand.Frame port) → (station w.fabric s).hand ≡ hand.Frame port → (station w.fabric s).note ≡ note_of (w.switches s) → note ≡ note_of (handled s w).switch
    → ShowsOnly port (station w.fabric s).note note
shows_only w s port note range is shown now =
    let x = w.switches s in
    let bytes = held_bytes w.fabric s in
    let does : handled s w ≡ handles (hand.Frame port) bytes x = ap (λ (k : Hand). handles k bytes x) is in
    subst (λ (n : NoteOf). ShowsOnly port n note) (sym shown)
    (subst (ShowsOnly port (note_of x)) (sym (now ∙ ap (λ (t : Step). note_of t.switch) does)) (came_shows port x (handles (hand.Frame port) bytes x).switch range.0 range.1 (hand_came port bytes x)))

-- The bytes of a buffer do for those that the wires hold
pub same_hand : (h : Hand) (held bytes : List ℕ) (x : SwitchOf) → HasFrame h held bytes → handles h bytes x ≡ handles h held x
unfolding handles
same_hand hand.Empty held bytes x has = refl
same_hand (hand.Clock now samples) held bytes x has = refl
same_hand (hand.Frame port) held bytes x has = ap (λ (b : List ℕ). handles_bytes port (frame_of b) x) has

same_no_frame : (place : ℕ) (h : Hand) (held bytes : List ℕ) → HasFrame h held bytes → no_frame_lines place h bytes ≡ no_frame_lines place h held
same_no_frame place hand.Empty held bytes has = refl
same_no_frame place (hand.Clock now samples) held bytes has = refl
same_no_frame place (hand.Frame port) held bytes has = ap (λ (b : List ℕ). no_frame_lines place (hand.Frame port) b) has

-- The lines of epochs
pub epochs_told : (s before epoch : ℕ) (had joined spent : Bool) (old new : SwitchOf) (first second third last : List Line) → before ≡ old.epoch → epoch ≡ new.epoch → had ≡ is_some (finish_of old) → joined ≡ not (epoch == before) → spent ≡ new.spent
    → second ≡ first ++ line_if joined (line.Join s epoch) → third ≡ second ++ line_if spent (line.Spent s) → last ≡ third ++ cond (not joined && had) [] (finish_line s epoch (finish_of new))
    → last ≡ first ++ join_lines s old new ++ no_epoch_lines s new ++ finish_lines s old new
epochs_told s before epoch had joined spent old new first second third last before_is epoch_is had_is joined_is spent_is one two three =
    let joins : joined ≡ has_joined old new = joined_is ∙ ap (λ (n : ℕ). not (n == before)) epoch_is ∙ ap (λ (n : ℕ). not (new.epoch == n)) before_is in
    let join : line_if joined (line.Join s epoch) ≡ join_lines s old new = ap (λ (b : Bool). line_if b (line.Join s epoch)) joins ∙ ap (λ (n : ℕ). line_if (has_joined old new) (line.Join s n)) epoch_is in
    let spend : line_if spent (line.Spent s) ≡ no_epoch_lines s new = ap (λ (b : Bool). line_if b (line.Spent s)) spent_is in
    let finish : cond (not joined && had) [] (finish_line s epoch (finish_of new)) ≡ finish_lines s old new =
    ap (λ (b : Bool). cond (not b && had) [] (finish_line s epoch (finish_of new))) joins ∙ ap (λ (b : Bool). cond (not (has_joined old new) && b) [] (finish_line s epoch (finish_of new))) had_is
    ∙ ap (λ (n : ℕ). cond (not (has_joined old new) && is_some (finish_of old)) [] (finish_line s n (finish_of new))) epoch_is in
    three ∙ ap (λ (xs : List Line). third ++ xs) finish ∙ ap (λ (xs : List Line). xs ++ finish_lines s old new) (two ∙ ap (λ (xs : List Line). second ++ xs) spend)
    ∙ ap (λ (xs : List Line). xs ++ no_epoch_lines s new ++ finish_lines s old new) (one ∙ ap (λ (xs : List Line). first ++ xs) join)

-- Of the switch at a place, which has something in hand
module _ (w : WorldOf) (s : ℕ) (h : Hand) (bytes : List ℕ) (is : h ≡ (station w.fabric s).hand) (has : HasFrame (station w.fabric s).hand (held_bytes w.fabric s) bytes) where
  pub step_is : handles h bytes (w.switches s) ≡ handled s w
  step_is = ap (λ (k : Hand). handles k bytes (w.switches s)) is ∙ same_hand (station w.fabric s).hand (held_bytes w.fabric s) bytes (w.switches s) has

  pub done_is : (frames : List BytesOut) (note : NoteOf) (spent : Bool) → is_full_at w.fabric s ≡ true → frames ≡ all_spelled (handles h bytes (w.switches s)).frames → note ≡ note_of (handles h bytes (w.switches s)).switch
      → spent ≡ (handles h bytes (w.switches s)).switch.spent → Handled w s frames note spent
  done_is frames note spent full frames_are note_is spent_is = record {
    full = full;
    frames_are = frames_are ∙ ap (λ (t : Step). all_spelled t.frames) step_is;
    note_is = note_is ∙ ap (λ (t : Step). note_of t.switch) step_is;
    spent_is = spent_is ∙ ap (λ (t : Step). t.switch.spent) step_is;
  }

  pub stands_is : (new : KeptOf) → StandsFor new (handles h bytes (w.switches s)).switch → StandsFor new (handled s w).switch
  stands_is new stands = subst (λ (t : Step). StandsFor new t.switch) step_is stands

  pub lines_at : hand_lines s h bytes (w.switches s) (handles h bytes (w.switches s)).switch ≡ hand_lines s (station w.fabric s).hand (held_bytes w.fabric s) (w.switches s) (handled s w).switch
  lines_at =
      let x = w.switches s in
      let y = (handled s w).switch in
      ap (λ (t : Step). hand_lines s h bytes x t.switch) step_is ∙ ap (λ (k : Hand). hand_lines s k bytes x y) is
      ∙ ap (λ (xs : List Line). flat_map (port_line s (note_of x) (note_of y)) externals ++ xs ++ join_lines s x y ++ no_epoch_lines s y ++ finish_lines s x y)
      (same_no_frame s (station w.fabric s).hand (held_bytes w.fabric s) bytes has)

  pub handled_told : (frames : List BytesOut) (puts : List (Option Line)) (old mid new : List Line) → frames ≡ all_spelled (handles h bytes (w.switches s)).frames → AreTold w.fabric s frames puts
      → mid ≡ old ++ hand_lines s h bytes (w.switches s) (handles h bytes (w.switches s)).switch → new ≡ mid ++ flat_map option_to_list puts → new ≡ old ++ lines_of w (Handle s)
  unfolding lines_of
  handled_told frames puts old mid new frames_are puts_are hand_told told =
      let wires = wires_at_hand w.fabric s in
      let lost : flat_map option_to_list puts ≡ lost_lines s (all_spelled (handled s w).frames) wires =
      puts_are ∙ ap (λ (fs : List BytesOut). lost_lines s fs wires) (frames_are ∙ ap (λ (t : Step). all_spelled t.frames) step_is) in
      told ∙ ap (λ (xs : List Line). mid ++ xs) lost ∙ ap (λ (xs : List Line). xs ++ lost_lines s (all_spelled (handled s w).frames) wires) (hand_told ∙ ap (λ (xs : List Line). old ++ xs) lines_at)
      ∙ handled_lines s (station w.fabric s).hand (held_bytes w.fabric s) (w.switches s) (handled s w).switch (lost_lines s (all_spelled (handled s w).frames) wires) old

-- What is known before it is handled
module _ (script : ScriptOf) (kept : IsScript script) (h : List Event) (s : ℕ) (lawful : is_lawful (world_after script h).fabric (Handle s) ≡ true) where
  ready : (is_switch (world_after script h).fabric s ≡ true) × (is_full_at (world_after script h).fabric s ≡ true)
  ready = and_parts (is_switch (world_after script h).fabric s) (is_full_at (world_after script h).fabric s) (ready_is (world_after script h).fabric (Handle s) lawful)

  pub hand_full : is_full_at (world_after script h).fabric s ≡ true
  hand_full = ready.1

  pub hand_below : s < count (world_after script h).fabric
  hand_below = ltb-true s (count (world_after script h).fabric) ready.0

  pub hand_within : s < length script.wires.switches
  hand_within = subst (λ (x : ScriptOf). s < length x.wires.switches) (world_script script h) hand_below

  pub hand_filled : is_empty (station (world_after script h).fabric s).hand ≡ false
  hand_filled = by (is_empty (station (world_after script h).fabric s).hand) refl where
    by : (b : Bool) → is_empty (station (world_after script h).fabric s).hand ≡ b → is_empty (station (world_after script h).fabric s).hand ≡ false
    by false is = is
    by true is = absurd (true≢false (sym hand_full ∙ ap not is))

  pub hand_port : IsHandPort (station (world_after script h).fabric s).hand
  hand_port = ((fits_after script kept h).hands s hand_below).port

  pub hand_works : (switch : KeptOf) (bytes : List ℕ) → IsSwitchKept (world_after script h) s switch bytes → switch.works < 2 ^ 28
  hand_works switch bytes is =
      let works = is.works in
      let room = (fits_after script kept h).room in
      let most = (fits_after script kept h).script.limits.events_most in
      omega (arith, works, room, most)

  pub hand_working : (switch : KeptOf) (bytes : List ℕ) → IsSwitchKept (world_after script h) s switch bytes → IsWorking switch
  hand_working switch bytes is = is.stands.spent ∙ full_unspent script kept h s hand_within hand_full

-- A table that is due
module _ (script : ScriptOf) (kept : IsScript script) (h : List Event) (s : ℕ) (lawful : is_lawful (world_after script h).fabric (Load s) ≡ true) where
  due_ready : (is_switch (world_after script h).fabric s && not (is_full_at (world_after script h).fabric s) ≡ true) × (load_due_at (world_after script h).fabric s ≡ true)
  due_ready = and_parts (is_switch (world_after script h).fabric s && not (is_full_at (world_after script h).fabric s)) (load_due_at (world_after script h).fabric s) (ready_is (world_after script h).fabric (Load s) lawful)

  due_place : (is_switch (world_after script h).fabric s ≡ true) × (not (is_full_at (world_after script h).fabric s) ≡ true)
  due_place = and_parts (is_switch (world_after script h).fabric s) (not (is_full_at (world_after script h).fabric s)) due_ready.0

  pub due_within : s < length script.wires.switches
  due_within = subst (λ (x : ScriptOf). s < length x.wires.switches) (world_script script h) (ltb-true s (count (world_after script h).fabric) due_place.0)

  pub due_empty : is_full_at (world_after script h).fabric s ≡ false
  due_empty = by (is_full_at (world_after script h).fabric s) refl where
    by : (b : Bool) → is_full_at (world_after script h).fabric s ≡ b → is_full_at (world_after script h).fabric s ≡ false
    by false is = is
    by true is = absurd (true≢false (sym due_place.1 ∙ ap not is))

  pub due_here : (switch : KeptOf) (bytes : List ℕ) → IsSwitchKept (world_after script h) s switch bytes → IsLoadDue switch
  due_here switch bytes is = is.stands.load_due ∙ ap (λ (n : NoteOf). n.load_due) (sym (place_sound script kept h s due_within).note) ∙ due_ready.1

  pub to_load : (given : TableFor) (note : NoteOf) (new : KeptOf) → given.epoch ≡ ((world_after script h).switches s).epoch → Loads ((world_after script h).switches s) (StandsFor new) given.table
      → ((y : SwitchOf) → StandsFor new y → note ≡ note_of y) → IsToLoad (world_after script h) s given note
  to_load given note new epoch is shows = record {
    empty = due_empty;
    due = due_ready.1;
    topo = is.topo;
    finished = is.finished;
    graph = is.graph;
    numbers = is.numbers;
    as_many = sym is.as_many;
    epoch = epoch;
    table = is.is_table;
    note_is = shows (loaded given.table.number ((world_after script h).switches s)) is.stands;
  }

-- and the number that it has there
number_made : (topo : TopoOf) (any : Bool) (life : LifeId) (t : TableOf) → t ≡ table_of topo any life → t.number ≡ number_in topo life
unfolding table_of
number_made topo any life t made = ap (λ (u : TableOf). u.number) made

pub number_is : (x : SwitchOf) (new : KeptOf) (table : TableOf) (is : Loads x (StandsFor new) table) → table.number ≡ number_in is.topo x.life
number_is x new table is = number_made is.topo x.any x.life table (only_table is.topo x.any x.life table is.graph is.numbers (sym is.as_many) is.is_table)

pub to_number : (w : WorldOf) (s : ℕ) (table : TableFor) (note : NoteOf) (is : IsToLoad w s table note) → table.table.number ≡ number_in is.topo (w.switches s).life
to_number w s table note is =
    let x = w.switches s in
    number_made is.topo x.any x.life table.table (only_table is.topo x.any x.life table.table is.graph is.numbers is.as_many is.table)

pub load_told : (w : WorldOf) (s : ℕ) (table : TableFor) (note : NoteOf) (told : Line) → IsToLoad w s table note → told ≡ line.Load s table.epoch table.table.number → told ∷ [] ≡ lines_of w (Load s)
unfolding lines_of
load_told w s table note told is told_is =
    let x = w.switches s in
    ap (λ (y : Line). y ∷ []) told_is ∙ ap (λ (n : ℕ). line.Load s n table.table.number ∷ []) is.epoch ∙ ap (λ (n : ℕ). line.Load s x.epoch n ∷ []) (to_number w s table note is)
    ∙ ap (λ (o : Option TopoOf). load_lines o s x) (sym is.finished)
