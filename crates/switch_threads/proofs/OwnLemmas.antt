-- A worker keeps up with the world when an event of its own comes.

use Rattle.std.specs.Prelude.{◌≡◌, ◌+◌, ◌<◌, ◌≤◌, ℕ, List, [], ◌∷◌, ◌++◌, cond, length, nat_lt, not, Bool, Option, Some, None, true, false, refl}
use Rattle.std.specs.Global.{Box}
use Rattle.std.specs.Option.{option_map}
use Rattle.std.proofs.Common.{sym, ◌∙◌, ap, subst, arith, true≢false}
use Rattle.std.proofs.lemmas.List.Elements.{All-head}
use Rattle.an_base.specs.Ports.{NoteOf}
use Rattle.an_base.specs.Values.{LifeId, TopoOf}
use Rattle.an_base.specs.declared.event.Event.{Event}
use Rattle.an_base.specs.declared.event.Event.TheVariants.{Clock, Handle, Load, Restart, Take}
use Rattle.an_base.specs.declared.port.Sample.{Sample}
use Rattle.net_script.specs.Scripts.{IsScript, ScriptOf}
use Rattle.table_build.proofs.MadeTables.{only_table}
use Rattle.table_build.specs.Made.{number_in}
use Rattle.table_build.specs.Tables.{TableOf}
use Rattle.switch_core.specs.Kept.{KeptOf, StandsFor}
use Rattle.switch_core.specs.Steps.{loaded}
use Rattle.switch_core.specs.Switch.{SwitchOf, finish_of, note_of}
use Rattle.switch_core.specs.declared.switch.TableFor.{TableFor}
use Rattle.net_state.specs.declared.hand.Hand.TheVariants as hand
use Rattle.net_state.specs.declared.hand.Hand.{Hand}
use Rattle.net_state.specs.declared.work.Why.TheVariants as why
use Rattle.net_state.specs.declared.work.Work.TheVariants as work
use Rattle.net_state.specs.declared.work.Work.{Work}
use Rattle.net_state.specs.Choices.{event_of_work, frame_work, next_port, next_work}
use Rattle.net_state.specs.Effects.{restarted, showing}
use Rattle.net_state.specs.Fabric.{FabricOf, StationOf, clock_due_at, held_bytes, is_empty, is_full_at, is_some_spent, room, samples_of, station, table_at}
use Rattle.net_state.specs.Lawful.{is_barred, is_command, is_lawful}
use Rattle.net_state.specs.Starts.{next_life_at}
use Rattle.net_state.specs.declared.line.PlacedLine.{PlacedLine}
use Rattle.net_world.specs.Histories.{last_taken}
use Rattle.net_world.specs.Sound.{AllMayCome}
use Rattle.net_world.specs.Turns.{IsToLoad, TakesWork}
use Rattle.net_world.specs.World.{WorldOf, effect, handled, loads_with, next_life, start_of, table_for, world_after}
use Rattle.net_world.proofs.CountLemmas.{event_counts}
use Rattle.net_world.proofs.InductionLemmas.{world_script}
use Rattle.net_world.proofs.NextLemmas.{handle_is_lawful, load_is_lawful, work_is_lawful}
use Rattle.net_world.proofs.StaysLemmas.{handles_stay}
use Rattle.fabric_book.specs.Nets.{HasFrame, IsStarted, IsSwitchKept, PowerOf, start_with}
use Rattle.net_world.specs.declared.ask.Sheet.{Sheet}
use Rattle.fabric_book.proofs.BookLemmas.{world_more}
use Rattle.fabric_book.proofs.HandLemmas.{to_number}
use Rattle.fabric_book.proofs.OwnLemmas.{at_same, clock_own, restart_own, set_here, take_own}
use Rattle.switch_threads.specs.declared.desk.Pending.TheVariants as pending
use Rattle.switch_threads.specs.Workers.{HasInHand, IsPowerAt, KeepsUp}

-- What came of what was in hand was put
put_in : (script : ScriptOf) (h : List Event) (s : ℕ) (power : PowerOf) (switch : KeptOf) → IsPowerAt script s power → switch.start ≡ start_of script s ((world_after script h).switches s).life.boot
    → switch.works ≤ (world_after script h).fabric.events → StandsFor switch (handled s (world_after script h)).switch → KeepsUp script (effect (Handle s) (world_after script h)) s power switch pending.Work
unfolding effect
put_in script h s power switch at start works stands =
    let w = world_after script h in
    let here = at_same s (handled s w).switch w.switches in
    record {
      powered = at;
      start = start ∙ ap (λ (l : LifeId). start_of script s l.boot) (sym (ap (λ (x : SwitchOf). x.life) here ∙ (handles_stay (station w.fabric s).hand (held_bytes w.fabric s) (w.switches s)).life));
      works = omega (arith, works);
      fits = (
        ap (λ (x : StationOf). not (is_empty x.hand))
            (set_here script at.kept h s at.within (record (showing (note_of (handled s w).switch) (handled s w).switch.spent (station w.fabric s)) { hand = hand.Empty })),
        subst (StandsFor switch) (sym here) stands,
      );
    }

pub put_own : (script : ScriptOf) (h : List Event) (s : ℕ) (power : PowerOf) (switch : KeptOf) → KeepsUp script (world_after script h) s power switch pending.Put → KeepsUp script (world_after script (h ++ Handle s ∷ [])) s power switch pending.Work
put_own script h s power switch is =
    let lawful = handle_is_lawful script h s is.powered.within is.fits.0 in
    subst (λ (v : WorldOf). KeepsUp script v s power switch pending.Work) (sym (world_more script h (Handle s) lawful))
    (put_in script h s power switch is.powered is.start is.works is.fits.1)

-- its switch is the one that handled it then
pub handled_here : (script : ScriptOf) (h : List Event) (s : ℕ) → is_lawful (world_after script h).fabric (Handle s) ≡ true → (world_after script (h ++ Handle s ∷ [])).switches s ≡ (handled s (world_after script h)).switch
unfolding effect
handled_here script h s lawful =
    let w = world_after script h in
    ap (λ (v : WorldOf). v.switches s) (world_more script h (Handle s) lawful) ∙ at_same s (handled s w).switch w.switches

-- A table was loaded, with what was finished
record IsLoaded (script : ScriptOf) (w : WorldOf) (s : ℕ) (power : PowerOf) (switch : KeptOf) (topo : Option TopoOf) : Type 0 where
  now : KeepsUp script (loads_with topo s w) s power switch pending.Work

load_in : (script : ScriptOf) (h : List Event) (s : ℕ) (power : PowerOf) (switch : KeptOf) (topo : TopoOf) → IsPowerAt script s power → switch.start ≡ start_of script s ((world_after script h).switches s).life.boot
    → switch.works ≤ (world_after script h).fabric.events → is_full_at (world_after script h).fabric s ≡ false → StandsFor switch (loaded (number_in topo ((world_after script h).switches s).life) ((world_after script h).switches s))
    → IsLoaded script (world_after script h) s power switch (Some topo)
load_in script h s power switch topo at start works empty stands =
    let w = world_after script h in
    let here = at_same s (loaded (number_in topo (w.switches s).life) (w.switches s)) w.switches in
    record {
      now = record {
        powered = at;
        start = start ∙ ap (λ (x : SwitchOf). start_of script s x.life.boot) (sym here);
        works = omega (arith, works);
        fits = (
          ap (λ (x : StationOf). not (is_empty x.hand))
              (set_here script at.kept h s at.within (record (station w.fabric s) { table = Some (table_for topo (w.switches s)); note = note_of (loaded (number_in topo (w.switches s).life) (w.switches s)) })) ∙ empty,
          subst (StandsFor switch) (sym here) stands,
        );
      };
    }

load_on : (script : ScriptOf) (h : List Event) (s : ℕ) (power : PowerOf) (switch : KeptOf) (topo : TopoOf) → finish_of ((world_after script h).switches s) ≡ Some topo
    → IsLoaded script (world_after script h) s power switch (Some topo) → KeepsUp script (effect (Load s) (world_after script h)) s power switch pending.Work
unfolding effect
load_on script h s power switch topo finished is = (subst (IsLoaded script (world_after script h) s power switch) (sym finished) is).now

pub load_own : (script : ScriptOf) (h : List Event) (s : ℕ) (power : PowerOf) (switch : KeptOf) (sheet : Box Sheet) → KeepsUp script (world_after script h) s power switch (pending.Load sheet) → is_barred (world_after script h).fabric ≡ false
    → KeepsUp script (world_after script (h ++ Load s ∷ [])) s power switch pending.Work
load_own script h s power switch sheet is unbarred =
    let table = sheet.value.table in
    let w = world_after script h in
    let to = is.fits.0 in
    let lawful = load_is_lawful script h s is.powered.within unbarred to.empty to.due in
    let number = to_number w s table (note_of (loaded table.table.number (w.switches s))) to in
    subst (λ (v : WorldOf). KeepsUp script v s power switch pending.Work) (sym (world_more script h (Load s) lawful))
    (load_on script h s power switch to.topo to.finished
    (load_in script h s power switch to.topo is.powered is.start is.works to.empty (subst (λ (n : ℕ). StandsFor switch (loaded n (w.switches s))) number is.fits.1)))

-- its switch is the one that loaded it then, and that table is in use
loaded_by : (w : WorldOf) (s : ℕ) (topo : TopoOf) → finish_of (w.switches s) ≡ Some topo → (effect (Load s) w).switches s ≡ loaded (number_in topo (w.switches s).life) (w.switches s)
unfolding effect
loaded_by w s topo finished =
    ap (λ (o : Option TopoOf). (loads_with o s w).switches s) finished ∙ at_same s (loaded (number_in topo (w.switches s).life) (w.switches s)) w.switches

pub loaded_here : (script : ScriptOf) (h : List Event) (s : ℕ) (table : TableFor) (note : NoteOf) → is_lawful (world_after script h).fabric (Load s) ≡ true → IsToLoad (world_after script h) s table note
    → (world_after script (h ++ Load s ∷ [])).switches s ≡ loaded table.table.number ((world_after script h).switches s)
loaded_here script h s table note lawful to =
    let w = world_after script h in
    ap (λ (v : WorldOf). v.switches s) (world_more script h (Load s) lawful) ∙ loaded_by w s to.topo to.finished
    ∙ ap (λ (n : ℕ). loaded n (w.switches s)) (sym (to_number w s table note to))

used_by : (script : ScriptOf) → IsScript script → (h : List Event) (s : ℕ) → s < length script.wires.switches → (topo : TopoOf) → finish_of ((world_after script h).switches s) ≡ Some topo
    → table_at (effect (Load s) (world_after script h)).fabric s ≡ Some (table_for topo ((world_after script h).switches s)).table
unfolding effect
used_by script kept h s below topo finished =
    let w = world_after script h in
    ap (λ (o : Option TopoOf). table_at (loads_with o s w).fabric s) finished
    ∙ ap (λ (x : StationOf). option_map (λ (t : TableFor). t.table) x.table)
    (set_here script kept h s below (record (station w.fabric s) { table = Some (table_for topo (w.switches s)); note = note_of (loaded (number_in topo (w.switches s).life) (w.switches s)) }))

pub used_here : (script : ScriptOf) → IsScript script → (h : List Event) (s : ℕ) → s < length script.wires.switches → (table : TableFor) (note : NoteOf) → is_lawful (world_after script h).fabric (Load s) ≡ true
    → IsToLoad (world_after script h) s table note → table_at (effect (Load s) (world_after script h)).fabric s ≡ Some table.table
used_here script kept h s below table note lawful to =
    let y = (world_after script h).switches s in
    used_by script kept h s below to.topo to.finished ∙ ap (λ (t : TableOf). Some t) (sym (only_table to.topo y.any y.life table.table to.graph to.numbers to.as_many to.table))

-- What a work says of the fabric that chose it
abbrev pub IsOf : FabricOf → ℕ → Work → Type 0
IsOf f s (work.Clock now samples) = (now ≡ f.tick) × (samples ≡ samples_of f s)
IsOf f s (work.Restart life) = life ≡ next_life_at f s
IsOf f s (work.Frame port) = Unit {0}
IsOf f s (work.Nothing reason) = Unit {0}

work_is_of : (f : FabricOf) (s last : ℕ) → IsOf f s (next_work f s last)
work_is_of f s last = by (is_some_spent f) (nat_lt (room f) 2) (is_command f (Restart s)) (clock_due_at f s) (next_port f s last) where
  by : (spent full restart due : Bool) (port : Option ℕ)
      → IsOf f s (cond spent (work.Nothing why.Spent) (cond full (work.Nothing why.Full) (cond restart (work.Restart (next_life_at f s)) (cond due (work.Clock f.tick (samples_of f s)) (frame_work port)))))
  by true full restart due port = tt
  by false true restart due port = tt
  by false false true due port = refl
  by false false false true port = (refl, refl)
  by false false false false (Some port) = tt
  by false false false false None = tt

-- the event of a work that was taken may come
first_comes : (f : FabricOf) (e : Event) (events : List Event) → AllMayCome f events → events ≡ e ∷ [] → is_lawful f e ≡ true
first_comes f e events may is = All-head (λ event. is_lawful f event ≡ true) e [] (subst (AllMayCome f) is may)

-- the bytes of an empty hand
no_frame : (h : Hand) (held bytes : List ℕ) → not (is_empty h) ≡ false → HasFrame h held bytes
no_frame hand.Empty held bytes empty = tt
no_frame (hand.Clock now samples) held bytes empty = tt
no_frame (hand.Frame port) held bytes empty = absurd (true≢false empty)

-- Of a worker whose hand is empty, and which took its next work
module _ (script : ScriptOf) (h : List Event) (s : ℕ) (power : PowerOf) (switch : KeptOf) (is : KeepsUp script (world_after script h) s power switch pending.Work) where
  abbrev w : WorldOf
  w = world_after script h

  kept : (buffer : List ℕ) → IsSwitchKept w s switch buffer
  kept buffer = record {
    stands = is.fits.1;
    start = is.start ∙ ap (λ (x : ScriptOf). start_of x s (w.switches s).life.boot) (sym (world_script script h));
    works = is.works;
    frame = no_frame (station w.fabric s).hand (held_bytes w.fabric s) buffer is.fits.0;
  }

  more_works : (e : Event) → is_lawful w.fabric e ≡ true → switch.works < (world_after script (h ++ e ∷ [])).fabric.events
  more_works e lawful =
      let counts = event_counts script is.powered.kept h e lawful in
      let works = is.works in
      subst (λ (v : WorldOf). switch.works < v.fabric.events) (sym (world_more script h e lawful)) (omega (arith, counts, works))

  clock_hand : is_lawful w.fabric (Clock s) ≡ true → (station (world_after script (h ++ Clock s ∷ [])).fabric s).hand ≡ hand.Clock w.fabric.tick (samples_of w.fabric s)
  unfolding effect
  clock_hand lawful =
      ap (λ (v : WorldOf). (station v.fabric s).hand) (world_more script h (Clock s) lawful)
      ∙ ap (λ (x : StationOf). x.hand) (set_here script is.powered.kept h s is.powered.within (record (station w.fabric s) { hand = hand.Clock w.fabric.tick (samples_of w.fabric s); clock = w.fabric.tick + 1 }))

  take_hand : (port : ℕ) → is_lawful w.fabric (Take s port) ≡ true → (station (world_after script (h ++ Take s port ∷ [])).fabric s).hand ≡ hand.Frame port
  unfolding effect
  take_hand port lawful =
      ap (λ (v : WorldOf). (station v.fabric s).hand) (world_more script h (Take s port) lawful)
      ∙ ap (λ (x : StationOf). x.hand) (set_here script is.powered.kept h s is.powered.within (record (station w.fabric s) { hand = hand.Frame port }))

  restart_hand : is_lawful w.fabric (Restart s) ≡ true → is_full_at (world_after script (h ++ Restart s ∷ [])).fabric s ≡ false
  unfolding effect
  restart_hand lawful =
      ap (λ (v : WorldOf). is_full_at v.fabric s) (world_more script h (Restart s) lawful)
      ∙ ap (λ (x : StationOf). not (is_empty x.hand)) (set_here script is.powered.kept h s is.powered.within (restarted w.fabric.tick (note_of (next_life s w)) (station w.fabric s)))
      ∙ is.fits.0

  -- the switch is as it was
  pub clock_switch : is_lawful w.fabric (Clock s) ≡ true → (world_after script (h ++ Clock s ∷ [])).switches s ≡ w.switches s
  unfolding effect
  clock_switch lawful = ap (λ (v : WorldOf). v.switches s) (world_more script h (Clock s) lawful)

  pub take_switch : (port : ℕ) → is_lawful w.fabric (Take s port) ≡ true → (world_after script (h ++ Take s port ∷ [])).switches s ≡ w.switches s
  unfolding effect
  take_switch port lawful = ap (λ (v : WorldOf). v.switches s) (world_more script h (Take s port) lawful)

  pub clock_taken : (now : ℕ) (samples : List Sample) (buffer : List ℕ) → (now ≡ w.fabric.tick) × (samples ≡ samples_of w.fabric s) → is_lawful w.fabric (Clock s) ≡ true
      → HasInHand script (world_after script (h ++ Clock s ∷ [])) s power switch buffer (hand.Clock now samples)
  clock_taken now samples buffer chosen lawful =
      let there = clock_hand lawful in
      record {
        powered = is.powered;
        full = ap (λ (x : Hand). not (is_empty x)) there;
        hand_is = ap (λ (n : ℕ). hand.Clock n samples) chosen.0 ∙ ap (hand.Clock w.fabric.tick) chosen.1 ∙ sym there;
        kept = clock_own script is.powered.kept h s is.powered.within lawful switch [] buffer (kept []);
        more = more_works (Clock s) lawful;
      }

  pub frame_taken : (port : ℕ) (buffer : List ℕ) → is_lawful w.fabric (Take s port) ≡ true → buffer ≡ held_bytes (world_after script (h ++ Take s port ∷ [])).fabric s
      → HasInHand script (world_after script (h ++ Take s port ∷ [])) s power switch buffer (hand.Frame port)
  frame_taken port buffer lawful bytes =
      let there = take_hand port lawful in
      record {
        powered = is.powered;
        full = ap (λ (x : Hand). not (is_empty x)) there;
        hand_is = sym there;
        kept = take_own script is.powered.kept h s port is.powered.within lawful switch buffer buffer (kept buffer) bytes;
        more = more_works (Take s port) lawful;
      }

  pub life_begun : (life : LifeId) → life ≡ next_life_at w.fabric s → is_lawful w.fabric (Restart s) ≡ true → (new : KeptOf) → IsStarted (start_with power life) new
      → KeepsUp script (world_after script (h ++ Restart s ∷ [])) s power new pending.Work
  life_begun life chosen lawful new started =
      let v = world_after script (h ++ Restart s ∷ []) in
      let now = restart_own script is.powered.kept h s is.powered.within lawful switch new [] life (kept []) chosen (subst (λ (p : PowerOf). IsStarted (start_with p life) new) is.powered.power_is started) in
      record {
        powered = is.powered;
        start = now.start ∙ ap (λ (x : ScriptOf). start_of x s (v.switches s).life.boot) (world_script script (h ++ Restart s ∷ []));
        works = now.works;
        fits = (restart_hand lawful, now.stands);
      }

-- the lawful event of the work that was taken, and what the work says
pub taken_comes : (script : ScriptOf) (h : List Event) (s : ℕ) (job : Work) (e : Event) (out : List ℕ) (told : Option PlacedLine) (after : List Event) → s < length script.wires.switches → is_full_at (world_after script h).fabric s ≡ false
    → TakesWork script h s job out told after → event_of_work s job ≡ e ∷ [] → is_lawful (world_after script h).fabric e ≡ true
taken_comes script h s job e out told after below empty takes event =
    first_comes (world_after script h).fabric e (event_of_work s job)
    (subst (λ (j : Work). AllMayCome (world_after script h).fabric (event_of_work s j)) (sym takes.work_is) (work_is_lawful script h s (last_taken s h) below empty)) event

pub taken_of : (script : ScriptOf) (h : List Event) (s : ℕ) (job : Work) (out : List ℕ) (told : Option PlacedLine) (after : List Event) → TakesWork script h s job out told after → IsOf (world_after script h).fabric s job
taken_of script h s job out told after takes = subst (IsOf (world_after script h).fabric s) (sym takes.work_is) (work_is_of (world_after script h).fabric s (last_taken s h))
