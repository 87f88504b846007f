-- A worker and the driver, before and after a call of the turnstile.

use Rattle.std.specs.Prelude.{◌≡◌, ◌+◌, ◌<◌, ◌≤◌, ℕ, List, [], ◌++◌, length, not, option_to_list, Bool, Option, Some, IfSome, true, false, refl}
use Rattle.std.specs.List.{flat_map}
use Rattle.std.specs.Box.{with_value}
use Rattle.std.specs.Global.{Box}
use Rattle.std.proofs.Common.{sym, ◌∙◌, ap, subst, arith, append_assoc}
use Rattle.std.proofs.lemmas.List.{append-nil}
use Rattle.std.proofs.lemmas.List.FromFn.{get_or-map-range_with_len}
use Rattle.std.proofs.lemmas.Option.{same_Some}
use Rattle.an_base.specs.Ports.{NoteOf}
use Rattle.an_base.specs.Rows.{RowOf}
use Rattle.an_base.specs.declared.event.Event.{Event}
use Rattle.an_base.specs.declared.event.Event.TheVariants.{Clock, Load, Restart, Take}
use Rattle.net_graph.specs.Wires.{network}
use Rattle.net_script.specs.Scripts.{IsScript, ScriptOf, restarts_of}
use Rattle.switch_core.specs.Bytes.{BytesOut, OutOf}
use Rattle.switch_core.specs.Kept.{KeptOf, Loads, StandsFor}
use Rattle.switch_core.specs.Steps.{loaded}
use Rattle.switch_core.specs.Switch.{note_of, started_as}
use Rattle.switch_core.specs.declared.switch.TableFor.{TableFor}
use Rattle.net_state.specs.declared.ending.Ending.{Ending}
use Rattle.net_state.specs.declared.hand.Hand.{Hand}
use Rattle.net_state.specs.declared.hand.Hand.TheVariants as hand
use Rattle.net_state.specs.declared.work.Drive.{Drive}
use Rattle.net_state.specs.declared.work.Drive.TheVariants as drive
use Rattle.net_state.specs.declared.work.Work.{Work}
use Rattle.net_state.specs.declared.work.Work.TheVariants as work
use Rattle.net_state.specs.Fabric.{StationOf, held_bytes, is_empty, is_full_at, station, vacant}
use Rattle.net_state.specs.Lawful.{is_barred, is_lawful}
use Rattle.fabric_turn.specs.Calls.{Called, DifferByCalls}
use Rattle.fabric_turn.specs.History.{Extends, NoneOf, own_entries}
use Rattle.fabric_turn.specs.declared.view.View.{View}
use Rattle.net_world.specs.declared.ask.Ask.{Ask}
use Rattle.net_world.specs.declared.ask.Ask.TheVariants as ask
use Rattle.net_world.specs.declared.ask.Done.{Done}
use Rattle.net_world.specs.declared.ask.Reply.{Reply}
use Rattle.net_world.specs.declared.ask.Reply.TheVariants as reply
use Rattle.net_state.specs.declared.line.PlacedLine.{PlacedLine}
use Rattle.net_world.specs.Accounts.{AccountOf, account_of, placed}
use Rattle.net_world.specs.Histories.{end_of, owner_of}
use Rattle.net_world.specs.Turns.{AnswersAsk, AreTold, Drives, IsDone, IsToLoad, LoadsOrNot, PutsFrames, TakesWork, is_noise}
use Rattle.net_world.specs.World.{begun, first_station, handles, start_of, world_after}
use Rattle.net_world.proofs.InductionLemmas.{world_script}
use Rattle.net_world.proofs.NextLemmas.{handle_is_lawful, load_is_lawful}
use Rattle.net_world.proofs.PlaceLemmas.{world_places}
use Rattle.fabric_book.specs.Accounts.{HasAccount, IsAccount, with_lines, with_load}
use Rattle.fabric_book.specs.Nets.{HasFrame, IsHandled, IsStarted, PowerOf, power_of, start_with}
use Rattle.fabric_book.specs.declared.account.Account.{Account}
use Rattle.net_world.specs.declared.ask.Letter.{Letter}
use Rattle.net_world.specs.declared.ask.Parcel.{Parcel}
use Rattle.net_world.specs.declared.ask.Slip.{Slip}
use Rattle.net_world.specs.declared.ask.Sheet.{Sheet}
use Rattle.fabric_book.proofs.DriveLemmas.{driven, driver_owns}
use Rattle.fabric_book.proofs.HandLemmas.{done_is, stands_is}
use Rattle.switch_threads.specs.declared.desk.Desk.{Desk}
use Rattle.switch_threads.specs.declared.desk.Next.{Next}
use Rattle.switch_threads.specs.declared.desk.Next.TheVariants as next
use Rattle.switch_threads.specs.declared.desk.Papers.{Papers}
use Rattle.switch_threads.specs.declared.desk.Pending.{Pending}
use Rattle.switch_threads.specs.declared.desk.Pending.TheVariants as pending
use Rattle.switch_threads.specs.declared.desk.Tale.{Tale}
use Rattle.switch_threads.specs.Runs.{IsToldAt, SeatOf}
use Rattle.switch_threads.specs.Workers.{HasInHand, HasTold, IsAsking, IsDriving, IsInStep, IsNext, IsPrepared, IsToDo, IsUpTo, KeepsUp, done_with}
use Rattle.switch_threads.proofs.EndLemmas.{end_told, told_extends}
use Rattle.switch_threads.proofs.OwnLemmas.{clock_switch, clock_taken, frame_taken, handled_here, life_begun, load_own, loaded_here, put_own, take_switch, taken_comes, taken_of}
use Rattle.switch_threads.proofs.StayLemmas.{IsAtPlace, at_place, others_came, prepared_stays}
use Rattle.switch_threads.proofs.ToldLemmas.{drive_told, load_told, put_told, tells_on, work_told}

-- At first
first_empty : (script : ScriptOf) (s : ℕ) → s < length script.wires.switches → is_full_at (begun script).fabric s ≡ false
first_empty script s below =
    ap (λ (x : StationOf). not (is_empty x.hand)) (get_or-map-range_with_len (first_station script) 0 (length script.wires.switches) s s vacant below (omega arith))

pub begun_fits : (script : ScriptOf) (s : ℕ) (power : PowerOf) (switch : KeptOf) → IsScript script → s < length script.wires.switches → power ≡ power_of script s
    → IsStarted (start_with power ((network script.wires).life s)) switch → KeepsUp script (world_after script []) s power switch pending.Work
unfolding world_after
begun_fits script s power switch kept below power_is started =
    let same : start_with power ((network script.wires).life s) ≡ start_of script s 1 = ap (λ (p : PowerOf). start_with p ((network script.wires).life s)) power_is in
    let none = started.works in
    record {
      powered = record { kept = kept; within = below; power_is = power_is };
      start = started.start_is ∙ same;
      works = omega (arith, none);
      fits = (first_empty script s below, subst (StandsFor switch) (ap started_as same) started.stands);
    }

-- A table that is due
pub due_fits : (script : ScriptOf) (h : List Event) (s : ℕ) (power : PowerOf) (old new : KeptOf) (sheet : Box Sheet) → KeepsUp script (world_after script h) s power old pending.Work
    → ((world_after script h).switches s).load_due ≡ true → sheet.value.table.epoch ≡ ((world_after script h).switches s).epoch → Loads ((world_after script h).switches s) (StandsFor new) sheet.value.table.table → new.start ≡ old.start → new.works ≡ old.works
    → KeepsUp script (world_after script h) s power new (pending.Load sheet)
due_fits script h s power old new sheet is due epoch loads start works_are =
    let works = is.works in
    record {
      powered = is.powered;
      start = start ∙ is.start;
      works = omega (arith, works, works_are);
      fits = (
        record {
          empty = is.fits.0;
          due = ap (λ (n : NoteOf). n.load_due) (world_places script is.powered.kept h s is.powered.within).note ∙ due;
          topo = loads.topo;
          finished = loads.finished;
          graph = loads.graph;
          numbers = loads.numbers;
          as_many = sym loads.as_many;
          epoch = epoch;
          table = loads.is_table;
          note_is = refl;
        },
        loads.stands,
      );
    }

-- What is in hand was handled
same_noise : (h : Hand) (held bytes : List ℕ) → HasFrame h held bytes → is_noise h bytes ≡ is_noise h held
same_noise hand.Empty held bytes has = refl
same_noise (hand.Clock now samples) held bytes has = refl
same_noise (hand.Frame port) held bytes has = ap (λ (b : List ℕ). is_noise (hand.Frame port) b) has

module _ (script : ScriptOf) (h : List Event) (s : ℕ) (power : PowerOf) (old new : KeptOf) (buffer : List ℕ) (in_hand : Hand) (out : OutOf) (is : HasInHand script (world_after script h) s power old buffer in_hand)
    (does : IsHandled ((world_after script h).switches s) in_hand buffer new out) where
  pub handled_fits : new.start ≡ old.start → new.works ≡ old.works + 1 → KeepsUp script (world_after script h) s power new pending.Put
  handled_fits start works_are =
      let w = world_after script h in
      let more = is.more in
      record {
        powered = is.powered;
        start = start ∙ is.kept.start ∙ ap (λ (x : ScriptOf). start_of x s (w.switches s).life.boot) (world_script script h);
        works = omega (arith, more, works_are);
        fits = (is.full, stands_is w s in_hand buffer is.hand_is is.kept.frame new does.stands);
      }

  pub handled_done : (done : Done) → done ≡ done_with out (handles in_hand buffer ((world_after script h).switches s)).switch → IsDone (world_after script h) s done
  handled_done done laid =
      let w = world_after script h in
      let there = station w.fabric s in
      let y = (handles in_hand buffer (w.switches s)).switch in
      subst (IsDone w s) (sym laid) (record {
        handled_is = done_is w s in_hand buffer is.hand_is is.kept.frame out.frames (note_of y) y.spent is.full does.frames refl refl;
        noframe = does.noframe ∙ ap (λ (k : Hand). is_noise k buffer) is.hand_is ∙ same_noise there.hand (held_bytes w.fabric s) buffer is.kept.frame;
      })

-- Of a seat that made a call
abbrev pub AnswersBook : ScriptOf → List Event → ℕ → Ask → Reply → List Event → Type 0
AnswersBook script history caller asked answer after = AnswersAsk script history asked answer after

module _ (view after : View Event ScriptOf) (asked : Ask) (answer : Reply) (called : Called owner_of AnswersBook view asked answer after) where
  pub calls_differ : DifferByCalls view after
  calls_differ =
      called.same ∙ ap (λ (xs : List Event). record view { seen = after.seen; mine = xs }) (sym (ap (λ (v : View Event ScriptOf). v.mine) called.same))

  pub start_stays : (script : ScriptOf) → view.start ≡ Some script → after.start ≡ Some script
  start_stays script begun = ap (λ (v : View Event ScriptOf). v.start) called.same ∙ begun

  pub number_stays : (number : ℕ) → view.number ≡ number → after.number ≡ number
  number_stays number is = ap (λ (v : View Event ScriptOf). v.number) called.same ∙ is

  pub seen_extends : Extends view.seen after.seen
  seen_extends = (called.between ++ called.added, called.seen ∙ append_assoc view.seen called.between called.added)

  pub answered : (script : ScriptOf) → view.start ≡ Some script → AnswersAsk script (view.seen ++ called.between) asked answer after.seen
  answered script begun =
      subst (λ (x : ScriptOf). AnswersAsk x (view.seen ++ called.between) asked answer after.seen) (same_Some called.start script (sym called.begun ∙ begun)) called.answer

  -- of a worker
  module _ (place : ℕ) (power : PowerOf) (switch : KeptOf) (next : Pending) (step : IsAtPlace view place power switch next) where
    others_there : NoneOf owner_of (place + 1) called.between
    others_there = subst (λ (n : ℕ). NoneOf owner_of n called.between) step.number called.others

    pub moment : KeepsUp step.script (world_after step.script (view.seen ++ called.between)) place power switch next
    moment = others_came step.script step.keeps_up.powered.kept view.seen called.between place step.keeps_up.powered.within others_there power switch next step.keeps_up

    pub prepared_then : (parcel : Parcel) (tale : Tale) → IsPrepared (world_after step.script view.seen) place parcel tale next → IsPrepared (world_after step.script (view.seen ++ called.between)) place parcel tale next
    prepared_then parcel tale is = prepared_stays step.script step.keeps_up.powered.kept view.seen called.between place step.keeps_up.powered.within others_there parcel tale next is

    -- which tells of what came
    pub tells_there : (old new : Account) (more : AccountOf → AccountOf) → ((told : AccountOf) → IsAccount told old → IsAccount (more told) new)
        → account_of step.script (place + 1) after.seen ≡ more (account_of step.script (place + 1) (view.seen ++ called.between)) → HasTold step.script view old → HasTold step.script after new
    tells_there old new more adds next told =
        tells_on view after asked answer called step.script old new more adds
        (subst (λ (n : ℕ). account_of step.script n after.seen ≡ more (account_of step.script n (view.seen ++ called.between))) (sym step.number) next) told

-- what came of what was in hand was put
module _ (view after : View Event ScriptOf) (place : ℕ) (power : PowerOf) (switch : KeptOf) (given answer : Box Parcel) (step : IsAtPlace view place power switch pending.Put)
    (called : Called owner_of AnswersBook view (ask.Put place given) (reply.Put answer) after) where
  pub put_does : PutsFrames step.script (view.seen ++ called.between) place given.value answer.value after.seen
  put_does = answered view after (ask.Put place given) (reply.Put answer) called step.script step.begun

  pub put_moment : KeepsUp step.script (world_after step.script (view.seen ++ called.between)) place power switch pending.Put
  put_moment = moment view after (ask.Put place given) (reply.Put answer) called place power switch pending.Put step

  pub put_keeps : KeepsUp step.script (world_after step.script after.seen) place power switch pending.Work
  put_keeps =
      subst (λ (xs : List Event). KeepsUp step.script (world_after step.script xs) place power switch pending.Work) (sym put_does.event)
      (put_own step.script (view.seen ++ called.between) place power switch put_moment)

  module _ (tale : Tale) (prepared : IsPrepared (world_after step.script view.seen) place given.value tale pending.Put) where
    put_prepared : IsPrepared (world_after step.script (view.seen ++ called.between)) place given.value tale pending.Put
    put_prepared = prepared_then view after (ask.Put place given) (reply.Put answer) called place power switch pending.Put step given.value tale prepared

    -- its switch shows the same
    pub put_note : answer.value.done.note ≡ note_of ((world_after step.script after.seen).switches place)
    put_note =
        let h = view.seen ++ called.between in
        let lawful = handle_is_lawful step.script h place step.keeps_up.powered.within put_moment.fits.0 in
        ap (λ (d : Done). d.note) put_does.same ∙ put_prepared.0.handled_is.note_is ∙ ap note_of (sym (handled_here step.script h place lawful))
        ∙ ap (λ (xs : List Event). note_of ((world_after step.script xs).switches place)) (sym put_does.event)

    -- and it tells of that
    pub put_tells : (old new : Account) → ((told : AccountOf) → IsAccount told old → IsAccount (with_lines (placed answer.value.event (tale.lines ++ flat_map option_to_list answer.value.puts.items)) told) new)
        → HasTold step.script view old → HasTold step.script after new
    put_tells old new adds told =
        let h = view.seen ++ called.between in
        let same : answer.value.done.frames ≡ given.value.done.frames = ap (λ (d : Done). d.frames) put_does.same in
        tells_there view after (ask.Put place given) (reply.Put answer) called place power switch pending.Put step old new (with_lines (placed answer.value.event (tale.lines ++ flat_map option_to_list answer.value.puts.items))) adds
        (put_told step.script h after.seen place answer.value.done.frames answer.value.puts.items tale.lines answer.value.event (same ∙ put_prepared.0.handled_is.frames_are)
        (subst (λ (frames : List BytesOut). AreTold (world_after step.script h).fabric place frames answer.value.puts.items) (sym same) put_does.puts_are) put_prepared.1 put_does.event put_does.number_is) told

-- a table is to be loaded, whose sheet is written on
pub written_on : (view : View Event ScriptOf) (desk : Desk) (papers : Papers) (sheet : Box Sheet) (now : Sheet) → now ≡ sheet.value → IsAsking view desk papers (pending.Load sheet) → IsAsking view desk papers (pending.Load (with_value sheet now))
written_on view desk papers sheet now same step = subst (λ (s : Sheet). IsAsking view desk papers (pending.Load (with_value sheet s))) (sym same) step

-- it was loaded, or is left to be loaded
abbrev pub IsLeft : Reply → Pending → Type 0
IsLeft (reply.Loaded told) left = left ≡ pending.Work
IsLeft (reply.NotNow sheet) left = left ≡ pending.Load sheet
IsLeft other left = ⊥

abbrev pub told_of_load : Reply → List RowOf → AccountOf → AccountOf
told_of_load (reply.Loaded line) rows told = with_load line rows told
told_of_load other rows told = told

module _ (view after : View Event ScriptOf) (place : ℕ) (power : PowerOf) (switch : KeptOf) (sheet given : Box Sheet) (answer : Reply) (same : sheet.value.table ≡ given.value.table)
    (step : IsAtPlace view place power switch (pending.Load sheet)) (called : Called owner_of AnswersBook view (ask.Load place given) answer after) where
  load_moment : KeepsUp step.script (world_after step.script (view.seen ++ called.between)) place power switch (pending.Load sheet)
  load_moment = moment view after (ask.Load place given) answer called place power switch (pending.Load sheet) step

  load_does : LoadsOrNot (is_barred (world_after step.script (view.seen ++ called.between)).fabric) given answer place step.script (view.seen ++ called.between) after.seen
  load_does = answered view after (ask.Load place given) answer called step.script step.begun

  load_lawful : is_barred (world_after step.script (view.seen ++ called.between)).fabric ≡ false → is_lawful (world_after step.script (view.seen ++ called.between)).fabric (Load place) ≡ true
  load_lawful free = load_is_lawful step.script (view.seen ++ called.between) place step.keeps_up.powered.within free load_moment.fits.0.empty load_moment.fits.0.due

  pub load_keeps : (left : Pending) → IsLeft answer left → KeepsUp step.script (world_after step.script after.seen) place power switch left
  load_keeps left leaves = by (is_barred (world_after step.script (view.seen ++ called.between)).fabric) refl load_does where
    Keeps : List Event → Pending → Type 0
    Keeps seen next = KeepsUp step.script (world_after step.script seen) place power switch next

    by : (b : Bool) → is_barred (world_after step.script (view.seen ++ called.between)).fabric ≡ b → LoadsOrNot b given answer place step.script (view.seen ++ called.between) after.seen → Keeps after.seen left
    by false free does =
        let none : left ≡ pending.Work = subst (λ (a : Reply). IsLeft a left) does.answer_is leaves in
        subst (Keeps after.seen) (sym none)
        (subst (λ (xs : List Event). Keeps xs pending.Work) (sym does.event) (load_own step.script (view.seen ++ called.between) place power switch sheet load_moment free))
    by true barred does =
        let back : left ≡ pending.Load given = subst (λ (a : Reply). IsLeft a left) does.0 leaves in
        let w = world_after step.script (view.seen ++ called.between) in
        let fits = subst (λ (t : TableFor). IsToLoad w place t (note_of (loaded t.table.number (w.switches place))) × StandsFor switch (loaded t.table.number (w.switches place))) same load_moment.fits in
        let keeps : Keeps (view.seen ++ called.between) (pending.Load given) = record { powered = load_moment.powered; start = load_moment.start; works = load_moment.works; fits = fits } in
        subst (Keeps after.seen) (sym back) (subst (λ (xs : List Event). Keeps xs (pending.Load given)) (sym does.1) keeps)

  -- it shows the same, and has the same rows where the table is to be loaded later
  pub load_prepared : (shown : Parcel) (tale : Tale) → IsPrepared (world_after step.script view.seen) place shown tale (pending.Load sheet) → (left : Pending) → IsLeft answer left → IsPrepared (world_after step.script after.seen) place shown tale left
  load_prepared shown tale prepared left leaves = by (is_barred (world_after step.script (view.seen ++ called.between)).fabric) refl load_does where
    now : IsPrepared (world_after step.script (view.seen ++ called.between)) place shown tale (pending.Load sheet)
    now = prepared_then view after (ask.Load place given) answer called place power switch (pending.Load sheet) step shown tale prepared

    by : (b : Bool) → is_barred (world_after step.script (view.seen ++ called.between)).fabric ≡ b → LoadsOrNot b given answer place step.script (view.seen ++ called.between) after.seen
        → IsPrepared (world_after step.script after.seen) place shown tale left
    by false free does =
        let h = view.seen ++ called.between in
        let table = sheet.value.table in
        let none : left ≡ pending.Work = subst (λ (a : Reply). IsLeft a left) does.answer_is leaves in
        let loads = loaded_here step.script h place table (note_of (loaded table.table.number ((world_after step.script h).switches place))) (load_lawful free) load_moment.fits.0 in
        subst (IsPrepared (world_after step.script after.seen) place shown tale) (sym none)
        (now.0 ∙ ap note_of (sym loads) ∙ ap (λ (xs : List Event). note_of ((world_after step.script xs).switches place)) (sym does.event))
    by true barred does =
        let back : left ≡ pending.Load given = subst (λ (a : Reply). IsLeft a left) does.0 leaves in
        let w = world_after step.script (view.seen ++ called.between) in
        let shows = subst (λ (t : TableFor). (shown.done.note ≡ note_of (loaded t.table.number (w.switches place))) × (tale.rows.items ≡ t.table.rows)) same now in
        subst (IsPrepared (world_after step.script after.seen) place shown tale) (sym back)
        (subst (λ (xs : List Event). IsPrepared (world_after step.script xs) place shown tale (pending.Load given)) (sym does.1) shows)

  -- and it tells of that
  pub load_tells : (old new : Account) → ((told : AccountOf) → IsAccount told old → IsAccount (told_of_load answer sheet.value.table.table.rows told) new) → HasTold step.script view old → HasTold step.script after new
  load_tells old new adds told =
      tells_there view after (ask.Load place given) answer called place power switch (pending.Load sheet) step old new (told_of_load answer sheet.value.table.table.rows) adds
      (by (is_barred (world_after step.script (view.seen ++ called.between)).fabric) refl load_does) told
    where
      Next : Reply → Type 0
      Next a = account_of step.script (place + 1) after.seen ≡ told_of_load a sheet.value.table.table.rows (account_of step.script (place + 1) (view.seen ++ called.between))

      by : (b : Bool) → is_barred (world_after step.script (view.seen ++ called.between)).fabric ≡ b → LoadsOrNot b given answer place step.script (view.seen ++ called.between) after.seen → Next answer
      by false free does =
          let h = view.seen ++ called.between in
          let at = step.keeps_up.powered in
          let table = sheet.value.table in
          let note = note_of (loaded table.table.number ((world_after step.script h).switches place)) in
          subst Next (sym does.answer_is)
          (load_told step.script at.kept h after.seen place at.within table note does.told (load_lawful free) load_moment.fits.0 does.event does.told_is)
      by true barred does = subst Next (sym does.0) (ap (account_of step.script (place + 1)) does.1)

-- what was read was told
pub tells_that : (old new : Account) (read told : Option PlacedLine) → read ≡ told → ((was : AccountOf) → IsAccount was old → IsAccount (with_lines (option_to_list read) was) new)
    → (was : AccountOf) → IsAccount was old → IsAccount (with_lines (option_to_list told) was) new
tells_that old new read told same adds = subst (λ (line : Option PlacedLine). (was : AccountOf) → IsAccount was old → IsAccount (with_lines (option_to_list line) was) new) same adds

-- work was taken
module _ (script : ScriptOf) (h seen : List Event) (desk : Desk) (papers : Papers) (letter : Box Letter) (tale : Tale) (now : IsUpTo script h desk papers pending.Work) (asks : desk.pending ≡ pending.Work) where
  pub to_do : (job : Work) → TakesWork script h desk.s job letter.value.buffer letter.value.told seen → IsToDo script seen (record desk { tale = tale }) (record papers { letter = letter }) job
  to_do (work.Nothing reason) takes =
      let same : h ≡ seen = sym (takes.event ∙ append-nil h) in
      subst (IsUpTo script seen (record desk { tale = tale }) (record papers { letter = letter })) (sym asks) (record {
        keeps_up = subst (λ (xs : List Event). KeepsUp script (world_after script xs) desk.s desk.power_on desk.switch.value pending.Work) same now.keeps_up;
        prepared = now.prepared ∙ ap (λ (xs : List Event). note_of ((world_after script xs).switches desk.s)) same;
      })
  to_do (work.Clock tick samples) takes =
      let at = now.keeps_up in
      let lawful = taken_comes script h desk.s (work.Clock tick samples) (Clock desk.s) letter.value.buffer letter.value.told seen at.powered.within at.fits.0 takes refl in
      record {
        has = subst (λ (xs : List Event). HasInHand script (world_after script xs) desk.s desk.power_on desk.switch.value letter.value.buffer (hand.Clock tick samples)) (sym takes.event)
            (clock_taken script h desk.s desk.power_on desk.switch.value at tick samples letter.value.buffer (taken_of script h desk.s (work.Clock tick samples) letter.value.buffer letter.value.told seen takes) lawful);
        note_is = now.prepared ∙ ap note_of (sym (clock_switch script h desk.s desk.power_on desk.switch.value at lawful))
            ∙ ap (λ (xs : List Event). note_of ((world_after script xs).switches desk.s)) (sym takes.event);
      }
  to_do (work.Frame port) takes =
      let at = now.keeps_up in
      let lawful = taken_comes script h desk.s (work.Frame port) (Take desk.s port) letter.value.buffer letter.value.told seen at.powered.within at.fits.0 takes refl in
      record {
        has = subst (λ (xs : List Event). HasInHand script (world_after script xs) desk.s desk.power_on desk.switch.value letter.value.buffer (hand.Frame port)) (sym takes.event)
            (frame_taken script h desk.s desk.power_on desk.switch.value at port letter.value.buffer lawful (takes.bytes ∙ ap (λ (xs : List Event). held_bytes (world_after script xs).fabric desk.s) takes.event));
        note_is = now.prepared ∙ ap note_of (sym (take_switch script h desk.s desk.power_on desk.switch.value at port lawful))
            ∙ ap (λ (xs : List Event). note_of ((world_after script xs).switches desk.s)) (sym takes.event);
      }
  to_do (work.Restart life) takes = λ new started.
      let at = now.keeps_up in
      subst (λ (xs : List Event). KeepsUp script (world_after script xs) desk.s desk.power_on new pending.Work) (sym takes.event)
      (life_begun script h desk.s desk.power_on desk.switch.value at life (taken_of script h desk.s (work.Restart life) letter.value.buffer letter.value.told seen takes)
      (taken_comes script h desk.s (work.Restart life) (Restart desk.s) letter.value.buffer letter.value.told seen at.powered.within at.fits.0 takes refl) new started)

pub take_step : (view after : View Event ScriptOf) (desk : Desk) (papers : Papers) (letter : Box Letter) (tale : Tale) → desk.pending ≡ pending.Work → IsAsking view desk papers pending.Work
    → Called owner_of AnswersBook view (ask.Take desk.s papers.letter) (reply.Take letter) after
    → ((was : AccountOf) → IsAccount was desk.tale.account → IsAccount (with_lines (option_to_list letter.value.told) was) tale.account) → IsInStep after (record desk { tale = tale }) (record papers { letter = letter }) next.Do
take_step view after desk papers letter tale asks step called adds =
    let asked = ask.Take desk.s papers.letter in
    let answer = reply.Take letter in
    let at = at_place view desk papers pending.Work step in
    let h = view.seen ++ called.between in
    let does = answered view after asked answer called step.script step.begun in
    let now : IsUpTo step.script h desk papers pending.Work = record {
      keeps_up = moment view after asked answer called desk.s desk.power_on desk.switch.value pending.Work at;
      prepared = prepared_then view after asked answer called desk.s desk.power_on desk.switch.value pending.Work at papers.parcel.value desk.tale step.fits.prepared;
    } in
    record {
      script = step.script;
      begun = start_stays view after asked answer called step.script step.begun;
      number = number_stays view after asked answer called (desk.s + 1) step.number;
      fits = to_do step.script h after.seen desk papers letter tale now asks letter.value.work does;
      told = tells_there view after asked answer called desk.s desk.power_on desk.switch.value pending.Work at desk.tale.account tale.account (with_lines (option_to_list letter.value.told)) adds
          (ap (account_of step.script (desk.s + 1)) does.event ∙ work_told step.script h desk.s letter.value.work ∙ ap (λ (lines : List PlacedLine). with_lines lines (account_of step.script (desk.s + 1) h)) (sym does.told_is)) step.told;
    }

-- what is to be asked for is taken in hand
pub in_hand : (view : View Event ScriptOf) (desk : Desk) (papers : Papers) (asked left : Pending) → desk.pending ≡ asked → IsInStep view desk papers next.Ask → IsAsking view (record desk { pending = left }) papers asked
in_hand view desk papers asked left is step = record {
  script = step.script;
  begun = step.begun;
  number = step.number;
  fits = record {
    keeps_up = subst (KeepsUp step.script (world_after step.script view.seen) desk.s desk.power_on desk.switch.value) is step.fits.keeps_up;
    prepared = subst (IsPrepared (world_after step.script view.seen) desk.s papers.parcel.value desk.tale) is step.fits.prepared;
  };
  told = step.told;
}

-- what is to be done before a turn was done
pub ready_step : (view : View Event ScriptOf) (desk new : Desk) (papers filled : Papers) (before then : Next) (step : IsInStep view desk papers before) → new.s ≡ desk.s → new.tale.account ≡ desk.tale.account
    → IsNext step.script view.seen new filled then → IsInStep view new filled then
ready_step view desk new papers filled before then step place account fits = record {
  script = step.script;
  begun = step.begun;
  number = step.number ∙ ap (λ (n : ℕ). n + 1) (sym place);
  fits = fits;
  told = subst (HasTold step.script view) (sym account) step.told;
}

-- a worker that has papers is in step
pub with_papers : (view : View Event ScriptOf) (has : Option Papers) (desk : Desk) (papers : Papers) (then : Next) → has ≡ Some papers → IfSome has (λ papers. IsInStep view desk papers then) → IsInStep view desk papers then
with_papers view has desk papers then is step = subst (λ (o : Option Papers). IfSome o (λ papers. IsInStep view desk papers then)) is step

-- of nothing nothing is told
pub first_told : (view : View Event ScriptOf) (script : ScriptOf) (account : Account) → view.seen ≡ [] → view.mine ≡ [] → IsAccount (record { lines = []; rows = [] }) account → HasTold script view account
first_told view script account seen mine none = record {
  own = ap (λ (h : List Event). own_entries owner_of h view.number) seen ∙ sym mine;
  account_is = subst (λ (h : List Event). IsAccount (account_of script view.number h) account) (sym seen) none;
}

-- an account of which no memory was wanting is of all of them
pub told_at : (seat : SeatOf) (script : ScriptOf) (account : Account) → seat.1.start ≡ Some script → HasTold script seat.1 account → account.failed ≡ false → IsToldAt seat account
told_at seat script account begun told whole = (
  told.own,
  λ other is. subst (λ (s : ScriptOf). HasAccount (account_of s seat.1.number seat.1.seen) account) (same_Some script other (sym begun ∙ is)) (told.account_is whole),
)

-- a worker that begins
pub begun_step : (view : View Event ScriptOf) (script : ScriptOf) (s : ℕ) (desk : Desk) (papers : Papers) → view.start ≡ Some script → view.number ≡ s + 1 → (view.seen ≡ []) × (view.mine ≡ []) → desk.s ≡ s
    → IsUpTo script [] desk papers desk.pending → IsAccount (record { lines = []; rows = [] }) desk.tale.account → IsInStep view desk papers next.Ask
begun_step view script s desk papers begun number first place up none = record {
  script = script;
  begun = begun;
  number = number ∙ ap (λ (n : ℕ). n + 1) (sym place);
  fits = subst (λ (h : List Event). IsUpTo script h desk papers desk.pending) (sym first.0) up;
  told = first_told view script desk.tale.account first.0 first.1 none;
}

-- the number of a worker's place
pub place_few : (script : ScriptOf) (history : List Event) (desk : Desk) (papers : Papers) (next : Pending) → IsUpTo script history desk papers next → desk.s + 1 ≤ 126
place_few script history desk papers next up =
    let at = up.keeps_up.powered in
    let within = at.within in
    let lives : length script.wires.switches + restarts_of script.commands ≤ 126 = at.kept.lives in
    omega (arith, within, lives)

-- the driver did something, or waits, or was told an end
abbrev pub end_after : Drive → Option Ending → Option Ending
end_after (drive.Did event) end = end
end_after drive.Waits end = end
end_after (drive.Ended end) before = Some end

pub drive_step : (view after : View Event ScriptOf) (end : Option Ending) (old new : Account) (slip answer : Box Slip) → IsDriving view end old → Called owner_of AnswersBook view (ask.Drive slip) (reply.Drive answer) after
    → ((was : AccountOf) → IsAccount was old → IsAccount (with_lines (option_to_list answer.value.told) was) new) → IsDriving after (end_after answer.value.drive end) new
drive_step view after end old new slip answer is called adds = record {
  script = is.script;
  kept = is.kept;
  begun = start_stays view after (ask.Drive slip) (reply.Drive answer) called is.script is.begun;
  number = number_stays view after (ask.Drive slip) (reply.Drive answer) called 0 is.number;
  end_is = by did does;
  told = tells_on view after (ask.Drive slip) (reply.Drive answer) called is.script old new (with_lines (option_to_list told)) adds
      (subst (λ (n : ℕ). account_of is.script n after.seen ≡ with_lines (option_to_list told) (account_of is.script n h)) (sym is.number)
      (ap (account_of is.script 0) does.event ∙ drive_told is.script h did own ∙ ap (λ (lines : List PlacedLine). with_lines lines (account_of is.script 0 h)) (sym does.told_is))) is.told;
} where
  did : Drive
  did = answer.value.drive

  told : Option PlacedLine
  told = answer.value.told

  h : List Event
  h = view.seen ++ called.between

  does : Drives is.script h did told after.seen
  does = answered view after (ask.Drive slip) (reply.Drive answer) called is.script is.begun

  own : (e : Event) → did ≡ drive.Did e → owner_of e ≡ 0
  own e is_that =
      let f = (world_after is.script h).fabric in
      driver_owns f e (subst IsScript (sym (world_script is.script h)) is.kept) (driven f e (sym does.drive_is ∙ is_that))

  goes : Extends view.seen after.seen
  goes = seen_extends view after (ask.Drive slip) (reply.Drive answer) called

  by : (d : Drive) → Drives is.script h d told after.seen → IfSome (end_after d end) (λ e. end_of is.script after.seen ≡ Some e)
  by (drive.Did event) does = told_extends is.script view.seen after.seen end goes is.end_is
  by drive.Waits does = told_extends is.script view.seen after.seen end goes is.end_is
  by (drive.Ended last) does = end_told is.script h after.seen last told does
