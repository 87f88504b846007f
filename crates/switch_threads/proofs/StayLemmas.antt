-- What a worker has keeps up with the world when events of others come.

use Rattle.std.specs.Prelude.{◌≡◌, ◌≢◌, ◌+◌, ◌<◌, ◌≤◌, ℕ, List, [], ◌∷◌, ◌++◌, All, length, not, slice_index_or, Some}
use Rattle.std.proofs.Common.{sym, ◌∙◌, ap, subst, arith, append_assoc}
use Rattle.std.proofs.lemmas.List.{append-nil}
use Rattle.an_base.specs.declared.event.Event.{Event}
use Rattle.net_script.specs.Scripts.{IsScript, ScriptOf}
use Rattle.wire_set.specs.WireState.{hand_of}
use Rattle.switch_core.specs.Kept.{KeptOf, StandsFor}
use Rattle.switch_core.specs.Steps.{Step, loaded}
use Rattle.switch_core.specs.Switch.{SwitchOf, note_of}
use Rattle.net_state.specs.Fabric.{StationOf, held_bytes, is_empty, station}
use Rattle.fabric_turn.specs.History.{NoneOf}
use Rattle.fabric_turn.specs.declared.view.View.{View}
use Rattle.net_world.specs.Histories.{owner_of}
use Rattle.net_world.specs.Turns.{IsToLoad}
use Rattle.net_world.specs.World.{handled, start_of, world_after}
use Rattle.net_world.proofs.CountLemmas.{event_counts}
use Rattle.net_world.proofs.ElsewhereLemmas.{AreSameAt, world_elsewhere}
use Rattle.net_world.proofs.FitLemmas.{done_stays, handled_same, others_from_none, to_load_stays, world_hand_elsewhere}
use Rattle.net_world.proofs.InductionLemmas.{kept_by}
use Rattle.fabric_book.specs.Nets.{PowerOf}
use Rattle.fabric_book.specs.Told.{hand_lines}
use Rattle.net_world.specs.declared.ask.Parcel.{Parcel}
use Rattle.switch_threads.specs.declared.desk.Desk.{Desk}
use Rattle.switch_threads.specs.declared.desk.Papers.{Papers}
use Rattle.switch_threads.specs.declared.desk.Pending.{Pending}
use Rattle.switch_threads.specs.declared.desk.Pending.TheVariants as pending
use Rattle.switch_threads.specs.declared.desk.Tale.{Tale}
use Rattle.switch_threads.specs.Workers.{IsAsking, IsPending, IsPrepared, KeepsUp, lines_at_hand}

-- there are never fewer events
grow_one : (script : ScriptOf) → IsScript script → (h : List Event) (e : Event) → (world_after script h).fabric.events ≤ (world_after script (h ++ e ∷ [])).fabric.events
grow_one script kept h e =
    kept_by script (λ w. (world_after script h).fabric.events ≤ w.fabric.events) h e
    (λ lawful. let counts = event_counts script kept h e lawful in omega (arith, counts)) (omega arith)

pub events_grow : (script : ScriptOf) → IsScript script → (h more : List Event) → (world_after script h).fabric.events ≤ (world_after script (h ++ more)).fabric.events
events_grow script kept h [] = subst (λ (x : List Event). (world_after script h).fabric.events ≤ (world_after script x).fabric.events) (sym (append-nil h)) (omega arith)
events_grow script kept h (e ∷ more) =
    let one = grow_one script kept h e in
    let rest = events_grow script kept (h ++ e ∷ []) more in
    subst (λ (x : List Event). (world_after script h).fabric.events ≤ (world_after script x).fabric.events) (append_assoc h (e ∷ []) more) (omega (arith, one, rest))

-- what a worker has to ask for stays fit
module _ (script : ScriptOf) (kept : IsScript script) (h more : List Event) (s : ℕ) (below : s < length script.wires.switches) (none : NoneOf owner_of (s + 1) more) where
  others : All (λ e. owner_of e ≢ s + 1) more
  others = others_from_none (s + 1) more none

  same : AreSameAt s (world_after script h) (world_after script (h ++ more))
  same = world_elsewhere script h more s others

  bytes : hand_of (world_after script (h ++ more)).fabric.wires s ≡ hand_of (world_after script h).fabric.wires s
  bytes = world_hand_elsewhere script kept h more s others

  fits_stay : (switch : KeptOf) (next : Pending) → IsPending (world_after script h) s switch next → IsPending (world_after script (h ++ more)) s switch next
  fits_stay switch pending.Work is =
      (ap (λ (x : StationOf). not (is_empty x.hand)) same.place ∙ is.0, subst (StandsFor switch) (sym same.switch) is.1)
  fits_stay switch pending.Put is = (
    ap (λ (x : StationOf). not (is_empty x.hand)) same.place ∙ is.0,
    subst (λ (t : Step). StandsFor switch t.switch) (sym (handled_same (world_after script h) (world_after script (h ++ more)) s same bytes)) is.1,
  )
  fits_stay switch (pending.Load sheet) is =
      let table = sheet.value.table in
      let w = world_after script h in
      let v = world_after script (h ++ more) in
      let note = note_of (loaded table.table.number (w.switches s)) in
      let may = to_load_stays w v s table note same is.0 in
      (subst (λ (x : SwitchOf). IsToLoad v s table (note_of (loaded table.table.number x))) (sym same.switch) may, subst (λ (x : SwitchOf). StandsFor switch (loaded table.table.number x)) (sym same.switch) is.1)

  pub others_came : (power : PowerOf) (switch : KeptOf) (next : Pending) → KeepsUp script (world_after script h) s power switch next → KeepsUp script (world_after script (h ++ more)) s power switch next
  others_came power switch next is =
      let grow = events_grow script kept h more in
      let works = is.works in
      record {
        powered = is.powered;
        start = is.start ∙ ap (λ (x : SwitchOf). start_of script s x.life.boot) (sym same.switch);
        works = omega (arith, grow, works);
        fits = fits_stay switch next is.fits;
      }

  -- and what is told of it
  lines_stay : lines_at_hand (world_after script (h ++ more)) s ≡ lines_at_hand (world_after script h) s
  lines_stay =
      let w = world_after script h in
      let v = world_after script (h ++ more) in
      ap (λ (x : StationOf). hand_lines s x.hand (held_bytes v.fabric s) (v.switches s) (handled s v).switch) same.place
      ∙ ap (λ xs. hand_lines s (station w.fabric s).hand (slice_index_or xs 0 []) (v.switches s) (handled s v).switch) bytes
      ∙ ap (λ (x : SwitchOf). hand_lines s (station w.fabric s).hand (held_bytes w.fabric s) x (handled s v).switch) same.switch
      ∙ ap (λ (t : Step). hand_lines s (station w.fabric s).hand (held_bytes w.fabric s) (w.switches s) t.switch) (handled_same w v s same bytes)

  pub prepared_stays : (parcel : Parcel) (tale : Tale) (next : Pending) → IsPrepared (world_after script h) s parcel tale next → IsPrepared (world_after script (h ++ more)) s parcel tale next
  prepared_stays parcel tale pending.Work is = is ∙ ap note_of (sym same.switch)
  prepared_stays parcel tale pending.Put is =
      (done_stays (world_after script h) (world_after script (h ++ more)) s parcel.done same bytes is.0, is.1 ∙ sym lines_stay, is.2)
  prepared_stays parcel tale (pending.Load sheet) is =
      (is.0 ∙ ap (λ (x : SwitchOf). note_of (loaded sheet.value.table.table.number x)) (sym same.switch), is.1)

-- what a worker has to ask for keeps up with the world, by the parts of its desk
pub record IsAtPlace (view : View Event ScriptOf) (place : ℕ) (power : PowerOf) (switch : KeptOf) (pending : Pending) : Type 0 where
  pub script : ScriptOf
  pub begun : view.start ≡ Some script
  pub number : view.number ≡ place + 1
  pub keeps_up : KeepsUp script (world_after script view.seen) place power switch pending

abbrev pub at_place : (view : View Event ScriptOf) (desk : Desk) (papers : Papers) (next : Pending) → IsAsking view desk papers next → IsAtPlace view desk.s desk.power_on desk.switch.value next
at_place view desk papers next step = record { script = step.script; begun = step.begun; number = step.number; keeps_up = step.fits.keeps_up }
