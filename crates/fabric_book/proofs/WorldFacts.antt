-- What is cited of the world and of its fabric.

use Rattle.std.specs.Prelude.{◌≡◌, ◌≢◌, ◌+◌, ◌<◌, ◌≤◌, ℕ, List, [], ◌∷◌, ◌++◌, All, length, Option, is_some, Bool, Some, None, true, false, refl}
use Rattle.std.specs.Option.{option_map_or}
use Rattle.std.proofs.Common.{sym, ◌∙◌, ap, arith, true≢false}
use Rattle.std.proofs.lemmas.List.{get_or-set_same}
use Rattle.an_base.specs.Ports.{NoteOf}
use Rattle.an_base.specs.declared.event.Event.{Event}
use Rattle.an_base.specs.declared.event.Event.TheVariants.{Handle, Load}
use Rattle.net_script.specs.Commands.{IsCommandEvent}
use Rattle.net_script.specs.Scripts.{ScriptOf, IsScript, restarts_of}
use Rattle.wire_set.specs.WireState.{hand_of}
use Rattle.switch_core.specs.Bytes.{BytesOut}
use Rattle.net_state.specs.declared.hand.Hand.TheVariants as hand
use Rattle.net_state.specs.Fabric.{FabricOf, StationOf, count, due_command, full_hands, held_bytes, is_full_at, load_due_at, station, vacant}
use Rattle.net_state.specs.Lawful.{is_barred, is_command, is_handle, is_lawful, is_ready, is_same_event}
use Rattle.net_state.specs.Agree.{ending_of}
use Rattle.net_state.specs.Effects.{after_handle, all_put_out, emptied, shows}
use Rattle.net_state.specs.Starts.{begun_fabric}
use Rattle.net_state.specs.Choices.{next_work, event_of_work, next_drive, event_of_drive}
use Rattle.net_state.specs.Fits.{Fits}
use Rattle.net_world.specs.World.{WorldOf, begun, effect, handled, step, world_after}
use Rattle.net_world.specs.Histories.{IsLawful, owner_of}
use Rattle.net_world.specs.Sound.{AllMayCome, HasNext, IsSoundAt}
use Rattle.net_state.proofs.EventLemmas.{same_event}
use Rattle.net_state.proofs.LawfulLemmas.{command_is, lawful_is, next_open, open_unbarred}
use Rattle.net_state.proofs.LawfulLemmas.{command_fits as fits_in}
use Rattle.net_state.proofs.EndLemmas.{full_some}
use Rattle.net_state.proofs.EndLemmas.{due_is_command as due_commands}
use Rattle.net_state.proofs.ReadyLemmas.{handle_ready}
use Rattle.net_state.proofs.FitsLemmas.{free_of, station_below}
use Rattle.net_state.proofs.FitsLemmas.{switch_below as place_below}
use Rattle.net_state.proofs.HandleLemmas.{handle_parts}
use Rattle.net_state.proofs.RoomLemmas.{full_is, full_set}
use Rattle.net_world.proofs.WorldLemmas.{world_after-event, step-lawful}
use Rattle.net_world.proofs.BegunLemmas.{begun_is as begun_fabric_is}
use Rattle.net_world.proofs.InductionLemmas.{world_script as script_stays}
use Rattle.net_world.proofs.FabricLemmas.{world_fits}
use Rattle.net_world.proofs.PlaceLemmas.{world_places}
use Rattle.net_world.proofs.BootLemmas.{boot_most as boots_most}
use Rattle.net_world.proofs.CountLemmas.{event_counts as counts_each}
use Rattle.net_world.proofs.CountLemmas.{lawful_more as lawful_and_one}
use Rattle.net_world.proofs.SpentLemmas.{world_empty}
use Rattle.net_world.proofs.SpentLemmas.{full_unspent as place_unspent}
use Rattle.net_world.proofs.StaysLemmas.{handles_stay}
use Rattle.net_world.proofs.NextLemmas.{work_is_lawful, handle_is_lawful, load_is_lawful, drive_is_lawful}
use Rattle.net_world.proofs.ProgressLemmas.{progress}
use Rattle.net_world.proofs.ElsewhereLemmas.{world_elsewhere}
use Rattle.net_world.proofs.FitLemmas.{world_hand_elsewhere}

-- Of the world after events
pub event_more : (script : ScriptOf) (h : List Event) (e : Event) → world_after script (h ++ e ∷ []) ≡ step (world_after script h) e
event_more = world_after-event

pub step_makes : (w : WorldOf) (e : Event) → is_lawful w.fabric e ≡ true → step w e ≡ effect e w
step_makes = step-lawful

pub begun_is : (script : ScriptOf) → (begun script).fabric ≡ begun_fabric script
begun_is = begun_fabric_is

pub world_script : (script : ScriptOf) (h : List Event) → (world_after script h).fabric.script ≡ script
world_script = script_stays

pub fits_after : (script : ScriptOf) → IsScript script → (h : List Event) → Fits (world_after script h).fabric
fits_after = world_fits

pub place_sound : (script : ScriptOf) → IsScript script → (h : List Event) (s : ℕ) → s < length script.wires.switches → IsSoundAt script (world_after script h) s
place_sound = world_places

pub boot_most : (script : ScriptOf) (h : List Event) (s : ℕ) → ((world_after script h).switches s).life.boot ≤ 1 + restarts_of script.commands
boot_most = boots_most

pub full_unspent : (script : ScriptOf) → IsScript script → (h : List Event) (s : ℕ) → s < length script.wires.switches → is_full_at (world_after script h).fabric s ≡ true → ((world_after script h).switches s).spent ≡ false
full_unspent script kept h s below full = sym (world_places script kept h s below).spent ∙ place_unspent (world_after script h).fabric s (world_empty script h) full

-- an event counts
pub event_counts : (script : ScriptOf) → IsScript script → (h : List Event) (e : Event) → is_lawful (world_after script h).fabric e ≡ true → (effect e (world_after script h)).fabric.events ≡ (world_after script h).fabric.events + 1
event_counts = counts_each

pub lawful_more : (script : ScriptOf) (h : List Event) (e : Event) → IsLawful script h → is_lawful (world_after script h).fabric e ≡ true → IsLawful script (h ++ e ∷ [])
lawful_more = lawful_and_one

pub handled_life : (w : WorldOf) (s : ℕ) → (handled s w).switch.life ≡ (w.switches s).life
handled_life w s = (handles_stay (station w.fabric s).hand (held_bytes w.fabric s) (w.switches s)).life

-- Of what may come next
pub work_may_come : (script : ScriptOf) (h : List Event) (s last : ℕ) → s < length script.wires.switches → is_full_at (world_after script h).fabric s ≡ false
    → AllMayCome (world_after script h).fabric (event_of_work s (next_work (world_after script h).fabric s last))
work_may_come = work_is_lawful

pub handle_may_come : (script : ScriptOf) (h : List Event) (s : ℕ) → s < length script.wires.switches → is_full_at (world_after script h).fabric s ≡ true → is_lawful (world_after script h).fabric (Handle s) ≡ true
handle_may_come = handle_is_lawful

pub load_may_come : (script : ScriptOf) (h : List Event) (s : ℕ) → s < length script.wires.switches → is_barred (world_after script h).fabric ≡ false → is_full_at (world_after script h).fabric s ≡ false
    → load_due_at (world_after script h).fabric s ≡ true → is_lawful (world_after script h).fabric (Load s) ≡ true
load_may_come = load_is_lawful

pub drive_may_come : (script : ScriptOf) → IsScript script → (h : List Event) → AllMayCome (world_after script h).fabric (event_of_drive (next_drive (world_after script h).fabric))
drive_may_come = drive_is_lawful

pub may_go_on : (script : ScriptOf) → IsScript script → (h : List Event) → is_some (ending_of (world_after script h).fabric) ≡ false → HasNext (world_after script h).fabric
may_go_on = progress

-- where what may come handles nothing, nothing bars it
pub unbarred_is : (f : FabricOf) (e : Event) → is_lawful f e ≡ true → is_handle e ≡ false → is_barred f ≡ false
unbarred_is f e lawful other = open_unbarred f (next_open f e (lawful_is f e lawful) other)

pub is_due : (f : FabricOf) (e : Event) → is_command f e ≡ true → due_command f ≡ Some e
is_due f e is = by (due_command f) refl is where
  by : (o : Option Event) → due_command f ≡ o → option_map_or (is_same_event e) o false ≡ true → due_command f ≡ Some e
  by None none differs = absurd (true≢false (sym differs))
  by (Some x) some same = some ∙ ap Some (sym (same_event e x same))

pub due_is_command : (f : FabricOf) (e : Event) → due_command f ≡ Some e → is_command f e ≡ true
due_is_command = due_commands

pub command_fits : (f : FabricOf) (e : Event) → IsScript f.script → is_command f e ≡ true → IsCommandEvent f.script.wires e
command_fits f e kept is = fits_in f e kept (command_is f e is)

-- what a lawful event needs is there; there is room for it; and it is of a switch of the script
pub ready_is : (f : FabricOf) (e : Event) → is_lawful f e ≡ true → is_ready f e ≡ true
ready_is f e lawful = (lawful_is f e lawful).ready

pub room_is : (f : FabricOf) (e : Event) → Fits f → is_lawful f e ≡ true → f.events < f.script.limits.events
room_is f (Handle s) fits lawful =
    let ready = handle_ready f s (lawful_is f (Handle s) lawful).ready in
    let some = full_some f s (station_below f s fits (place_below f s ready.0)) ready.1 in
    let room = fits.room in
    omega (arith, some, room)
room_is f e fits lawful = let free = free_of f e lawful refl in omega (arith, free)

-- Of what stays
pub station_stays : (script : ScriptOf) (h more : List Event) (s : ℕ) → All (λ e. owner_of e ≢ s + 1) more → station (world_after script (h ++ more)).fabric s ≡ station (world_after script h).fabric s
station_stays script h more s others = (world_elsewhere script h more s others).place

pub switch_stays : (script : ScriptOf) (h more : List Event) (s : ℕ) → All (λ e. owner_of e ≢ s + 1) more → (world_after script (h ++ more)).switches s ≡ (world_after script h).switches s
switch_stays script h more s others = (world_elsewhere script h more s others).switch

pub hand_stays : (script : ScriptOf) → IsScript script → (h more : List Event) (s : ℕ) → All (λ e. owner_of e ≢ s + 1) more → hand_of (world_after script (h ++ more)).fabric.wires s ≡ hand_of (world_after script h).fabric.wires s
hand_stays = world_hand_elsewhere

-- Handling is its three parts in turn
pub handled_parts : (place : ℕ) (frames : List BytesOut) (note : NoteOf) (spent : Bool) (fabric : FabricOf) → place < length fabric.stations
    → shows place note spent (record (emptied place fabric) { wires = all_put_out place frames (emptied place fabric).wires }) ≡ after_handle place frames note spent fabric
handled_parts = handle_parts

-- and there is room to show what a switch does then
pub emptied_room : (f : FabricOf) (s : ℕ) → Fits f → s < count f → is_full_at f s ≡ true → f.events + full_hands (emptied s f) < f.script.limits.events
emptied_room f s fits at full =
    let x = record (station f s) { hand = hand.Empty } in
    let now = full_set f.stations s x (station_below f s fits at) in
    let one = full_is (station f s).hand full in
    let room = fits.room in
    omega (arith, now, one, room)

-- where a switch gives up what it has in hand it shows what it did before
pub emptied_note : (f : FabricOf) (s : ℕ) → Fits f → s < count f → (station (emptied s f) s).note ≡ (station f s).note
emptied_note f s fits at = ap (λ (x : StationOf). x.note) (get_or-set_same f.stations s (record (station f s) { hand = hand.Empty }) vacant (station_below f s fits at))
