-- What the driver does is its own to do.

use Rattle.std.specs.Prelude.{◌≡◌, ◌+◌, ◌++◌, ℕ, List, [], ◌∷◌, cond, Option, Some, None, Bool, true, false, refl}
use Rattle.std.proofs.Common.{sym, ◌∙◌, subst, inl, inr, true≢false}
use Rattle.std.proofs.lemmas.List.{append-nil}
use Rattle.std.proofs.lemmas.List.Elements.{All-head}
use Rattle.net_script.specs.Scripts.{ScriptOf, IsScript}
use Rattle.std.specs.Global.{Box}
use Rattle.fabric_turn.specs.History.{AppendsAtMostOne}
use Rattle.net_world.specs.declared.ask.Reply.{Reply}
use Rattle.net_world.specs.declared.ask.Sheet.{Sheet}
use Rattle.net_world.specs.Histories.{HistoryOf, IsLawful, fabric_of, owner_of}
use Rattle.net_world.specs.Sound.{AllMayCome}
use Rattle.net_state.specs.declared.line.PlacedLine.{PlacedLine}
use Rattle.net_world.specs.Turns.{Drives, LoadsOrNot}
use Rattle.net_world.specs.World.{world_after}
use Rattle.an_base.specs.declared.event.Event.{Event}
use Rattle.an_base.specs.declared.event.Event.TheVariants.{Tick, Clock, Take, Handle, Load, Move, Restart}
use Rattle.net_script.specs.Commands.{is_restart}
use Rattle.host_traffic.specs.Packets.{first_packet}
use Rattle.net_state.specs.declared.ending.Ending.{Ending}
use Rattle.net_state.specs.declared.ending.Ending.TheVariants as ending
use Rattle.net_state.specs.declared.work.Drive.{Drive}
use Rattle.net_state.specs.declared.work.Drive.TheVariants as drive
use Rattle.net_state.specs.Fabric.{FabricOf, due_command}
use Rattle.net_state.specs.Lawful.{is_barred, is_lawful, is_tick_due}
use Rattle.net_state.specs.Agree.{ending_of}
use Rattle.net_state.specs.Choices.{command_or_move, drive_by, event_of_drive, move_or_tick, next_drive, tick_or_wait}
use Rattle.fabric_book.specs.Kept.{IsDrivers, IsPlainCommand}
use Rattle.net_world.proofs.SoloLemmas.{told_end}
use Rattle.net_settling.specs.Settling.{HasTime, SettlesSoon}
use Rattle.net_settling.proofs.Whole.{ends_in_time, settles_soon}
use Rattle.fabric_book.proofs.WorldFacts.{command_fits, due_is_command, lawful_more, world_script}

pub plain_is : (f : FabricOf) (e : Event) → IsPlainCommand f e → IsDrivers f e
plain_is f Tick is = tt
plain_is f (Move packet) is = tt
plain_is f e is = is

did : (f : FabricOf) (a b : Event) → IsDrivers f a → drive.Did a ≡ drive.Did b → IsDrivers f b
did f a b is same = let eq : a ≡ b = cc in subst (IsDrivers f) eq is

tick_did : (f : FabricOf) (b : Bool) (e : Event) → tick_or_wait b ≡ drive.Did e → IsDrivers f e
tick_did f true e is = did f Tick e tt is
tick_did f false e is = cc

move_did : (f : FabricOf) (o : Option ℕ) (e : Event) → move_or_tick o f ≡ drive.Did e → IsDrivers f e
move_did f (Some packet) e is = did f (Move packet) e tt is
move_did f None e is = tick_did f (is_tick_due f) e is

command_did : (f : FabricOf) (o : Option Event) (e : Event) → due_command f ≡ o → command_or_move o f ≡ drive.Did e → IsDrivers f e
command_did f None e due is = move_did f (first_packet f.packets) e is
command_did f (Some event) e due is = by (is_restart event) refl is where
  by : (b : Bool) → is_restart event ≡ b → cond b (move_or_tick (first_packet f.packets) f) (drive.Did event) ≡ drive.Did e → IsDrivers f e
  by true restart is_did = move_did f (first_packet f.packets) e is_did
  by false other is_did = did f event e (plain_is f event (record { command = due_is_command f event due; other = other })) is_did

pub driven : (f : FabricOf) (e : Event) → next_drive f ≡ drive.Did e → IsDrivers f e
driven f e is = by (ending_of f) is where
  barred : (b : Bool) → cond b drive.Waits (command_or_move (due_command f) f) ≡ drive.Did e → IsDrivers f e
  barred true waits = cc
  barred false goes = command_did f (due_command f) e refl goes

  by : (o : Option Ending) → drive_by o f ≡ drive.Did e → IsDrivers f e
  by (Some end) ended = cc
  by None goes = barred (is_barred f) goes

-- and may come
pub drive_lawful : (f : FabricOf) (e : Event) → AllMayCome f (event_of_drive (next_drive f)) → next_drive f ≡ drive.Did e → is_lawful f e ≡ true
drive_lawful f e all is =
    let now : AllMayCome f (event_of_drive (drive.Did e)) = subst (λ (d : Drive). AllMayCome f (event_of_drive d)) is all in
    All-head (λ (x : Event). is_lawful f x ≡ true) e [] now

-- so the history behind it settles as soon as each lawful one
pub driven_soon : (h : HistoryOf) → IsScript h.script → IsLawful h.script h.events → (e : Event) → is_lawful (fabric_of h) e ≡ true → SettlesSoon h.script (h.events ++ e ∷ [])
driven_soon h kept lawful e may = settles_soon h.script kept (h.events ++ e ∷ []) (lawful_more h.script h.events e lawful may)

-- and an unsettled end is not told of a history that had the time to settle
pub unsettled_late : (h : HistoryOf) → IsScript h.script → IsLawful h.script h.events → next_drive (fabric_of h) ≡ drive.Ended ending.Unsettled → ¬ HasTime h.script h.events
unsettled_late h kept lawful is time = let f = fabric_of h in ends_in_time h.script kept h.events lawful time (told_end f (ending_of f) ending.Unsettled is)

-- and belongs to the driver
pub driver_owns : (f : FabricOf) (e : Event) → IsScript f.script → IsDrivers f e → owner_of e ≡ 0
driver_owns f (Restart s) kept is = absurd (true≢false is.other)
driver_owns f (Clock s) kept is = absurd (command_fits f (Clock s) kept is.command)
driver_owns f (Take s p) kept is = absurd (command_fits f (Take s p) kept is.command)
driver_owns f (Handle s) kept is = absurd (command_fits f (Handle s) kept is.command)
driver_owns f (Load s) kept is = absurd (command_fits f (Load s) kept is.command)
driver_owns f e kept is = refl

-- What a load and the driver append
pub loads_append : (b : Bool) (sheet : Box Sheet) (answer : Reply) (s c : ℕ) (script : ScriptOf) (h after : List Event) → c ≡ s + 1 → LoadsOrNot b sheet answer s script h after → AppendsAtMostOne owner_of c h after
loads_append true sheet answer s c script h after caller is = ([], inl refl, is.1 ∙ sym (append-nil h))
loads_append false sheet answer s c script h after caller is = (Load s ∷ [], inr (Load s, refl, sym caller), is.event)

pub drive_appends : (script : ScriptOf) → IsScript script → (h : List Event) (did : Drive) (told : Option PlacedLine) (c : ℕ) (after : List Event) → c ≡ 0 → Drives script h did told after → AppendsAtMostOne owner_of c h after
drive_appends script kept h (drive.Did e) told c after caller is =
    let f = (world_after script h).fabric in
    let good : IsScript f.script = subst IsScript (sym (world_script script h)) kept in
    (e ∷ [], inr (e, refl, driver_owns f e good (driven f e (sym is.drive_is)) ∙ sym caller), is.event)
drive_appends script kept h drive.Waits told c after caller is = ([], inl refl, is.event)
drive_appends script kept h (drive.Ended end) told c after caller is = ([], inl refl, is.event)
