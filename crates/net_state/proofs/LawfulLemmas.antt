-- What makes an event lawful, and what a lawful command is.

use Rattle.std.specs.Prelude.{◌≡◌, ◌&&◌, ◌||◌, ◌≤◌, ℕ, nat_lt, nat_le, not, cond, slice_get, Option, Some, None, is_some, Bool, true, false, refl}
use Rattle.std.proofs.Common.{sym, ◌∙◌, subst, true≢false}
use Rattle.std.specs.Option.{option_map_or, option_and_then}
use Rattle.std.proofs.lemmas.Bool.{and_parts, or_parts, not-true, ltb-false, leb-true, le-ltb}
use Rattle.std.proofs.lemmas.Option.{slice_get_within, get_or_from_slice_get}
use Rattle.std.proofs.lemmas.List.Elements.{All-get_or}
use Rattle.an_base.specs.declared.event.Event.{Event}
use Rattle.net_script.specs.declared.command.Command.{Command}
use Rattle.net_script.specs.Commands.{IsCommand, IsCommandEvent}
use Rattle.net_script.specs.Scripts.{IsScript}
use Rattle.net_state.specs.Fabric.{FabricOf, is_external, if_due, next_command, room, is_some_spent}
use Rattle.net_state.specs.Agree.{ending_of}
use Rattle.net_state.specs.Lawful.{is_lawful, is_handle, is_barred, is_ready, is_command, is_same_event}
use Rattle.net_state.proofs.EventLemmas.{same_event}

-- an event that is lawful in what contracts see of a fabric is so in the fabric
pub lawful_in : {f view : FabricOf} (e : Event) → f ≡ view → is_lawful view e ≡ true → is_lawful f e ≡ true
lawful_in {f} {view} e same lawful = subst (λ (g : FabricOf). is_lawful g e ≡ true) (sym same) lawful

-- what makes an event lawful
pub record IsNext (f : FabricOf) (e : Event) : Type 0 where
  pub goes_on : is_some (ending_of f) ≡ false
  pub allowed : (is_handle e || not (is_barred f)) ≡ true
  pub ready : is_ready f e ≡ true

pub lawful_is : (f : FabricOf) (e : Event) → is_lawful f e ≡ true → IsNext f e
unfolding is_lawful
lawful_is f e lawful =
    let outer = and_parts (not (is_some (ending_of f)) && (is_handle e || not (is_barred f))) (is_ready f e) lawful in
    let inner = and_parts (not (is_some (ending_of f))) (is_handle e || not (is_barred f)) outer.0 in
    record { goes_on = not-true (is_some (ending_of f)) inner.0; allowed = inner.1; ready = outer.1 }

pub next_is_lawful : (f : FabricOf) (e : Event) → IsNext f e → is_lawful f e ≡ true
unfolding is_lawful
next_is_lawful f e next = rw (next.goes_on, next.allowed, next.ready) refl

-- an event but of what is in hand needs room, and that no switch is spent
pub record IsOpen (f : FabricOf) : Type 0 where
  pub unspent : is_some_spent f ≡ false
  pub roomy : 2 ≤ room f

pub unbarred_is : (f : FabricOf) → is_barred f ≡ false → IsOpen f
unbarred_is f free =
    let parts = or_parts (is_some_spent f) (nat_lt (room f) 2) free in
    record { unspent = parts.0; roomy = ltb-false (room f) 2 parts.1 }

pub open_unbarred : (f : FabricOf) → IsOpen f → is_barred f ≡ false
open_unbarred f o = rw (o.unspent, le-ltb (room f) 2 o.roomy) refl

pub next_open : (f : FabricOf) (e : Event) → IsNext f e → is_handle e ≡ false → IsOpen f
next_open f e next other = unbarred_is f (by (is_handle e) (is_barred f) next.allowed other) where
  by : (b c : Bool) → (b || not c) ≡ true → b ≡ false → c ≡ false
  by true c is differs = absurd (true≢false differs)
  by false c is differs = not-true c is

-- the next command
pub record IsCommandOf (f : FabricOf) (e : Event) : Type 0 where
  pub command : Command
  pub there : slice_get f.script.commands f.done ≡ Some command
  pub event : command.event ≡ e
  pub time : command.time ≤ f.tick

abbrev cond_event : Bool → Command → Option Event
cond_event b c = cond b (Some c.event) None

pub command_is : (f : FabricOf) (e : Event) → is_command f e ≡ true → IsCommandOf f e
command_is f e is = by (next_command f) refl is where
  due : (c : Command) (b : Bool) → nat_le c.time f.tick ≡ b → next_command f ≡ Some c → option_map_or (is_same_event e) (if_due f.tick c) false ≡ true → IsCommandOf f e
  due c b is_b there same = by_b b is_b (subst (λ (x : Bool). option_map_or (is_same_event e) (cond_event x c) false ≡ true) is_b same) where
    by_b : (b : Bool) → nat_le c.time f.tick ≡ b → option_map_or (is_same_event e) (cond_event b c) false ≡ true → IsCommandOf f e
    by_b true le same = record { command = c; there = there; event = sym (same_event e c.event same); time = leb-true c.time f.tick le }
    by_b false gt same = absurd (true≢false (sym same))

  by : (n : Option Command) → next_command f ≡ n → option_map_or (is_same_event e) (option_and_then (if_due f.tick) n) false ≡ true → IsCommandOf f e
  by None there same = absurd (true≢false (sym same))
  by (Some c) there same = due c (nat_le c.time f.tick) refl there same

-- it is one that can be in the wiring
pub command_fits : (f : FabricOf) (e : Event) → IsScript f.script → IsCommandOf f e → IsCommandEvent f.script.wires e
command_fits f e kept is =
    let c : IsCommand f.script.wires is.command = subst (λ (y : Command). IsCommand f.script.wires y) (get_or_from_slice_get f.script.commands f.done is.command is.command is.there)
    (All-get_or (IsCommand f.script.wires) f.script.commands f.done is.command (slice_get_within f.script.commands f.done is.command is.there) kept.commands) in
    subst (λ (x : Event). IsCommandEvent f.script.wires x) is.event c.event

-- which command each of these is
pub ready_command : (f : FabricOf) (e : Event) → is_lawful f e ≡ true → is_ready f e ≡ is_command f e → IsCommandOf f e
ready_command f e lawful same = command_is f e (sym same ∙ (lawful_is f e lawful).ready)

-- a port of an event is an external one
pub external_is : (p : ℕ) → is_external p ≡ true → (1 ≤ p) × (p ≤ 12)
external_is p is = let parts = and_parts (nat_le 1 p) (nat_le p 12) is in (leb-true 1 p parts.0, leb-true p 12 parts.1)
