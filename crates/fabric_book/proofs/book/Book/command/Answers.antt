-- A command was done.

use Rattle.std.proofs.Common.{◌≡◌, ◌∙◌, ◌++◌, ◌∷◌, [], List, ap, arith, refl, true, vec_capacity}
use Rattle.an_base.specs.declared.event.Event.{Event}
use Rattle.net_state.specs.Fabric.{FabricOf}
use Rattle.net_state.specs.Lawful.{is_command}
use Rattle.fabric_book.proofs.BookLemmas.{command_kept, command_script, commanded_told, events_at, fabric_at, has_room, kept_as, lawful_at, script_at}
use Rattle.fabric_book.proofs.WorldFacts.{command_fits}
use Rattle.fabric_book.proofs.book.Book.command.Goals as goal

pub push_reserved-requires : goal.push_reserved-requires
push_reserved-requires c =
    let b = c.self.inside in
    let few = has_room b.fabric b.entries.items b.taken.items (vec_capacity b.entries) c.self.invariant c.args.self.now c.self.view_is c.args.command.now c.requires.lawful in
    omega (arith, few, b.entries.ok.0)

pub invariant_of-self : goal.invariant_of-self
invariant_of-self c =
    let b = c.self.inside in
    let is : is_command b.fabric c.args.command.now ≡ true = ap (λ (f : FabricOf). is_command f c.args.command.now) (fabric_at b.fabric b.entries.items b.taken.items (vec_capacity b.entries) c.self.invariant c.args.self.now c.self.view_is) ∙ c.requires.command in
    kept_as _ _ _ _ _ _ _ _ (command_kept b.fabric b.entries.items c.args.command.now b.taken.items (vec_capacity b.entries) c.self.invariant (lawful_at b.fabric b.entries.items b.taken.items (vec_capacity b.entries) c.self.invariant c.args.self.now c.self.view_is c.args.command.now c.requires.lawful)
    (command_fits b.fabric c.args.command.now c.self.invariant.script is) c.requires.other)
    c.command-told.ensures.done c.push_reserved.ensures.items refl c.push_reserved.ensures.capacity

pub returns-clause-told : goal.returns-clause-told
returns-clause-told c =
    let b = c.self.inside in
    commanded_told b.fabric b.entries.items b.taken.items (vec_capacity b.entries) c.self.invariant c.args.self.now c.self.view_is c.args.command.now _ c.requires.command c.requires.other c.command-told.ensures.told

pub returns-clause-done : goal.returns-clause-done
returns-clause-done c =
    let b = c.self.inside in
    let h = c.args.self.now in
    let e = c.args.command.now in
    let is : is_command b.fabric c.args.command.now ≡ true = ap (λ (f : FabricOf). is_command f c.args.command.now) (fabric_at b.fabric b.entries.items b.taken.items (vec_capacity b.entries) c.self.invariant h c.self.view_is) ∙ c.requires.command in
    let script : c.command-told.new.self.script ≡ h.script =
    ap (λ (f : FabricOf). f.script) c.command-told.ensures.done ∙ command_script b.fabric e (command_fits b.fabric e c.self.invariant.script is) c.requires.other
    ∙ script_at b.fabric b.entries.items b.taken.items (vec_capacity b.entries) c.self.invariant h c.self.view_is in
    let events : c.push_reserved.new.self.items ≡ h.events ++ e ∷ [] =
    c.push_reserved.ensures.items ∙ ap (λ (es : List Event). es ++ e ∷ []) (events_at b.fabric b.entries.items b.taken.items (vec_capacity b.entries) c.self.invariant h c.self.view_is) in
    λ i. record { script = script i; events = events i }
