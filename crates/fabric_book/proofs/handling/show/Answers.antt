-- After a frame only the port by which it came can be shown as another.

use Rattle.std.proofs.Common.{◌≡◌, ◌∙◌, ◌++◌, ◌-◌, ◌==◌, ℕ, List, ap, not, slice_get, subst, sym}
use Rattle.std.proofs.lemmas.Result.{on_ok_weaker}
use Rattle.an_base.specs.Ports.{NoteOf}
use Rattle.switch_core.specs.Kept.{StandsFor}
use Rattle.switch_core.specs.Switch.{CameBy, SwitchOf, note_of}
use Rattle.net_state.specs.declared.hand.Hand.{Hand}
use Rattle.net_state.specs.Fits.{IsHandPort}
use Rattle.net_state.specs.PortStates.{state_code}
use Rattle.net_world.specs.World.{handles}
use Rattle.net_state.specs.declared.line.Line.TheVariants as line
use Rattle.fabric_book.specs.Told.{line_if}
use Rattle.fabric_book.proofs.HandLemmas.{hand_came}
use Rattle.fabric_book.proofs.TellLemmas.{port_told}
use Rattle.fabric_book.proofs.handling.show.Goals as goal

pub returns-in-Frame-clause-note : goal.returns-in-Frame-clause-note
returns-in-Frame-clause-note c = λ (x : SwitchOf) (bytes : List ℕ) (stands : StandsFor c.args.switch.now (handles c.args.hand bytes x).switch) (before : c.args.note.now ≡ note_of x).
    let came = subst (λ (h : Hand). CameBy c.in-Frame.port x (handles h bytes x).switch) (sym c.in-Frame.is) (hand_came c.in-Frame.port bytes x) in
    c.show_port.ensures x (handles c.args.hand bytes x).switch stands before came

pub returns-in-Frame-clause-told : goal.returns-in-Frame-clause-told
returns-in-Frame-clause-told c = λ (x : SwitchOf) (bytes : List ℕ) (stands : StandsFor c.args.switch.now (handles c.args.hand bytes x).switch) (before : c.args.note.now ≡ note_of x).
    let y = (handles c.args.hand bytes x).switch in
    let port = c.in-Frame.port in
    let range = subst IsHandPort c.in-Frame.is c.requires.port in
    let came = subst (λ (h : Hand). CameBy port x (handles h bytes x).switch) (sym c.in-Frame.is) (hand_came port bytes x) in
    let after = c.show_port.ensures x y stands before came in
    on_ok_weaker c.tell_port.result
    (λ (told : c.tell_port.new.lines ≡ c.args.lines.now ++ line_if (not (state_code c.get-old.result.state == state_code c.get.result.state)) (line.Port c.args.s port c.get.result.state c.get.result.peer)).
    port_told c.args.s port x y c.args.note.now c.show_port.new.note c.get-old.result c.get.result c.args.lines.now c.tell_port.new.lines range.0 range.1 came before after
    (c.get-old.ensures ∙ ap (λ (n : NoteOf). slice_get n.ports (port - 1)) c.note.view_is) (c.get.ensures ∙ ap (λ (n : NoteOf). slice_get n.ports (port - 1)) c.note-in-Frame.view_is) told)
    c.tell_port.ensures
