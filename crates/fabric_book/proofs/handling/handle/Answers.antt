-- The lines are added in turn.

use Rattle.std.proofs.Common.{◌≡◌, ◌∙◌, ◌++◌, Bool, List, ap}
use Rattle.std.specs.List.{flat_map}
use Rattle.an_base.specs.Ports.{NoteOf}
use Rattle.port_monitor.specs.Histories.{externals}
use Rattle.switch_core.specs.Bytes.{OutOf}
use Rattle.switch_core.specs.Kept.{StandsFor}
use Rattle.switch_core.specs.Switch.{SwitchOf, finish_of, note_of}
use Rattle.net_world.specs.Lines.{finish_lines, join_lines, no_frame_lines, port_line, no_epoch_lines}
use Rattle.net_world.specs.World.{handles}
use Rattle.net_state.specs.declared.line.Line.{Line}
use Rattle.fabric_book.specs.Told.{noise_lines}
use Rattle.fabric_book.proofs.HandLemmas.{copied_some}
use Rattle.fabric_book.proofs.TellLemmas.{noise_is, told_all}
use Rattle.fabric_book.proofs.handling.handle.Goals as goal

pub returns-clause-told : goal.returns-clause-told
returns-clause-told c = λ (x : SwitchOf) (stands : StandsFor c.args.switch.now x) (before : c.args.note.now ≡ note_of x).
    let s = c.args.s in
    let h = c.args.hand in
    let bytes = c.args.bytes.now in
    let y = (handles c.args.hand c.args.bytes.now x).switch in
    let is = c.in_ok-work.ensures.handled x stands in
    let ports = c.in_ok-show.ensures.told x bytes is.stands before in
    let note = c.note-2.view_is ∙ c.show.ensures.note x bytes is.stands before in
    let noise = c.in_ok-tell_noise.ensures ∙ ap (λ (b : Bool). c.show.new.lines ++ noise_lines s h b) (ap (λ (o : OutOf). o.noframe) c.out.view_is ∙ is.noframe) ∙ ap (λ (xs : List Line). c.show.new.lines ++ xs) (noise_is s h bytes) in
    let epochs = c.in_ok-tell_epochs.ensures x y is.stands (ap (λ (n : NoteOf). n.epoch) (c.note.view_is ∙ before)) (ap (λ (n : NoteOf). n.epoch) note) (c.is_some-had_finished.ensures ∙ copied_some c.finish.result (finish_of x) (c.finish.ensures x stands)) in
    told_all c.args.lines.now c.show.new.lines c.tell_noise.new.lines c.tell_epochs.new.lines (flat_map (port_line s (note_of x) (note_of y)) externals) (no_frame_lines s h bytes) (join_lines s x y) (no_epoch_lines s y) (finish_lines s x y) ports noise epochs
