use Rattle.std.proofs.Common.{◌∙◌, ap, sym}
use Rattle.an_base.specs.Ports.{NoteOf}
use Rattle.switch_core.proofs.NoteLemmas.{note_is, view_put}
use Rattle.switch_core.proofs.control.Control.show_port.Goals as goal

pub returns : goal.returns
returns c before s stands old came =
    let shown = c.note.view_is ∙ old in
    note_is c.args.self.now s c.note.inside.life c.set.new.self c.is_unacked-note-inside.result stands (ap (λ (n : NoteOf). n.life) shown ∙ sym came.life)
    (view_put c.args.port before s c.note.inside.ports c.set.new.self c.view.result c.requires.least c.requires.most came (c.view.ensures s stands) (ap (λ (n : NoteOf). n.ports) shown) c.set.ensures)
    (c.is_unacked-note-inside.ensures s.sendings s.receivings stands.sessions)
