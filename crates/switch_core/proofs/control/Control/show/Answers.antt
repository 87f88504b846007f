use Rattle.switch_core.proofs.NoteLemmas.{note_is}
use Rattle.switch_core.proofs.control.Control.show.Goals as goal

pub returns : goal.returns
returns c s stands = note_is c.args.self.now s c.args.self.now.life c.show_ports.new.ports c.is_unacked-note-inside.result stands stands.life (c.show_ports.ensures s stands) (c.is_unacked-note-inside.ensures s.sendings s.receivings stands.sessions)
