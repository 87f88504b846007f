use Rattle.report.proofs.ToldTexts.{no_peer, no_words}
use Rattle.report.proofs.telling.Telling.push_peer.Goals as goal

pub returns-in_default : goal.returns-in_default
returns-in_default c = rw (c.in_default.is-0, c.in_default.is-1) (no_words c.args.text.now.items)

pub returns-in_default-2 : goal.returns-in_default-2
returns-in_default-2 c = rw (no_peer c.args.self.now.script.now c.args.state c.args.peer c.in_default.not-Good-0) (no_words c.args.text.now.items)
