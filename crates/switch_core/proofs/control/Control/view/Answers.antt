use Rattle.switch_core.proofs.NoteLemmas.{view_here}
use Rattle.switch_core.proofs.control.Control.view.Goals as goal

pub returns : goal.returns
returns c s stands = view_here c.args.self.now s c.args.port c.state.result c.peer.result stands c.state.ensures c.peer.ensures
