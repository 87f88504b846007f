use Rattle.switch_core.proofs.StateLemmas.{load_more}
use Rattle.switch_core.proofs.switch.Switch.load.Goals as goal

pub invariant_of-self-2 : goal.invariant_of-self-2
invariant_of-self-2 c = (c.self.invariant.0, c.self.invariant.1, c.self.invariant.2, load_more c.self.inside.works c.self.inside.carried c.self.inside.control c.load.new.self c.in_ok-table.table c.self.invariant.3 c.in_ok-table.ensures.ok)
