-- With what one more is started.

use Rattle.fabric_book.proofs.StartLemmas.{powers_more}
use Rattle.fabric_book.proofs.net.powers.Goals as goal

pub switches-preserved : goal.switches-preserved
switches-preserved c = powers_more c.args.script.now c.switches.s c.switches.powers.items c.push.new.self.items c.of.result c.switches.invariant c.of.ensures c.in_ok-push.ensures.items
