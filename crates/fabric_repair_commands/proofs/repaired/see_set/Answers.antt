use Rattle.fabric_repair_commands.proofs.SetLemmas.{set_made}
use Rattle.fabric_repair_commands.proofs.repaired.see_set.Goals as goal

pub returns : goal.returns
returns c = set_made c.args.fabric.now c.switches-switches.ensures.fabric c.args.given.now c.args.made.now c.requires.switches c.requires.shape
