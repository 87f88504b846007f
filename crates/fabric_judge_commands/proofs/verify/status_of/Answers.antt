use Rattle.fabric_judge_commands.proofs.EndLemmas.{ends_lost, ends_well}
use Rattle.fabric_judge_commands.proofs.verify.status_of.Goals as goal

pub returns-then-found : goal.returns-then-found
returns-then-found c fabric tables traffic ranks is = ends_lost fabric tables traffic ranks c.args.found is c.in-None.is c.if-found.true

pub returns-else-found : goal.returns-else-found
returns-else-found c fabric tables traffic ranks is = ends_well fabric tables traffic ranks c.args.found is c.in-None.is c.if-found.false
