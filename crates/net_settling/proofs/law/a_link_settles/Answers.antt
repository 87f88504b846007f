use Rattle.net_settling.proofs.Cuts.{cut_ends, cut_knows, run_acknowledged}
use Rattle.net_settling.proofs.law.a_link_settles.Goals as goal

pub returns-clause-ends : goal.returns-clause-ends
returns-clause-ends c = cut_ends

pub returns-clause-knows : goal.returns-clause-knows
returns-clause-knows c = cut_knows

pub returns-clause-acknowledged : goal.returns-clause-acknowledged
returns-clause-acknowledged c = run_acknowledged
