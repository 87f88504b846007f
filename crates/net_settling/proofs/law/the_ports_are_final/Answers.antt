use Rattle.net_settling.proofs.Finals.{ports_final}
use Rattle.net_settling.proofs.Whole.{settles_soon}
use Rattle.net_settling.proofs.law.the_ports_are_final.Goals as goal

pub returns-clause-fixed : goal.returns-clause-fixed
returns-clause-fixed c = ports_final

pub returns-clause-settle : goal.returns-clause-settle
returns-clause-settle c = λ script kept history lawful. (settles_soon script kept history lawful).ports
