use Rattle.switch_processes.proofs.Claims.{no_member_behind, one_topology, tree}
use Rattle.switch_processes.proofs.law.processes_hold_one_topology.Goals as goal

pub returns-clause-one : goal.returns-clause-one
returns-clause-one c = one_topology

pub returns-clause-behind : goal.returns-clause-behind
returns-clause-behind c = no_member_behind

pub returns-clause-tree : goal.returns-clause-tree
returns-clause-tree c = tree
