use Rattle.switch_processes.proofs.CallLemmas.{stands, takes}
use Rattle.switch_processes.proofs.law.calls_are_those_of_a_process.Goals as goal

pub returns-clause-stands : goal.returns-clause-stands
returns-clause-stands c = stands

pub returns-clause-taken : goal.returns-clause-taken
returns-clause-taken c = takes
