use Rattle.dep_check.proofs.TableLaws.{tables_no_cycle, tables_joined, tables_legal}
use Rattle.dep_check.proofs.law.tables_are_never_refused.Goals as goal

pub returns-clause-no_cycle : goal.returns-clause-no_cycle
returns-clause-no_cycle c = λ es numbers any rows graph named count tables. tables_no_cycle es numbers any rows graph named count tables

pub returns-clause-joined : goal.returns-clause-joined
returns-clause-joined c = λ es numbers any rows graph tree named count tables. tables_joined es numbers any rows graph named count tables tree

pub returns-clause-legal : goal.returns-clause-legal
returns-clause-legal c = λ es numbers any rows graph named count tables. tables_legal es numbers any rows graph named count tables
